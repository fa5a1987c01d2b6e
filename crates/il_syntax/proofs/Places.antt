-- Places.
use Rattle.std.specs.Prelude.{◌≡◌}
use Rattle.il_syntax.specs.declared.tree.Place.{Place}

-- a place is its offset and its line
pub place_is : (a b : Place) → a.offset ≡ b.offset → a.line ≡ b.line → a ≡ b
place_is a b p q = λ i. record { offset = p i; line = q i }
