-- The lowest of numbers (own rules).
use Rattle.std.specs.Prelude.{ℕ, if◌then◌else◌, nat_lt, List, [], ◌∷◌, Option, Some, None, option_map}
use Rattle.il_statics.specs.Least.{NumberedFault}
use Rattle.il_syntax.specs.declared.tree.Place.{Place}

-- the lower of two numbers that may be there
abbrev pub lower_of : Option ℕ → Option ℕ → Option ℕ
lower_of (Some a) (Some b) = if nat_lt b a then Some b else Some a
lower_of (Some a) None = Some a
lower_of None second = second

-- the lowest number of a list, and none of an empty one
abbrev pub lowest : List ℕ → Option ℕ
lowest [] = None
lowest (n ∷ ns) = lower_of (Some n) (lowest ns)

-- a number that may be there, as a fault at a place
abbrev pub numbered_at : Option ℕ → Place → Option NumberedFault
numbered_at number place = option_map (λ n. record { number = n; place = place }) number
