-- Parts of a duration (2.2.3.1).
use Rattle.std.specs.Prelude.{◌≡◌, ℕ, ◌+◌, ◌*◌, min, List, ◌∷◌, option_map}
use Rattle.il_syntax.specs.Text.{parts_value, upper_case}
use Rattle.load_tokens.specs.declared.duration.Part.{Part}

-- so many of a unit, given in upper case, at the front of these bytes, each of so many milliseconds, and what is left of the bytes
abbrev pub IsPartOf : List ℕ → List ℕ → ℕ → Part → Type 0
IsPartOf bytes unit milliseconds part =
    (count : ℕ) × (part.milliseconds ≡ min count 2147483648 * milliseconds)
    × ((units : List (List ℕ × ℕ)) → parts_value ((unit, milliseconds) ∷ units) (upper_case bytes) ≡ option_map (λ n. count * milliseconds + n) (parts_value units (upper_case part.rest.now)))
