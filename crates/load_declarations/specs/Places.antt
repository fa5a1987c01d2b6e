-- The faults of one place, and of the items of a list.
use Rattle.std.specs.Prelude.{◌≡◌, ℕ, List, Option, option_map, Contains}
use Rattle.il_syntax.specs.declared.tree.Place.{Place}
use Rattle.il_statics.specs.Least.{NumberedFault, fault_at}
use Rattle.il_statics.specs.Lowest.{lowest}

-- the lowest of the numbers that are broken at one place, as a fault
abbrev pub lowest_at : List ℕ → Place → Option NumberedFault
lowest_at numbers place = option_map (λ n. fault_at n place) (lowest numbers)

-- these numbers are broken at a place
abbrev pub At : List ℕ → Place → ℕ → Place → Type 0
At numbers place number other = Contains numbers number × (other ≡ place)

-- the faults of the items of a list
abbrev pub Among : {A : Type 0} → (A → ℕ → Place → Type 0) → List A → ℕ → Place → Type 0
Among {A = A} Holds items number place = (item : A) × Contains items item × Holds item number place
