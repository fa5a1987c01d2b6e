-- Relations between units, by their numbers.
use Rattle.std.specs.Prelude.{ℕ, zero, suc, Bool, false, ◌||◌, if◌then◌else◌, List, [], ◌∷◌, ◌++◌, Option, Some, None, slice_get}

-- the values at the numbers below a bound
abbrev pub tabulate : {A : Type 0} → ℕ → (ℕ → A) → List A
tabulate zero f = []
tabulate (suc n) f = tabulate n f ++ f n ∷ []

-- whether a test holds of a number below a bound
abbrev pub any_below : ℕ → (ℕ → Bool) → Bool
any_below zero test = false
any_below (suc n) test = any_below n test || test n

-- an entry of a row; what is not there is not set
abbrev pub is_entry : Option Bool → Bool
is_entry None = false
is_entry (Some set) = set

abbrev pub is_set : List Bool → ℕ → Bool
is_set row at = is_entry (slice_get row at)

-- whether a relation, by a row for each unit, holds
abbrev pub holds_in : Option (List Bool) → ℕ → Bool
holds_in None to = false
holds_in (Some row) to = is_set row to

abbrev pub holds : List (List Bool) → ℕ → ℕ → Bool
holds relation from to = holds_in (slice_get relation from) to

-- the row of a unit
abbrev pub row_or_none : Option (List Bool) → List Bool
row_or_none None = []
row_or_none (Some row) = row

-- where a relation leads from a unit, or from another
abbrev pub either_row : ℕ → List (List Bool) → ℕ → ℕ → List Bool
either_row count relation other from = tabulate count (λ to. holds relation from to || holds relation other to)

-- from a unit that leads through another, it leads on to where it leads from there
abbrev pub joined_row : ℕ → List (List Bool) → ℕ → ℕ → List Bool
joined_row count relation through from = if holds relation from through then either_row count relation through from else row_or_none (slice_get relation from)

abbrev pub joined : ℕ → List (List Bool) → ℕ → List (List Bool)
joined count relation through = tabulate count (λ from. joined_row count relation through from)

-- whether a relation leads on from a unit
abbrev pub leads_anywhere : ℕ → List (List Bool) → ℕ → Bool
leads_anywhere count relation through = any_below count (λ to. holds relation through to)

-- a relation, through one unit more
abbrev pub next : ℕ → List (List Bool) → ℕ → List (List Bool)
next count relation through = if leads_anywhere count relation through then joined count relation through else relation

-- a relation through the units with a number below a bound
abbrev pub closed : ℕ → List (List Bool) → ℕ → List (List Bool)
closed count relation zero = relation
closed count relation (suc through) = next count (closed count relation through) through
