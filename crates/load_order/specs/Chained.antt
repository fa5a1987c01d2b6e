-- Chains of uses that name no unit twice, and what keeps them from going on.
use Rattle.std.specs.Prelude.{◌≡◌, ℕ, zero, suc, ◌≤◌, nat_eq, Bool, true, false, ◌&&◌, ◌||◌, not, if◌then◌else◌, List, [], ◌∷◌, ◌++◌, Some, slice_get}
use Rattle.load_order.specs.Related.{any_below, holds}
use Rattle.load_order.specs.Used.{is_among}
use Rattle.load_order.specs.declared.dead_ends.DeadEnd.{DeadEnd}
use Rattle.il_statics.specs.declared.limits.TheConstants.{LONGEST_CHAIN}

-- whether so many uses lead on from a unit, to none on the way to it and to none twice
abbrev pub leads_on : ℕ → List (List Bool) → ℕ → List ℕ → ℕ → Bool
leads_on count uses zero before from = true
leads_on count uses (suc left) before from = any_below count (λ to. holds uses from to && not (is_among (before ++ from ∷ []) to) && leads_on count uses left (before ++ from ∷ []) to)

-- whether a chain of more than 16 units, itself counted, leads from a unit
unfoldable pub is_long : ℕ → List (List Bool) → ℕ → Bool
is_long count uses unit = leads_on count uses LONGEST_CHAIN [] unit

-- whether each number of a list is one of another
abbrev pub are_among : List ℕ → List ℕ → Bool
are_among [] way = true
are_among (n ∷ ns) way = is_among way n && are_among ns way

-- the numbers of one list, and after them those of another that are not among them
abbrev pub merged : List ℕ → List ℕ → List ℕ
merged first [] = first
merged first (n ∷ ns) = merged (if is_among first n then first else first ++ n ∷ []) ns

-- the numbers of a list but one
abbrev pub without : ℕ → List ℕ → List ℕ
without one [] = []
without one (n ∷ ns) = if nat_eq n one then without one ns else n ∷ without one ns

-- each number of a list is one of another
abbrev pub AreAmong : List ℕ → List ℕ → Type 0
AreAmong numbers way = (k : ℕ) → is_among numbers k ≡ true → is_among way k ≡ true

-- whether no way goes on to a unit: it is one of those on the way, or with them so many uses don't lead on from it
abbrev pub is_shut : ℕ → List (List Bool) → ℕ → List ℕ → ℕ → Bool
is_shut count uses left way to = is_among way to || not (leads_on count uses left way to)

-- dead ends of each unit, as they are
abbrev pub AreDead : ℕ → List (List Bool) → List (List DeadEnd) → Type 0
AreDead count uses ends = (u : ℕ) (row : List DeadEnd) (i : ℕ) (e : DeadEnd) → slice_get ends u ≡ Some row → slice_get row i ≡ Some e → leads_on count uses e.left e.on_way u ≡ false
