-- How many uses can lead on from a unit at most.
use Rattle.std.specs.Prelude.{◌≡◌, ℕ, zero, suc, ◌+◌, ◌<◌, nat_eq, nat_lt, Bool, true, ◌&&◌, ◌||◌, not, if◌then◌else◌, List, [], ◌∷◌}
use Rattle.load_order.specs.Related.{tabulate, any_below, is_set, holds, closed}
use Rattle.load_order.specs.Used.{is_among}
use Rattle.load_order.specs.Counted.{number_at}
use Rattle.load_order.specs.declared.limits.Limits.{Limits}

-- how many numbers below a bound pass a test
abbrev pub count_below : ℕ → (ℕ → Bool) → ℕ
count_below zero test = 0
count_below (suc n) test = count_below n test + (if test n then 1 else 0)

-- how many a unit uses
abbrev pub uses_made : ℕ → List (List Bool) → ℕ → ℕ
uses_made count uses from = count_below count (λ to. holds uses from to)

-- whether a unit uses more than so many, by a list of how many each uses
abbrev pub uses_many : List ℕ → ℕ → ℕ → Bool
uses_many made most unit = nat_lt most (number_at made unit)

-- whether one that doesn't uses a unit
abbrev pub is_used_by_few : ℕ → List (List Bool) → List ℕ → ℕ → ℕ → Bool
is_used_by_few count uses made most to = any_below count (λ from. holds uses from to && not (uses_many made most from))

-- the reached units are known, and of each use the user or the used one is in the cover
pub record AreLimits (count : ℕ) (uses : List (List Bool)) (limits : Limits) : Type 0 where
  pub closing : limits.reached ≡ closed count uses count
  pub covers : (u v : ℕ) → u < count → v < count → holds uses u v ≡ true → (is_set limits.users u || is_set limits.used v) ≡ true

-- the users of the cover that a unit reaches, itself with them, and that are not on the way
abbrev pub users_left : ℕ → Limits → List ℕ → ℕ → ℕ
users_left count limits way from = count_below count (λ x. (nat_eq x from || holds limits.reached from x) && is_set limits.users x && not (is_among way x))

-- the others that it reaches and that are not on the way
abbrev pub is_left : Limits → List ℕ → ℕ → ℕ → Bool
is_left limits way from x = holds limits.reached from x && not (nat_eq x from) && not (is_among way x)

abbrev pub others_left : ℕ → Limits → List ℕ → ℕ → ℕ
others_left count limits way from = count_below count (λ x. is_left limits way from x)

-- the used ones of the cover among these
abbrev pub used_left : ℕ → Limits → List ℕ → ℕ → ℕ
used_left count limits way from = count_below count (λ x. is_left limits way from x && is_set limits.used x)

-- the units of a list that a unit reaches
abbrev pub reached_of : List (List Bool) → ℕ → List ℕ → List ℕ
reached_of reached from [] = []
reached_of reached from (x ∷ xs) = if holds reached from x then x ∷ reached_of reached from xs else reached_of reached from xs

-- those of them that the cover names
abbrev pub named_of : Limits → List ℕ → List ℕ
named_of limits [] = []
named_of limits (x ∷ xs) = if is_set limits.users x || is_set limits.used x then x ∷ named_of limits xs else named_of limits xs
