-- The most work of units, round by round (own rules).
use Rattle.std.specs.Prelude.{ℕ, zero, suc, List, [], map}
use Rattle.load_work.specs.declared.weights.Weighed.{Weighed}
use Rattle.load_work.specs.Table.{left_up, lefts_above}

-- the work of a unit, by that of the units that it calls
abbrev pub unit_work : List ℕ → List Weighed → ℕ
unit_work works all = left_up (lefts_above works 0 all) 0

abbrev pub works_by : List (List Weighed) → List ℕ → List ℕ
works_by all works = map (unit_work works) all

-- the work of all units, where units use one another at most so deep
abbrev pub rounds : ℕ → List (List Weighed) → List ℕ
rounds zero all = []
rounds (suc n) all = works_by all (rounds n all)
