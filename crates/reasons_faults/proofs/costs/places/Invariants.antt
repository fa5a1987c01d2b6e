use Rattle.std.proofs.Common.{◌≡◌, ◌++◌, ◌-◌, length}
use Rattle.load_budgets.specs.Rounds.{followed}
use Rattle.reasons_faults.specs.CostReasons.{places_by}
use Rattle.reasons_faults.proofs.costs.places.Given as goal

-- with what is left of the path
abbrev pub invariant-places : goal.invariant-places
invariant-places l = l.places ++ followed (length l.rests - l._passed) l.rests l.at ≡ places_by l.rests
