use Rattle.il_statics.specs.Least.{IsLeast}
use Rattle.load_budgets.specs.Units.{AreOver}
use Rattle.load_budgets.proofs.units.too_long.Given as goal

abbrev pub invariant-loop-at : goal.invariant-loop-at
invariant-loop-at l = IsLeast l.found (AreOver l.names l.costs l.at)
