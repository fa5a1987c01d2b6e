use Rattle.std.proofs.Common.{◌≡◌}
use Rattle.load_budgets.specs.Rounds.{rounds}
use Rattle.load_budgets.proofs.costs.longest.Given as goal

abbrev pub invariant-rounds : goal.invariant-rounds
invariant-rounds l = l.costs ≡ rounds l._round l.all
