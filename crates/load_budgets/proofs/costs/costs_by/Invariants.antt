use Rattle.std.proofs.Common.{◌≡◌, ◌++◌, map, drop}
use Rattle.load_budgets.specs.Rounds.{unit_cost}
use Rattle.load_budgets.proofs.costs.costs_by.Given as goal

abbrev pub invariant-all : goal.invariant-all
invariant-all l = l.more ++ map (unit_cost l.costs) (drop l.ways-index l.all) ≡ map (unit_cost l.costs) l.all
