use Rattle.std.proofs.Common.{◌≡◌, ◌++◌, map, drop}
use Rattle.load_budgets.specs.Rounds.{unit_ways}
use Rattle.load_budgets.proofs.costs.all_ways.Given as goal

abbrev pub invariant-units : goal.invariant-units
invariant-units l = l.all ++ map (unit_ways l.names) (drop l.at l.units) ≡ map (unit_ways l.names) l.units
