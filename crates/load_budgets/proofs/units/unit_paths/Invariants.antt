use Rattle.std.proofs.Common.{◌≡◌, ◌++◌, map, drop}
use Rattle.load_budgets.specs.Costs.{path_of}
use Rattle.load_budgets.proofs.units.unit_paths.Given as goal

abbrev pub invariant-units : goal.invariant-units
invariant-units l = l.each ++ map (path_of l.names) (drop l.at l.units) ≡ map (path_of l.names) l.units
