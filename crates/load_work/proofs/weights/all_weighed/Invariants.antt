use Rattle.std.proofs.Common.{◌≡◌, ◌++◌, map, drop}
use Rattle.load_work.specs.Weights.{unit_weighed}
use Rattle.load_work.proofs.weights.all_weighed.Given as goal

abbrev pub invariant-units : goal.invariant-units
invariant-units l = l.all ++ map (unit_weighed l.names l.sizes) (drop l.at l.units) ≡ map (unit_weighed l.names l.sizes) l.units
