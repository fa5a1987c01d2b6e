use Rattle.std.proofs.Common.{◌≡◌, ◌++◌, map, drop}
use Rattle.load_work.specs.Sizes.{unit_size}
use Rattle.load_work.proofs.sizes.unit_sizes.Given as goal

abbrev pub invariant-units : goal.invariant-units
invariant-units l = l.sizes ++ map unit_size (drop l.unit-index l.config.units) ≡ map unit_size l.config.units
