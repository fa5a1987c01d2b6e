use Rattle.std.proofs.Common.{◌≡◌, drop}
use Rattle.group_spec.specs.Image.{positions_in_range}
use Rattle.group_spec.proofs.bounds.positions_in_range.Given as goal

abbrev pub invariant-loop-car : goal.invariant-loop-car
invariant-loop-car l = positions_in_range l.sizes (drop l.car-index l.cars) ≡ positions_in_range l.sizes l.cars
