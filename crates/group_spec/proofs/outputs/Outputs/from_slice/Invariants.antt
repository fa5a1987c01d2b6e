use Rattle.std.proofs.Common.{◌≡◌, take}
use Rattle.group_spec.proofs.outputs.Outputs.from_slice.Given as goal

abbrev pub invariant-cars : goal.invariant-cars
invariant-cars l = l.outputs ≡ take l.car-index l.cars
