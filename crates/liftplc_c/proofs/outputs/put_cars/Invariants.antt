use Rattle.std.proofs.Common.{◌≡◌, map, take}
use Rattle.liftplc_c.specs.Outputs.{car_output}
use Rattle.liftplc_c.proofs.outputs.put_cars.Given as goal

abbrev pub invariant-cars : goal.invariant-cars
invariant-cars l = take l.index l.room ≡ map car_output (take l.index l.cars)
