use Rattle.std.proofs.Common.{◌≡◌, map, take}
use Rattle.liftplc_c.specs.Inputs.{car_of}
use Rattle.liftplc_c.proofs.fields.add_cars.Given as goal

abbrev pub invariant-cars : goal.invariant-cars
invariant-cars l = l.cars ≡ map car_of (take l.index l.fields.cars)
