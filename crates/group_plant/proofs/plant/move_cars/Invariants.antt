use Rattle.std.proofs.Common.{◌≡◌, length, ◌++◌, map, take, drop}
use Rattle.std.specs.Prelude.{All}
use Rattle.group_spec.specs.Plant.{moved_all}
use Rattle.group_plant.specs.Cars.{placed, IsPlaced}
use Rattle.group_plant.proofs.plant.move_cars.Given as goal

abbrev pub invariant-loop-i : goal.invariant-loop-i
invariant-loop-i l = record {
  made : map placed (take l.i l.cars) ++ moved_all l.floors (map placed (drop l.i l.cars)) (drop l.i l.outputs) ≡ moved_all l.floors (map placed l.initial.cars) l.outputs;
  long : length l.cars ≡ length l.initial.cars;
  stay : All (IsPlaced l.floors) l.cars;
}
