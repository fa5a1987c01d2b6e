use Rattle.std.proofs.Common.{◌≡◌, length, ◌++◌, map, drop}
use Rattle.group_spec.specs.Plant.{fields_of_cars}
use Rattle.group_plant.specs.Cars.{placed}
use Rattle.group_plant.proofs.plant.all_fields.Given as goal

abbrev pub invariant-loop-i : goal.invariant-loop-i
invariant-loop-i l = record {
  made : l.fields ++ fields_of_cars l.floors (map placed (drop l.i l.cars)) ≡ fields_of_cars l.floors (map placed l.cars);
  count : length l.fields ≡ l.i;
}
