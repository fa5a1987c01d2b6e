use Rattle.std.proofs.Common.{◌≡◌, take, length}
use Rattle.group_world.proofs.taking.take_cars.Given as goal

abbrev pub invariant-cars : goal.invariant-cars
invariant-cars l = record {
  many : length l.cars ≡ l.count;
  same : take l.index l.cars ≡ take l.index l.all;
}
