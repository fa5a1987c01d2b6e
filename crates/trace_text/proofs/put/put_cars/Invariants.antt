use Rattle.std.proofs.Common.{◌≡◌, ◌≤◌, ◌+◌, ◌*◌, ◌++◌, length, take}
use Rattle.std.specs.Prelude.{flat_map}
use Rattle.trace_text.specs.Text.{car_part}
use Rattle.trace_text.proofs.put.put_cars.Given as goal

abbrev pub invariant-cars : goal.invariant-cars
invariant-cars l = record {
  text : l.waiting ≡ l.fn.waiting ++ flat_map car_part (take l.car-index l.cars);
  short : length l.waiting ≤ length l.fn.waiting + 23 * l.car-index;
}
