use Rattle.std.proofs.Common.{◌≡◌, ◌+◌, drop, length, map}
use Rattle.scan_image.specs.Image.{filled, position_value}
use Rattle.scan_image.proofs.image.write_positions.Given as goal

-- what is there, with what is left, is all
abbrev pub invariant-cars : goal.invariant-cars
invariant-cars l = record {
  place : l.place ≡ l.at + l.car-index;
  numbers : length l.rows.numbers ≡ length l.initial.rows.numbers;
  flags : length l.rows.flags ≡ length l.initial.rows.flags;
  rest : filled l.rows l.place (map position_value (drop l.car-index l.cars)) ≡ filled l.initial.rows l.at (map position_value l.cars);
}
