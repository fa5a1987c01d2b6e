use Rattle.std.proofs.Common.{◌≡◌, ◌+◌, drop, length, map}
use Rattle.scan_image.specs.Image.{filled}
use Rattle.scan_task.specs.Starting.{shared_value}
use Rattle.scan_task.proofs.globals.write_listed.Given as goal

-- what is there, with what is left, is all
abbrev pub invariant-slots : goal.invariant-slots
invariant-slots l = record {
  place : l.place ≡ l.at + l.slot-index;
  numbers : length l.rows.numbers ≡ length l.initial.rows.numbers;
  flags : length l.rows.flags ≡ length l.initial.rows.flags;
  rest : filled l.rows l.place (map (shared_value l.listed.cells.now l.listed.rows.now) (drop l.slot-index l.listed.slots.now)) ≡ filled l.initial.rows l.at (map (shared_value l.listed.cells.now l.listed.rows.now) l.listed.slots.now);
}
