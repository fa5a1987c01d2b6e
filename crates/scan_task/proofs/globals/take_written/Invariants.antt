use Rattle.std.proofs.Common.{◌≡◌, drop, length}
use Rattle.scan_task.specs.Sharing.{taken}
use Rattle.scan_task.proofs.globals.take_written.Given as goal

-- what is there, with what is left, is all
abbrev pub invariant-written : goal.invariant-written
invariant-written l = record {
  numbers : length l.globals.numbers ≡ length l.initial.globals.numbers;
  flags : length l.globals.flags ≡ length l.initial.globals.flags;
  rest : taken l.globals l.rows l.cells (drop l.transfer-index l.written) ≡ taken l.initial.globals l.rows l.cells l.written;
}
