use Rattle.std.proofs.Common.{◌≡◌}
use Rattle.example_library.proofs.presses.press_often.Given as goal

abbrev pub invariant-times : goal.invariant-times
invariant-times l = l.pass.table ≡ l.fn.desk.table
