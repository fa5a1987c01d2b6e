use Rattle.std.proofs.Common.{◌≡◌, drop}
use Rattle.group_spec.specs.Calls.{told_car}
use Rattle.threads_book.proofs.book.told_car.Given as goal

abbrev pub invariant-loop-slot : goal.invariant-loop-slot
invariant-loop-slot l = told_car l.ticket (drop l.slot-index l.slots) ≡ told_car l.ticket l.slots
