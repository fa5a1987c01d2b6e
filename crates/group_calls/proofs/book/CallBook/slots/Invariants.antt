use Rattle.std.proofs.Common.{◌≡◌, take}
use Rattle.group_calls.proofs.book.CallBook.slots.Given as goal

abbrev pub invariant-loop-index : goal.invariant-loop-index
invariant-loop-index l = l.slots ≡ take l.index l.self.slots
