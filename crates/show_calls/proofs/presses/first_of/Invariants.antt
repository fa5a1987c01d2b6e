use Rattle.show_calls.proofs.Pressing.{AreOthers}
use Rattle.show_calls.proofs.presses.first_of.Given as goal

-- those so far are of other calls
abbrev pub invariant-presses : goal.invariant-presses
invariant-presses l = AreOthers l.call l.presses l.index
