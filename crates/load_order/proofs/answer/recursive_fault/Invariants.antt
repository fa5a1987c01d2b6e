use Rattle.il_statics.specs.Least.{IsLeast}
use Rattle.load_order.specs.Breaks.{RecursionsBreak}
use Rattle.load_order.proofs.answer.recursive_fault.Given as goal

abbrev pub invariant-loop-at : goal.invariant-loop-at
invariant-loop-at l = IsLeast l.found (RecursionsBreak l.names l.reached l.at)
