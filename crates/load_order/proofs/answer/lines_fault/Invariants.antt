use Rattle.il_statics.specs.Least.{IsLeast}
use Rattle.load_order.specs.Breaks.{LinesBreak}
use Rattle.load_order.proofs.answer.lines_fault.Given as goal

abbrev pub invariant-loop-at : goal.invariant-loop-at
invariant-loop-at l = IsLeast l.found (LinesBreak l.names l.reached l.counted l.at)
