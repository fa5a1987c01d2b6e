use Rattle.std.proofs.Common.{rules}
use Rattle.il_blocks.proofs.counters.after_edges.Goals as goal

pub returns-in-true-false : goal.returns-in-true-false
returns-in-true-false c = search rules

pub returns-in-false-true : goal.returns-in-false-true
returns-in-false-true c = search rules

pub returns-in-true-true : goal.returns-in-true-true
returns-in-true-true c = search rules

pub returns-in-true-true-2 : goal.returns-in-true-true-2
returns-in-true-true-2 c = search rules
