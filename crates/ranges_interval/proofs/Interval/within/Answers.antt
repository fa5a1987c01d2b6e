use Rattle.std.proofs.Common.{rules}
use Rattle.ranges_interval.proofs.Interval.within.Goals as goal

pub returns-then-other-self-clause-ends : goal.returns-then-other-self-clause-ends
returns-then-other-self-clause-ends c = search rules

pub returns-then-other-self-clause-numbers : goal.returns-then-other-self-clause-numbers
returns-then-other-self-clause-numbers c = search rules

pub returns-else-other-self-clause-ends : goal.returns-else-other-self-clause-ends
returns-else-other-self-clause-ends c = search rules

pub returns-else-other-self-clause-numbers : goal.returns-else-other-self-clause-numbers
returns-else-other-self-clause-numbers c = search rules
