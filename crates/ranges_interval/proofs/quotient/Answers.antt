use Rattle.std.proofs.Common.{rules}
use Rattle.ranges_interval.proofs.quotient.Goals as goal

pub returns : goal.returns
returns c = search rules
