use Rattle.std.proofs.Common.{rules}
use Rattle.ranges_interval.proofs.greatest_remainder.Goals as goal

pub returns : goal.returns
returns c = search rules
