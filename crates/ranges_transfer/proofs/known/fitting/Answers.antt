use Rattle.std.proofs.Common.{rules}
use Rattle.ranges_transfer.proofs.known.fitting.Goals as goal

pub returns-then-fits : goal.returns-then-fits
returns-then-fits c = search rules

pub returns-else-fits : goal.returns-else-fits
returns-else-fits c = search rules
