use Rattle.std.proofs.Common.{arith}
use Rattle.group_calls.proofs.Sets.{lowest_is}
use Rattle.group_calls.proofs.book.lowest_bit.Goals as goal

pub returns-clause-found : goal.returns-clause-found
returns-clause-found c = lowest_is c.args.set c.if-set-eq0.false (omega (arith, c.ranges.set.fits))
