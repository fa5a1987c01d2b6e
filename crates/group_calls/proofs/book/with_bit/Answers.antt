use Rattle.std.specs.Int.{w64}
use Rattle.group_spec.proofs.Bits.{bit_set, bit_cleared}
use Rattle.group_calls.proofs.book.with_bit.Goals as goal

pub returns-then-on : goal.returns-then-on
returns-then-on c = rw c.if-on.true (bit_set w64 c.args.set c.args.bit c.requires)

pub returns-else-on : goal.returns-else-on
returns-else-on c = rw c.if-on.false (bit_cleared w64 c.args.set c.args.bit c.requires)
