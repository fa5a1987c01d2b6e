use Rattle.std.specs.Int.{w16}
use Rattle.group_spec.proofs.Bits.{bit_set, bit_cleared}
use Rattle.group_spec.proofs.outputs.with_bit.Goals as goal

pub returns-then-on : goal.returns-then-on
returns-then-on c = rw c.if-on.true (bit_set w16 c.args.set c.args.bit c.requires)

pub returns-else-on : goal.returns-else-on
returns-else-on c = rw c.if-on.false (bit_cleared w16 c.args.set c.args.bit c.requires)
