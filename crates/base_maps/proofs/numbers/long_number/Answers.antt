use Rattle.std.proofs.Common.{arith}
use Rattle.base_maps.proofs.ByText.{too_long}
use Rattle.base_maps.proofs.numbers.long_number.Goals as goal

pub returns-then-number-ge-MOST-clause-none : goal.returns-then-number-ge-MOST-clause-none
returns-then-number-ge-MOST-clause-none c = λ _.
    too_long c.args.name.now c.as_bytes-byte-items.result.now c.loop-byte.byte-index c.loop-byte.number (omega (arith, c.loop-byte-test.true)) c.loop-byte.invariant.0 (omega (arith, c.if-number-ge-MOST.true))
