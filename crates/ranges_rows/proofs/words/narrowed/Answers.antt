use Rattle.std.proofs.Common.{arith}
use Rattle.ranges_rows.proofs.Widened.{narrowed_is, narrowed_even}
use Rattle.ranges_rows.proofs.words.narrowed.Goals as goal

pub ranges-2-preserved : goal.ranges-2-preserved
ranges-2-preserved c = record {
  is = narrowed_is c.args.ranges.now c.ranges-2.words.items c.add.new.words.items c.ranges-2.range-index c.in-Some.ends.low c.in-Some.ends.high _ (omega (arith, c.ranges-2-test.true, c.ranges-2.auto.range-index-end)) c.ranges-2.invariant.is c.ranges-2.invariant.even c.in_ok-add.ensures c.in-Some.ensures;
  even = narrowed_even c.ranges-2.words.items c.add.new.words.items c.ranges-2.range-index c.in-Some.ends.low c.in-Some.ends.high c.ranges-2.invariant.even c.in_ok-add.ensures;
}
