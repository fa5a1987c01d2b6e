use Rattle.std.proofs.Common.{◌<◌, length, arith}
use Rattle.ranges_rows.specs.Ranges.{widened}
use Rattle.ranges_rows.proofs.Widened.{widened_length, taken_next, taken_length, taken_all}
use Rattle.ranges_rows.proofs.wide.widen.Goals as goal

pub loop-number-preserved : goal.loop-number-preserved
loop-number-preserved c =
    let l = widened_length c.args.words.now in
    let low : c.loop-number.number < length (widened c.args.words.now) = omega (arith, l, c.loop-number-test.true, c.loop-number.auto.number-end) in
    let long = taken_length (widened c.args.words.now) c.loop-number.wide.items c.loop-number.number (omega (arith, low)) c.loop-number.invariant.is in
    record {
      is = taken_next (widened c.args.words.now) c.loop-number.wide.items c.push.new.self.items c.loop-number.number c.range_in.result low c.loop-number.invariant.is (grind arith) c.range_in.ensures;
      room = grind arith;
      enough = c.loop-number.invariant.enough;
    }

pub returns-clause-ranges : goal.returns-clause-ranges
returns-clause-ranges c =
    let l = widened_length c.args.words.now in
    taken_all (widened c.args.words.now) c.loop-number.wide.items c.loop-number.number (grind arith) c.loop-number.invariant.is
