use Rattle.std.proofs.Common.{arith}
use Rattle.std.specs.Prelude.{◌==◌}
use Rattle.load_tokens.proofs.Runs.{count_on}
use Rattle.load_tokens.proofs.bytes.line_feeds.Goals as goal

pub sixteens-preserved : goal.sixteens-preserved
sixteens-preserved c = record {
  inside = omega arith;
  within = omega arith;
  counted = omega (arith, c.sixteens.invariant.counted, c.feeds-count.ensures.count, count_on (λ b. b == 10) c.args.bytes.now c.sixteens.at 16);
}
