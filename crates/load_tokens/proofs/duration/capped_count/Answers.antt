use Rattle.load_tokens.proofs.Capped.{count_step}
use Rattle.load_tokens.proofs.duration.capped_count.Goals as goal

pub loop-digit-preserved : goal.loop-digit-preserved
loop-digit-preserved c = count_step c.args.digits.now _ _ _ _ c.loop-digit-test.true (c.requires _ c.loop-digit-test.true) c.loop-digit.invariant c.from.ensures c.min-count.ensures
