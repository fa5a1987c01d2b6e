use Rattle.threads_desk.proofs.Sets.{gathered-on}
use Rattle.threads_desk.proofs.desk.Desk.gather.Goals as goal

pub loop-index-preserved : goal.loop-index-preserved
loop-index-preserved c = gathered-on c.args.pass c.loop-index.pass c.gather_from.new.pass c.loop-index.invariant c.gather_from.ensures
