use Rattle.std.proofs.Common.{arith}
use Rattle.group_interlock.proofs.Stepping.{others_counted}
use Rattle.group_interlock.proofs.commit.other_running.Goals as goal

pub overflow_sub-result : goal.overflow_sub-result
overflow_sub-result c =
    omega (arith, others_counted c.args.image.now.outputs c.args.car c.running_count.result c.from.result c.is_running.result c.requires.0 c.requires.1 c.running_count.ensures c.is_running.ensures c.from.ensures)

pub returns : goal.returns
returns c =
    omega (arith, others_counted c.args.image.now.outputs c.args.car c.running_count.result c.from.result c.is_running.result c.requires.0 c.requires.1 c.running_count.ensures c.is_running.ensures c.from.ensures)
