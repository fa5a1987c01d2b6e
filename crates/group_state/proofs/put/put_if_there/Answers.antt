use Rattle.std.proofs.Common.{ap}
use Rattle.scan_task.specs.declared.verified.Verified.{Verified}
use Rattle.group_state.proofs.Steps.{car_fits, task_there}
use Rattle.group_state.proofs.put.put_if_there.Goals as goal

pub has_task-requires : goal.has_task-requires
has_task-requires c = car_fits c.args.world.now.program.config c.verified-verified.result.now.config (ap (λ (v : Verified). v.config) c.verified-verified.ensures) c.config-config.ensures.runnable c.args.task c.requires

pub put_task-requires : goal.put_task-requires
put_task-requires c =
    task_there c.args.world.now.program.config c.verified-verified.result.now.config (ap (λ (v : Verified). v.config) c.verified-verified.ensures) c.config-config.ensures.runnable c.args.task c.requires c.if-not-has_task.ensures
