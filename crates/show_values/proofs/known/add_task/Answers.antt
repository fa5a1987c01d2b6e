use Rattle.show_values.proofs.Knowing.{car_fits, task_there}
use Rattle.show_values.proofs.known.add_task.Goals as goal

pub has_task-requires : goal.has_task-requires
has_task-requires c = car_fits c.args.verified.now.config c.config-config.ensures.runnable c.args.task c.requires

pub add_own-requires : goal.add_own-requires
add_own-requires c = task_there c.args.verified.now.config c.config-config.ensures.runnable c.args.task c.requires c.if-not-has_task.ensures
