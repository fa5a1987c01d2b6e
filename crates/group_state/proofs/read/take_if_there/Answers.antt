use Rattle.std.proofs.Common.{◌∙◌, sym, refl}
use Rattle.group_state.proofs.Steps.{car_fits, task_there}
use Rattle.group_state.proofs.Readings.{none_read}
use Rattle.group_state.proofs.read.take_if_there.Goals as goal

pub has_task-requires : goal.has_task-requires
has_task-requires c = car_fits c.args.verified.now.config c.args.verified.now.config refl c.config-config.ensures.runnable c.args.task c.requires.task

pub returns-then-not-has_task-clause-found : goal.returns-then-not-has_task-clause-found
returns-then-not-has_task-clause-found c = none_read c.args.verified.now.config c.args.core.now.group c.args.task c.args.from (sym c.has_task.ensures ∙ c.if-not-has_task.true) c.requires.opened

pub take_task-requires-clause-there : goal.take_task-requires-clause-there
take_task-requires-clause-there c = task_there c.args.verified.now.config c.args.verified.now.config refl c.config-config.ensures.runnable c.args.task c.requires.task c.if-not-has_task.ensures
