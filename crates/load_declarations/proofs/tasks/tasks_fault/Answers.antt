use Rattle.std.proofs.Common.{◌<◌, length, arith, refl}
use Rattle.std.proofs.lemmas.Option.{slice_get_read}
use Rattle.il_statics.proofs.Least.{least_next}
use Rattle.load_declarations.proofs.Lowest.{least_among}
use Rattle.load_declarations.specs.TaskRules.{TaskBreaks}
use Rattle.load_declarations.proofs.tasks.tasks_fault.Goals as goal

pub loop-task-preserved : goal.loop-task-preserved
loop-task-preserved c =
    let low : c.loop-task.task-index < length c.args.tasks.now = omega arith in
    least_next (λ at. TaskBreaks c.args.names.now) c.args.tasks.now c.loop-task.task-index c.task-item.result c.loop-task.found c.task_fault.result c.earlier-found.result (slice_get_read _ _ _ _ refl low c.task-item.is) c.earlier-found.ensures c.loop-task.invariant
    (c.task_fault.ensures)

pub returns : goal.returns
returns c = least_among (TaskBreaks c.args.names.now) c.args.tasks.now c.loop-task.task-index c.loop-task.found (omega arith) c.loop-task.invariant
