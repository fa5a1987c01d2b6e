use Rattle.il_statics.specs.Least.{IsLeast, Below}
use Rattle.load_declarations.specs.TaskRules.{TaskBreaks}
use Rattle.load_declarations.proofs.tasks.tasks_fault.Given as goal

abbrev pub invariant-loop-task : goal.invariant-loop-task
invariant-loop-task l = IsLeast l.found (Below (λ at. TaskBreaks l.names) l.tasks l.task-index)
