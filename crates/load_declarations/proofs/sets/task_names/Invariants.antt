use Rattle.std.proofs.Common.{map, take}
use Rattle.load_declarations.specs.TaskRules.{IsSet}
use Rattle.load_declarations.proofs.sets.task_names.Given as goal

abbrev pub invariant-loop-task : goal.invariant-loop-task
invariant-loop-task l = IsSet (map (λ t. t.name.name) (take l.task-index l.tasks)) l.set
