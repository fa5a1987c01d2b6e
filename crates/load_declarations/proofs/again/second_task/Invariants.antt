use Rattle.std.proofs.Common.{take}
use Rattle.il_syntax.specs.declared.tree.Task.{Task as Item}
use Rattle.base_maps.specs.NameMap.{empty}
use Rattle.load_declarations.proofs.Againness.{IsSoFar}
use Rattle.load_declarations.proofs.again.second_task.Given as goal

abbrev pub invariant-loop-task : goal.invariant-loop-task
invariant-loop-task l = IsSoFar (λ (x : Item). x.name.name) (λ x. x.place) 20 empty l.found l.seen (take l.task-index l.tasks)
