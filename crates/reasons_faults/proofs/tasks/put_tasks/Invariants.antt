use Rattle.std.proofs.Common.{◌≡◌, ◌++◌, flat_map, take, string_bytes}
use Rattle.reasons_faults.specs.TaskReasons.{task_lines}
use Rattle.reasons_faults.proofs.tasks.put_tasks.Given as goal

abbrev pub invariant-tasks : goal.invariant-tasks
invariant-tasks l = string_bytes l.text ≡ string_bytes l.initial.text ++ flat_map (task_lines l.names l.offset) (take l.task-index l.tasks)
