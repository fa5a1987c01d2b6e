use Rattle.std.proofs.Common.{◌≡◌, ◌++◌, flat_map, take, string_bytes}
use Rattle.show_names.specs.Warnings.{task_text}
use Rattle.show_names.proofs.warnings.put_unlike.Given as goal

abbrev pub invariant-tasks : goal.invariant-tasks
invariant-tasks l = string_bytes l.text ≡ string_bytes l.initial.text ++ flat_map (task_text l.first) (take l.task-index l.tasks)
