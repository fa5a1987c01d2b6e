use Rattle.std.proofs.Common.{◌≡◌, ◌++◌, map, string_bytes}
use Rattle.show_values.specs.Known.{each_from, task_names}
use Rattle.show_values.proofs.known.add_tasks.Given as goal

-- the names so far
abbrev pub invariant-tasks : goal.invariant-tasks
invariant-tasks l = map string_bytes l.names.items ≡ map string_bytes l.initial.names.items ++ each_from (task_names l.verified.config) 0 l.task
