use Rattle.std.proofs.Common.{◌≡◌, ◌++◌, string_bytes}
use Rattle.trace_text.specs.Text.{text_of_lines}
use Rattle.group_state.specs.Text.{tasks_lines}
use Rattle.group_state.proofs.put.put_tasks.Given as goal

-- the tasks so far
abbrev pub invariant-tasks : goal.invariant-tasks
invariant-tasks l = string_bytes l.text ≡ string_bytes l.initial.text ++ text_of_lines (tasks_lines l.world.program.config l.world.world.group 0 l.task)
