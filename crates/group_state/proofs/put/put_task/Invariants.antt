use Rattle.std.proofs.Common.{◌≡◌, ◌++◌, take, string_bytes}
use Rattle.group_spec.specs.Snapshot.{program_of}
use Rattle.group_spec.specs.World.{task_at}
use Rattle.trace_text.specs.Text.{text_of_lines}
use Rattle.group_state.proofs.Puts.{some_lines}
use Rattle.group_state.proofs.put.put_task.Given as goal

-- the variables so far
abbrev pub invariant-cells : goal.invariant-cells
invariant-cells l =
    string_bytes l.text
    ≡ string_bytes l.initial.text ++ text_of_lines (some_lines l.world.program.config l.task (program_of l.world.program.config l.task) (task_at l.world.world.group l.task) (take l.at l.cells))
