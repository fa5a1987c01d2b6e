use Rattle.std.proofs.Common.{◌≡◌, ◌++◌, flat_map, string_bytes}
use Rattle.scan_task.specs.Listing.{task_lines}
use Rattle.cli_output.specs.Listing.{task_row}
use Rattle.cli_output.proofs.check.put_tasks.Given as goal

abbrev pub invariant-tasks : goal.invariant-tasks
invariant-tasks l = string_bytes l.text ++ flat_map (task_row l.fn.form) l.task-iterator ≡ string_bytes l.initial.text ++ flat_map (task_row l.fn.form) (task_lines l.verified)
