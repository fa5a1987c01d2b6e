-- The budget of a task (own rules).
use Rattle.std.specs.Prelude.{ℕ, Option, Some, None, find}
use Rattle.scan_task.specs.Listing.{TaskLine, is_task_name, task_lines}
use Rattle.scan_task.specs.Scanning.{Program}

-- the budget that is listed, or 0
abbrev pub budget_in : Option TaskLine → ℕ
budget_in None = 0
budget_in (Some line) = line.budget

-- the first task that is listed under the name of a number
abbrev pub named_line : Program → ℕ → Option TaskLine
named_line p task = find (λ (line : TaskLine). is_task_name line.name task) (task_lines p)
