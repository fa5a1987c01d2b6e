use Rattle.std.specs.Prelude.{◌≡◌, ◌+◌, ◌≤◌}
use Rattle.group_spec.specs.Limits.{most_cars}
use Rattle.scan_task.specs.Listing.{last_tasks, tasks_of}
use Rattle.scan_task.proofs.verified.TasksIterator.next.Given as goal

-- only numbers of tasks that are not there were passed over
abbrev pub invariant-tasks : goal.invariant-tasks
invariant-tasks l = (tasks_of l.self-inside.verified.now (last_tasks l.self-inside.left) ≡ l.fn.self) × (l.self-inside.left ≤ 1 + most_cars)

abbrev pub decreases-tasks : goal.decreases-tasks
decreases-tasks l = l.self-inside.left
