use Rattle.std.proofs.Common.{◌≡◌, ℕ, Option, Some, length, slice_get}
use Rattle.scan_task.specs.declared.plans.TaskPlan.{TaskPlan}
use Rattle.scan_task.specs.Sharing.{IsPlanOf}
use Rattle.scan_task.proofs.plans.plans.Given as goal

-- those so far
abbrev pub invariant-tasks : goal.invariant-tasks
invariant-tasks l = record {
  count : length l.list ≡ l.task;
  each : (task : ℕ) (o : Option TaskPlan) → slice_get l.list task ≡ Some o → IsPlanOf l.code task o;
}
