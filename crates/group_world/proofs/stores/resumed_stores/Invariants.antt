use Rattle.std.proofs.Common.{◌≡◌, ℕ, ◌<◌, length, Some}
use Rattle.std.specs.Prelude.{slice_get, is_some}
use Rattle.scan_task.specs.Standing.{Standing, IsOf}
use Rattle.group_spec.specs.World.{flat, task_at}
use Rattle.group_world.specs.Groups.{HasVariables}
use Rattle.group_world.proofs.stores.resumed_stores.Given as goal

-- there is a store for each task up to here, with its variables
abbrev pub invariant-loop-task : goal.invariant-loop-task
invariant-loop-task l = record {
  many : length l.stores.items ≡ l.task;
  there : (t : ℕ) → t < l.task → is_some (flat (slice_get l.stores.items t)) ≡ is_some (task_at l.core.group t);
  each : (t : ℕ) (s : Standing) → flat (slice_get l.stores.items t) ≡ Some s → IsOf l.verified.config t s;
  variables : (t : ℕ) (s : Standing) → flat (slice_get l.stores.items t) ≡ Some s → HasVariables l.core.group t s;
}
