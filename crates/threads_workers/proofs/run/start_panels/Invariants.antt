use Rattle.std.proofs.Common.{◌≡◌, ◌+◌, length}
use Rattle.std.specs.Prelude.{All, sum_by}
use Rattle.group_spec.specs.declared.calls.Call.{Call}
use Rattle.threads_workers.specs.Panels.{IsIdle, at_panel}
use Rattle.threads_workers.proofs.run.start_panels.Given as goal

abbrev pub invariant-panels : goal.invariant-panels
invariant-panels g l = record {
  count : length l.pressed.items + length l.idle.items + length l.panels.items ≡ length l.fn.panels.items;
  panels : All (λ p. IsIdle l.fn.desk.table p) l.panels.items;
  pressed : All (λ h. IsIdle l.fn.desk.table h.promise.before.value) l.pressed.items;
  idle : All (λ p. IsIdle l.fn.desk.table p) l.idle.items;
  made : (c : Call) → sum_by (λ h. at_panel c h.promise.presses.value.now h.promise.before.value) l.pressed.items + sum_by (λ p. at_panel c l.presses p) l.panels.items ≡ sum_by (λ p. at_panel c l.presses p) l.fn.panels.items;
}

abbrev pub decreases-panels : goal.decreases-panels
decreases-panels g l = length l.panels.items
