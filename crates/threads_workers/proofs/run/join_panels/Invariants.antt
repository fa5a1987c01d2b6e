use Rattle.std.proofs.Common.{◌≡◌, ◌+◌, ◌≤◌, length}
use Rattle.std.specs.Prelude.{All, sum_by}
use Rattle.threads_desk.specs.Account.{times}
use Rattle.group_spec.specs.declared.calls.Call.{Call}
use Rattle.threads_workers.specs.Panels.{IsIdle, at_panel}
use Rattle.threads_workers.proofs.run.join_panels.Given as goal

abbrev pub invariant-pressed : goal.invariant-pressed
invariant-pressed g l = record {
  count : length l.pressed.items + length l.passes.items ≡ length l.fn.panels.pressed.items + length l.fn.panels.idle.items;
  pressed : All (λ h. IsIdle l.fn.desk.table h.promise.before.value) l.pressed.items;
  tables : All (λ p. p.table ≡ l.fn.desk.table) l.passes.items;
  made : (c : Call) → sum_by (λ p. times c p.pressed) l.passes.items + sum_by (λ h. at_panel c h.promise.presses.value.now h.promise.before.value) l.pressed.items ≡ sum_by (λ h. at_panel c h.promise.presses.value.now h.promise.before.value) l.fn.panels.pressed.items;
  news : (c : Call) → sum_by (λ p. times c p.news) l.passes.items ≤ sum_by (λ p. times c p.pressed) l.passes.items;
}

abbrev pub decreases-pressed : goal.decreases-pressed
decreases-pressed g l = length l.pressed.items
