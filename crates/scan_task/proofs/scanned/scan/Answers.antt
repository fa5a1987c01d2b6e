use Rattle.std.proofs.Common.{◌≡◌, Some, IsSome, sym, ap, ap₂, ◌∙◌, subst, refl, length, arith}
use Rattle.std.proofs.lemmas.List.{take_all}
use Rattle.load_slots.specs.Layout.{Rows, rows}
use Rattle.scan_loop.specs.Going.{Stored, to_end, runs_of}
use Rattle.scan_task.specs.Standing.{Standing}
use Rattle.scan_task.specs.Ran.{Begins, IsRan}
use Rattle.scan_task.proofs.Standing.{begun_of}
use Rattle.scan_task.proofs.Ending.{end_there, run_out}
use Rattle.scan_task.proofs.Values.{as_long, begins_going}
use Rattle.scan_task.proofs.scanned.scan.Goals as goal

pub run-requires-clause-ends : goal.run-requires-clause-ends
run-requires-clause-ends c =
    let config = c.args.verified.now.config in
    let store = c.begun.inside.store in
    let task = c.into_parts-task.result.0 in
    let scan = c.into_parts-task.result.1.value in
    let begun : Begins config task scan = begun_of store.config task scan store c.into_parts-task.ensures.stands c.into_parts-task.ensures.scan c.begun.invariant config (ap (λ (x : Standing). x.config) c.begun.view_is ∙ c.requires) in
    subst (λ (s : Stored). IsSome (to_end (runs_of c.running.result) c.budget-budget.result s)) (sym c.deref_mut.ensures.value)
    (end_there config c.running.ensures.runnable task scan _ refl begun.scan (begins_going config task scan begun) _ c.running.ensures.runs _ c.budget-budget.ensures)

pub invariant_of-result : goal.invariant_of-result
invariant_of-result c =
    let config = c.args.verified.now.config in
    let store = c.begun.inside.store in
    let task = c.into_parts-task.result.0 in
    let scan = c.into_parts-task.result.1.value in
    let begun : Begins config task scan = begun_of store.config task scan store c.into_parts-task.ensures.stands c.into_parts-task.ensures.scan c.begun.invariant config (ap (λ (x : Standing). x.config) c.begun.view_is ∙ c.requires) in
    let out = run_out config c.running.ensures.runnable task scan _ c.run.new.self c.run.result refl begun.scan (begins_going config task scan begun) _ c.running.ensures.runs _ c.budget-budget.ensures
    (subst (λ (s : Stored). to_end (runs_of c.running.result) c.budget-budget.result s ≡ Some (c.run.result, c.run.new.self)) c.deref_mut.ensures.value c.run.ensures) in
    let held = ap (λ (s : Stored). s.rows) (c.behind-scan.view_is ∙ c.deref.ensures) in
    let long = as_long store.config task c.into_parts-task.result.2 scan c.into_parts-task.ensures.room c.into_parts-task.ensures.scan in
    let n = long.0 in
    let f = long.1 in
    let m = ap (λ (r : Rows). length r.numbers) held in
    let g = ap (λ (r : Rows). length r.flags) held in
    let copied : c.copy_front.new.first ≡ scan.rows =
    c.copy_front.ensures ∙ ap₂ rows (take_all _ c.behind-scan.inside.rows.numbers (omega (arith, n, m))) (take_all _ c.behind-scan.inside.rows.flags (omega (arith, f, g))) ∙ held
    in (
      copied ∙ ap (λ (s : Stored). s.rows) (sym (c.of-began.ensures ∙ c.deref-2.ensures)),
      subst (λ (s : Stored). IsRan record { config = config; task = task; first = s; last = c.run.new.self }) (sym (c.of-began.ensures ∙ c.deref-2.ensures))
          (record { runnable = c.running.ensures.runnable; begins = begun; scan = out.scan; ended = out.over; count = c.run.result; some = out.some; reaches = out.reaches }),
    )
