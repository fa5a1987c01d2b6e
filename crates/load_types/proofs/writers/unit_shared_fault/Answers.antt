use Rattle.std.proofs.Common.{◌≡◌, true, arith, ap, refl, sym, subst, length, ◌∙◌}
use Rattle.std.specs.List.{list_any}
use Rattle.il_syntax.specs.declared.tree.Step.{Step}
use Rattle.il_statics.specs.Types.{stored_names}
use Rattle.il_statics.specs.Least.{IsLeast, Below, When}
use Rattle.il_statics.proofs.Least.{least_none, least_next, least_if}
use Rattle.load_scope.proofs.Seen.{read_at}
use Rattle.load_types.specs.Writers.{is_shared, stores_shared}
use Rattle.load_types.proofs.writers.unit_shared_fault.Goals as goal

pub loop-step-init : goal.loop-step-init
loop-step-init c = least_none _ _ refl (λ n p h. omega (arith, h.2))

pub loop-step-preserved : goal.loop-step-preserved
loop-step-preserved c =
    let same = c.stores_shared-shared.ensures ∙ ap (λ u. list_any (is_shared u c.args.writers.now) (stored_names c.step-item.result.instruction)) c.requires in
    least_next (λ at. λ (s : Step). When (stores_shared c.args.unit.now c.args.writers.now s ≡ true) 38 s.place) c.args.unit.now.body.steps c.loop-step.step-index c.step-item.result c.loop-step.found c.fault_if.result c.earlier-found.result
    (read_at c.as_slice-step-items.result.now c.args.unit.now.body.steps c.loop-step.step-index c.step-item.result c.as_slice-step-items.ensures (omega arith) c.step-item.is) c.earlier-found.ensures c.loop-step.invariant
    (least_if c.stores_shared-shared.result 38 c.step-item.result.place c.fault_if.result (stores_shared c.args.unit.now c.args.writers.now c.step-item.result ≡ true) c.fault_if.ensures (λ e. sym same ∙ e) (λ e. same ∙ e))

pub returns : goal.returns
returns c =
    let e = ap length c.as_slice-step-items.ensures in
    let same : c.loop-step.step-index ≡ length c.args.unit.now.body.steps = omega arith in
    subst (λ k. IsLeast c.loop-step.found (Below (λ at. λ (s : Step). When (stores_shared c.args.unit.now c.args.writers.now s ≡ true) 38 s.place) c.args.unit.now.body.steps k)) same c.loop-step.invariant
