use Rattle.std.proofs.Common.{◌≡◌, ◌<◌, length, arith, ap, subst, sym, ◌∙◌}
use Rattle.il_statics.specs.Types.{opener, IsResultAt, IsDeferredAt}
use Rattle.load_types.specs.Arrivals.{last_of, waiting_after}
use Rattle.load_types.proofs.Over.{target_in}
use Rattle.load_types.proofs.Steps.{IsAt}
use Rattle.reasons_types.proofs.ResultPasses.{begins, continues, result_there, waits_there}
use Rattle.reasons_types.proofs.types_results.types_at.Goals as goal

pub loop-at-init : goal.loop-at-init
loop-at-init g c =
    begins (g.S.Scope.config c.args.scope.now) (g.S.Scope.unit c.args.scope.now) c.args.body.now c.requires.body c.as_slice-steps.result.now c.as_slice-steps.ensures c.in_ok-table.table.items c.new-waiting.result.items c.in_ok-table.ensures c.new-waiting.ensures.items

pub pass_on-requires-clause-targets : goal.pass_on-requires-clause-targets
pass_on-requires-clause-targets g c =
    target_in (g.S.Scope.config c.args.scope.now) (g.S.Scope.unit c.args.scope.now) c.args.body.now c.requires.body c.as_slice-steps.result.now c.as_slice-steps.ensures c.loop-at.at c.loop-at.table.items c.loop-at.waiting.items c.loop-at.invariant c.index-steps-at.result.instruction

pub loop-at-preserved : goal.loop-at-preserved
loop-at-preserved g c =
    continues (g.S.Scope.config c.args.scope.now) (g.S.Scope.unit c.args.scope.now) c.args.body.now c.requires.body c.as_slice-steps.result.now c.as_slice-steps.ensures c.loop-at.at c.index-steps-at.result c.loop-at.table.items c.loop-at.waiting.items c.index-arrival.result.now c.innermost-deferred.result c.pass_on.new.table.items c.set_aside.new.waiting.items
    (omega (arith, ap length c.as_slice-steps.ensures, c.loop-at-test.true, c.requires.stands)) c.index-steps-at.is c.index-arrival.ensures (c.innermost-deferred.ensures ∙ ap last_of c.as_slice.ensures.value) c.pass_on.ensures (c.in_ok-set_aside.ensures ∙ ap (λ b. waiting_after c.index-steps-at.result.instruction b c.loop-at.waiting.items) c.result_at.ensures) c.loop-at.invariant

pub returns-clause-result : goal.returns-clause-result
returns-clause-result g c =
    let config = g.S.Scope.config c.args.scope.now in
    let unit = g.S.Scope.unit c.args.scope.now in
    let there : c.loop-at.at ≡ c.args.place = omega (arith, c.loop-at-test.false, c.loop-at.auto.at-end) in
    let low : c.args.place < length c.as_slice-steps.result.now = omega (arith, ap length c.as_slice-steps.ensures, c.requires.stands) in
    let ended = subst (λ k. IsAt config unit k c.loop-at.table.items c.loop-at.waiting.items) there c.loop-at.invariant in
    subst (IsResultAt config unit c.args.place) (sym c.result_at-2.ensures)
    (result_there config unit c.args.body.now c.requires.body c.as_slice-steps.result.now c.as_slice-steps.ensures c.args.place c.loop-at.table.items c.loop-at.waiting.items c.index-reached.result.now low c.index-reached.ensures ended)

pub returns-clause-waits : goal.returns-clause-waits
returns-clause-waits g c =
    let config = g.S.Scope.config c.args.scope.now in
    let unit = g.S.Scope.unit c.args.scope.now in
    let there : c.loop-at.at ≡ c.args.place = omega (arith, c.loop-at-test.false, c.loop-at.auto.at-end) in
    let ended = subst (λ k. IsAt config unit k c.loop-at.table.items c.loop-at.waiting.items) there c.loop-at.invariant in
    subst (IsDeferredAt config unit (opener unit.body c.args.place)) (sym (c.innermost-outer.ensures ∙ ap last_of c.as_slice-2.ensures.value))
    (waits_there config unit c.args.body.now c.requires.body c.as_slice-steps.result.now c.as_slice-steps.ensures c.args.place c.loop-at.table.items c.loop-at.waiting.items ended)
