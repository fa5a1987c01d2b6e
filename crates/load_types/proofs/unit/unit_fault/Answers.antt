use Rattle.std.proofs.Common.{arith, ap, ◌∙◌}
use Rattle.load_types.specs.Arrivals.{last_of, waiting_after}
use Rattle.load_types.proofs.Over.{begins, target_in, continues, ends}
use Rattle.load_types.proofs.unit.unit_fault.Goals as goal

pub loop-at-init : goal.loop-at-init
loop-at-init g c =
    begins (g.S.Scope.config c.args.scope.now) (g.S.Scope.unit c.args.scope.now) c.args.body.now c.requires.body c.as_slice-steps.result.now c.as_slice-steps.ensures c.in_ok-table.table.items c.new-waiting.result.items c.in_ok-table.ensures c.new-waiting.ensures.items

pub pass_on-requires-clause-targets : goal.pass_on-requires-clause-targets
pass_on-requires-clause-targets g c =
    target_in (g.S.Scope.config c.args.scope.now) (g.S.Scope.unit c.args.scope.now) c.args.body.now c.requires.body c.as_slice-steps.result.now c.as_slice-steps.ensures c.loop-at.at c.loop-at.table.items c.loop-at.waiting.items c.loop-at.invariant.0 c.index-steps-at.result.instruction

pub loop-at-preserved : goal.loop-at-preserved
loop-at-preserved g c =
    continues (g.S.Scope.config c.args.scope.now) (g.S.Scope.unit c.args.scope.now) c.args.body.now c.requires.body c.as_slice-steps.result.now c.as_slice-steps.ensures c.loop-at.at c.index-steps-at.result c.loop-at.table.items c.loop-at.waiting.items c.index-arrival.result.now c.innermost-deferred.result c.in_ok-fault.fault c.loop-at.found c.at.result c.earlier-found.result c.pass_on.new.table.items c.set_aside.new.waiting.items
    c.loop-at-test.true c.index-steps-at.is c.index-arrival.ensures (c.innermost-deferred.ensures ∙ ap last_of c.as_slice.ensures.value) c.in_ok-fault.ensures c.at.ensures c.earlier-found.ensures c.pass_on.ensures (c.in_ok-set_aside.ensures ∙ ap (λ b. waiting_after c.index-steps-at.result.instruction b c.loop-at.waiting.items) c.result_at.ensures) c.loop-at.invariant

pub returns : goal.returns
returns g c =
    ends (g.S.Scope.config c.args.scope.now) (g.S.Scope.unit c.args.scope.now) c.args.body.now c.requires.body c.as_slice-steps.result.now c.as_slice-steps.ensures c.loop-at.found c.loop-at.at (let low = c.loop-at-test.false in let high = c.loop-at.auto.at-end in omega arith) c.loop-at.invariant.1
