use Rattle.std.proofs.Common.{◌∙◌, arith, subst, ap}
use Rattle.std.specs.Prelude.{flat_map}
use Rattle.il_syntax.specs.declared.tree.Step.{Step}
use Rattle.il_syntax.specs.declared.tree.Named.{Named}
use Rattle.il_statics.specs.Least.{IsLeast}
use Rattle.load_scope.proofs.Filled.{take_all}
use Rattle.load_declarations.specs.Again.{NamedAgain, after}
use Rattle.load_declarations.proofs.Againness.{so_far_nothing, so_far_lists}
use Rattle.load_declarations.proofs.again.again_labels.Goals as goal

pub loop-step-init : goal.loop-step-init
loop-step-init c = so_far_nothing (λ (n : Named). n.name) (λ n. n.place) 20 c.args.seen.now

pub loop-step-preserved : goal.loop-step-preserved
loop-step-preserved c =
    so_far_lists (λ (n : Named). n.name) (λ n. n.place) 20 (λ (x : Step). x.labels) c.args.seen.now c.args.steps.now c.loop-step.step-index c.step-item.result c.as_slice.result.now c.loop-step.found c.in_ok-again.again c.earlier-found.result c.loop-step.seen c.again_named.new.seen
    (omega arith) c.step-item.is c.as_slice.ensures c.in_ok-again.ensures.found c.in_ok-again.ensures.seen c.earlier-found.ensures c.loop-step.invariant

pub returns-clause-found : goal.returns-clause-found
returns-clause-found c = subst (λ l. IsLeast c.loop-step.found (NamedAgain c.args.seen.now (flat_map (λ (x : Step). x.labels) l))) (take_all c.args.steps.now c.loop-step.step-index (omega arith)) c.loop-step.invariant.least

pub returns-clause-seen : goal.returns-clause-seen
returns-clause-seen c = c.loop-step.invariant.seen_is ∙ ap (λ l. after c.args.seen.now (flat_map (λ (x : Step). x.labels) l)) (take_all c.args.steps.now c.loop-step.step-index (omega arith))
