use Rattle.std.proofs.Common.{◌∙◌, arith, subst, ap, refl}
use Rattle.il_syntax.specs.declared.tree.Named.{Named}
use Rattle.il_statics.specs.Least.{IsLeast}
use Rattle.load_scope.proofs.Filled.{take_all}
use Rattle.load_declarations.specs.Again.{NamedAgain, after}
use Rattle.load_declarations.proofs.Againness.{so_far_none, so_far_next}
use Rattle.load_declarations.proofs.again.again_named.Goals as goal

pub loop-name-init : goal.loop-name-init
loop-name-init c = so_far_none (λ (n : Named). n.name) (λ n. n.place) 20 c.args.seen.now c.args.seen.now c.args.named.now refl

pub loop-name-preserved : goal.loop-name-preserved
loop-name-preserved c =
    so_far_next (λ (n : Named). n.name) (λ n. n.place) 20 c.args.seen.now c.args.named.now c.loop-name.name-index c.name-item.result c.as_str.result.now c.in_ok-again.again c.loop-name.found c.fault_if.result c.earlier-found.result c.loop-name.seen c.see.new.seen
    (omega arith) c.name-item.is c.as_str.ensures c.in_ok-again.ensures.again c.in_ok-again.ensures.seen c.fault_if.ensures c.earlier-found.ensures c.loop-name.invariant

pub returns-clause-found : goal.returns-clause-found
returns-clause-found c = subst (λ l. IsLeast c.loop-name.found (NamedAgain c.args.seen.now l)) (take_all c.args.named.now c.loop-name.name-index (omega arith)) c.loop-name.invariant.least

pub returns-clause-seen : goal.returns-clause-seen
returns-clause-seen c = c.loop-name.invariant.seen_is ∙ ap (after c.args.seen.now) (take_all c.args.named.now c.loop-name.name-index (omega arith))
