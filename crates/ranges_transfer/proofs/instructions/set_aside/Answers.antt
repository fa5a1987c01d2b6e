use Rattle.std.proofs.Common.{refl, sym, ap, Some, ◌∙◌, ◌∷◌}
use Rattle.ranges_laws.specs.declared.facts.Facts.{Facts}
use Rattle.ranges_laws.specs.Facts.{facts}
use Rattle.ranges_laws.specs.Steps.{deferred, to_next}
use Rattle.ranges_transfer.proofs.Steps.{aside_is}
use Rattle.ranges_transfer.proofs.instructions.set_aside.Goals as goal

pub returns : goal.returns
returns g c =
    aside_is (g.S.Scope.names c.args.scope.now) c.args.facts c.args.operator c.args.first.now c.in-Some-Some.left c.in-Some-Some.result (deferred c.args.operator c.in-Some-Some.left ∷ c.args.facts.deferred) (ap (λ (f : Facts). f.result) (sym c.facts.view_is ∙ sym c.deref.ensures) ∙ c.in-Some-Some.is-0) (sym c.first_operand.ensures ∙ c.in-Some-Some.is-1) refl
    ∙ ap (λ (f : Facts). Some (to_next f)) (sym (c.in_ok-put_aside.ensures ∙ ap (λ (f : Facts). facts f.row c.in-Some-Some.result (deferred c.args.operator c.in-Some-Some.left ∷ f.deferred)) (c.deref_mut.ensures.value ∙ c.facts-2.view_is)))
