use Rattle.std.proofs.Common.{◌≡◌, ◌≤◌, ◌-◌, ℕ, suc, List, Option, Some, length, slice_get, refl, sym, ap, ◌∙◌, subst, arith}
use Rattle.std.proofs.lemmas.Option.{slice_get_read}
use Rattle.il_syntax.specs.declared.tree.Step.{Step}
use Rattle.il_semantics.specs.Tests.{test_at}
use Rattle.ranges_laws.specs.Facts.{Names}
use Rattle.ranges_transfer.specs.declared.testing.VariableTest.{VariableTest}
use Rattle.ranges_transfer.specs.Testing.{AreForms, test_in}
use Rattle.ranges_transfer.proofs.Forms.{place_form}
use Rattle.ranges_transfer.proofs.testing.test_at.Goals as goal

at_place : (n : Names) (steps : List Step) → steps ≡ n.unit.body.steps → (place : ℕ) (a b c : Step) → 2 ≤ place → slice_get steps (place - 2) ≡ Some a → slice_get steps (place - 1) ≡ Some b → slice_get steps place ≡ Some c → (o : Option VariableTest) → o ≡ test_in n a b c
    → AreForms n (test_at n.config n.unit place) o
at_place n steps same place a b c low p q r o is =
    subst (AreForms n (test_at n.config n.unit place)) (sym is)
    (subst (λ m. AreForms n (test_at n.config n.unit m) (test_in n a b c)) (let e : suc (suc (place - 2)) ≡ place = omega arith in e)
    (place_form n (place - 2) a b c
    (ap (λ l. slice_get l (place - 2)) (sym same) ∙ p)
    (ap (λ l. slice_get l (suc (place - 2))) (sym same) ∙ ap (slice_get steps) (let e : suc (place - 2) ≡ place - 1 = omega arith in e) ∙ q)
    (ap (λ l. slice_get l (suc (suc (place - 2)))) (sym same) ∙ ap (slice_get steps) (let e : suc (suc (place - 2)) ≡ place = omega arith in e) ∙ r)))

pub returns : goal.returns
returns g c =
    let steps = c.args.steps.now in
    let inside = c.requires.inside in
    let low = c.if-place-lt2.false in
    at_place (g.S.Scope.names c.args.scope.now) steps c.requires.steps c.args.place c.index-steps-place.result c.index-steps-place-2.result c.index-steps-place-3.result (omega (arith, low))
    (slice_get_read steps (length steps) (c.args.place - 2) c.index-steps-place.result refl (omega (arith, inside, low)) c.index-steps-place.is)
    (slice_get_read steps (length steps) (c.args.place - 1) c.index-steps-place-2.result refl (omega (arith, inside, low)) c.index-steps-place-2.is)
    (slice_get_read steps (length steps) c.args.place c.index-steps-place-3.result refl (omega (arith, inside)) c.index-steps-place-3.is)
    c.test_of.result c.test_of.ensures
