use Rattle.std.proofs.Common.{◌≡◌, ℕ, List, Some, length, get_or, slice_get, Result, Ok, Err, refl, sym, ap, ◌∙◌, arith}
use Rattle.std.specs.Prelude.{IfOk, option_map}
use Rattle.std.proofs.lemmas.Option.{slice_get_read}
use Rattle.il_syntax.specs.declared.tree.Step.{Step}
use Rattle.il_semantics.specs.Step.{instruction_at, instruction_or_return}
use Rattle.ranges_laws.specs.Facts.{Names}
use Rattle.ranges_laws.specs.Steps.{moves, moves_of}
use Rattle.ranges_transfer.specs.Tables.{moved}
use Rattle.ranges_transfer.specs.Testing.{test_jump_in}
use Rattle.ranges_transfer.proofs.Forms.{fine_test, tested_form, untested_form, tested_moves, untested_moves}
use Rattle.ranges_transfer.proofs.places.hand_on.Goals as goal

if_ok : {X E : Type 0} (r : Result X E) (P Q : X → Type 0) → ((x : X) → P x → Q x) → IfOk r P → IfOk r Q
if_ok (Ok x) P Q f p = f x p
if_ok (Err e) P Q f p = tt

-- the instruction of a place
at_place : (n : Names) (steps : List Step) → steps ≡ n.unit.body.steps → (place : ℕ) (s : Step) → slice_get steps place ≡ Some s → instruction_at n.unit.body place ≡ s.instruction
at_place n steps same place s e = ap instruction_or_return (ap (λ l. slice_get l place) (sym same) ∙ e)

pub hand_on_tested-requires : goal.hand_on_tested-requires
hand_on_tested-requires g c =
    let t = tested_form (g.S.Scope.names c.args.scope.now) c.args.place c.in-Some.test c.test_at.result c.test_at.ensures c.in-Some.is in
    record { operands = fine_test (g.S.Scope.names c.args.scope.now) t.test c.in-Some.test t.form c.args.facts c.requires.fine }

pub returns-in-Some : goal.returns-in-Some
returns-in-Some g c =
    let n = g.S.Scope.names c.args.scope.now in
    let steps = c.args.steps.now in
    let i = (get_or steps c.args.place c.index-steps-place.result).instruction in
    let inside = c.requires.inside in
    let t = tested_form n c.args.place c.in-Some.test c.test_at.result c.test_at.ensures c.in-Some.is in
    let at = at_place n steps c.requires.steps c.args.place c.index-steps-place.result (slice_get_read steps (length steps) c.args.place c.index-steps-place.result refl (omega (arith, inside)) c.index-steps-place.is) ∙ ap (λ (s : Step). s.instruction) c.index-steps-place.is in
    if_ok c.hand_on_tested.result (λ h. option_map moved h ≡ test_jump_in n c.in-Some.test c.args.facts i) (λ h. moves n n.config n.unit c.args.place c.args.facts ≡ option_map moved h)
    (λ h e. sym (tested_moves n c.args.place c.in-Some.test c.args.facts i at t) ∙ sym e) c.hand_on_tested.ensures

pub returns-in-None : goal.returns-in-None
returns-in-None g c =
    let n = g.S.Scope.names c.args.scope.now in
    let steps = c.args.steps.now in
    let i = (get_or steps c.args.place c.index-steps-place.result).instruction in
    let inside = c.requires.inside in
    let none = untested_form n c.args.place c.test_at.result c.test_at.ensures c.in-None.is in
    let at = at_place n steps c.requires.steps c.args.place c.index-steps-place.result (slice_get_read steps (length steps) c.args.place c.index-steps-place.result refl (omega (arith, inside)) c.index-steps-place.is) ∙ ap (λ (s : Step). s.instruction) c.index-steps-place.is in
    if_ok c.hand_on_untested.result (λ h. moves_of n n.config n.unit c.args.facts i ≡ option_map moved h) (λ h. moves n n.config n.unit c.args.place c.args.facts ≡ option_map moved h)
    (λ h e. sym (untested_moves n c.args.place c.args.facts i at none) ∙ e) c.hand_on_untested.ensures
