use Rattle.std.proofs.Common.{◌≡◌, ℕ, List, sym, ◌∙◌, subst}
use Rattle.std.specs.Prelude.{codes}
use Rattle.group_spec.specs.declared.calls.Slot.{Slot}
use Rattle.trace_text.proofs.Bytes.{if_none, some_by, none_by}
use Rattle.group_state.specs.Text.{slot_part}
use Rattle.group_state.specs.Parts.{IsWaiting, IsTold}
use Rattle.group_state.specs.Saying.{HasSmallNumbers}
use Rattle.group_state.proofs.Words.{cancel, true_false}
use Rattle.group_state.proofs.Slots.{none_held, waiting_held, told_held, no_wait_told}
use Rattle.group_state.proofs.calls.held.Goals as goal

abbrev None : List ℕ → Type 0
None text = (slot : Slot) → HasSmallNumbers slot → text ≡ slot_part slot → ⊥

pub returns-then-is_free-clause-found : goal.returns-then-is_free-clause-found
returns-then-is_free-clause-found c = (tt, c.is_free.ensures.0 c.if-is_free.true)

pub returns-in_err-behind-in-None-clause-none : goal.returns-in_err-behind-in-None-clause-none
returns-in_err-behind-in-None-clause-none c =
    let none : None c.args.text.now =
    none_held c.args.text.now (λ e. true_false c.is_free.result (c.is_free.ensures.1 e) c.if-is_free.false) (λ parts slot e h. c.in-None.ensures.none parts e) (λ parts slot e h. c.in_err-behind-in-None.ensures.none parts e) in
    if_none _ _ none

pub returns-in-Some-clause-found : goal.returns-in-Some-clause-found
returns-in-Some-clause-found c = some_by c.waiting.result _ _ (λ slot h. waiting_held c.args.text.now c.in-Some.parts.now slot c.in-Some.ensures.found h) c.waiting.ensures.found

pub returns-in-Some-clause-none : goal.returns-in-Some-clause-none
returns-in-Some-clause-none c =
    let own = c.in-Some.parts.now in
    none_by c.waiting.result _ (None c.args.text.now)
    (λ none. none_held c.args.text.now (λ e. true_false c.is_free.result (c.is_free.ensures.1 e) c.if-is_free.false)
    (λ parts slot e h. none slot (subst (λ (p : List ℕ). IsWaiting p slot) (cancel (codes " WAITING") parts own (sym e ∙ c.in-Some.ensures.found)) h))
    (λ parts slot e h. no_wait_told own parts (sym c.in-Some.ensures.found ∙ e))) c.waiting.ensures.none

pub returns-in_ok-behind-in-None-clause-found : goal.returns-in_ok-behind-in-None-clause-found
returns-in_ok-behind-in-None-clause-found c = some_by c.told.result _ _ (λ slot h. told_held c.args.text.now c.in_ok-behind-in-None.field-0.now slot c.in_ok-behind-in-None.ensures.found h) c.told.ensures.found

pub returns-in_ok-behind-in-None-clause-none : goal.returns-in_ok-behind-in-None-clause-none
returns-in_ok-behind-in-None-clause-none c =
    let own = c.in_ok-behind-in-None.field-0.now in
    none_by c.told.result _ (None c.args.text.now)
    (λ none. none_held c.args.text.now (λ e. true_false c.is_free.result (c.is_free.ensures.1 e) c.if-is_free.false)
    (λ parts slot e h. c.in-None.ensures.none parts e)
    (λ parts slot e h. none slot (subst (λ (p : List ℕ). IsTold p slot) (cancel (codes " TOLD") parts own (sym e ∙ c.in_ok-behind-in-None.ensures.found)) h))) c.told.ensures.none
