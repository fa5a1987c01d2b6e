use Rattle.std.proofs.Common.{◌≡◌, ◌∙◌, sym, subst}
use Rattle.il_statics.specs.Faults.{HasNoFault, IsRefusedBy, BreaksDeclarations, Broken, Typing, Ordering}
use Rattle.load_text.specs.Loading.{IsRefusedFor, IsUnbroken, by_declarations}
use Rattle.load_text.proofs.Explaining.{handed_as, if_ok, if_err}
use Rattle.load_text.proofs.Accepting.{breaks, breaks_here}
use Rattle.load_text.proofs.Phases.{at_types, at_order, unbroken_by}
use Rattle.load_text.proofs.loader.in_order.Goals as goal

-- DECLARATIONS

pub returns-in_err-declared-clause-refused : goal.returns-in_err-declared-clause-refused
returns-in_err-declared-clause-refused c = handed_as (IsRefusedFor c.args.config) _ _ c.from_residual.ensures.1 (by_declarations c.in_err-declared.ensures.refused)

pub returns-in_err-declared-clause-broken : goal.returns-in_err-declared-clause-broken
returns-in_err-declared-clause-broken c = λ fault unbroken. breaks (BreaksDeclarations c.args.config) _ _ c.from_residual.ensures.1 fault c.in_err-declared.ensures.refused unbroken.declared

-- TYPES

pub returns-in_err-typed-clause-refused : goal.returns-in_err-typed-clause-refused
returns-in_err-typed-clause-refused c =
    handed_as (IsRefusedFor c.args.config) _ _ c.from_residual-in_err-typed.ensures.1
    (at_types c.args.config c.in_ok-declared.declared _ c.in_ok-declared.ensures.same c.in_ok-declared.ensures.accepted c.in_err-typed.ensures.refused)

pub returns-in_err-typed-clause-broken : goal.returns-in_err-typed-clause-broken
returns-in_err-typed-clause-broken c = λ fault unbroken.
    breaks (Broken Typing c.in_ok-declared.declared) _ _ c.from_residual-in_err-typed.ensures.1 fault c.in_err-typed.ensures.refused (subst (λ d. HasNoFault (Broken Typing d)) (sym c.in_ok-declared.ensures.same) unbroken.typed)

-- ORDER

pub returns-clause-same : goal.returns-clause-same
returns-clause-same c = if_ok (λ o. o ≡ c.in_ok-typed.typed) (λ o. o ≡ c.args.config) c.ordered.result (λ o is. is ∙ (c.in_ok-typed.ensures.same ∙ c.in_ok-declared.ensures.same)) c.ordered.ensures.same

pub returns-clause-unbroken : goal.returns-clause-unbroken
returns-clause-unbroken c =
    if_ok (λ _. HasNoFault (Broken Ordering c.in_ok-typed.typed)) (λ _. IsUnbroken c.args.config) c.ordered.result
    (λ _ fine. unbroken_by c.args.config c.in_ok-typed.typed (c.in_ok-typed.ensures.same ∙ c.in_ok-declared.ensures.same) c.in_ok-declared.ensures.accepted (subst (λ d. HasNoFault (Broken Typing d)) c.in_ok-declared.ensures.same c.in_ok-typed.ensures.accepted) fine) c.ordered.ensures.accepted

pub returns-clause-refused : goal.returns-clause-refused
returns-clause-refused c =
    if_err (IsRefusedBy (Broken Ordering c.in_ok-typed.typed)) (IsRefusedFor c.args.config) c.ordered.result
    (λ e refused. at_order c.args.config c.in_ok-typed.typed e (c.in_ok-typed.ensures.same ∙ c.in_ok-declared.ensures.same) c.in_ok-declared.ensures.accepted (subst (λ d. HasNoFault (Broken Typing d)) c.in_ok-declared.ensures.same c.in_ok-typed.ensures.accepted) refused) c.ordered.ensures.refused

pub returns-clause-broken : goal.returns-clause-broken
returns-clause-broken c = λ fault unbroken.
    breaks_here (Broken Ordering c.in_ok-typed.typed) c.ordered.result fault c.ordered.ensures.refused (subst (λ d. HasNoFault (Broken Ordering d)) (sym (c.in_ok-typed.ensures.same ∙ c.in_ok-declared.ensures.same)) unbroken.ordered)
