use Rattle.std.proofs.Common.{◌≡◌, ◌∙◌, subst}
use Rattle.il_statics.specs.Faults.{HasNoFault, IsRefusedBy}
use Rattle.il_semantics.specs.Annotation.{Annotated}
use Rattle.load_budgets.specs.Costs.{IsTooLong}
use Rattle.scan_task.specs.Scanning.{Program}
use Rattle.load_text.specs.Loading.{IsUnbroken, IsRefusedFor}
use Rattle.load_text.proofs.Explaining.{handed_as, if_ok, if_err}
use Rattle.load_text.proofs.Phases.{at_memory, at_ranges, at_budgets}
use Rattle.load_text.proofs.loader.verified.Goals as goal

-- ORDER

pub returns-in_err-ordered-clause-refused : goal.returns-in_err-ordered-clause-refused
returns-in_err-ordered-clause-refused c = handed_as (IsRefusedFor c.args.config) _ _ c.from_residual.ensures.1 c.in_err-ordered.ensures.refused

-- CODE

pub returns-in_err-code-clause-refused : goal.returns-in_err-code-clause-refused
returns-in_err-code-clause-refused c = handed_as (IsRefusedFor c.args.config) _ _ c.from_residual-in_err-code.ensures.1 (at_memory c.args.config _ c.in_err-code.ensures.memory)

-- RANGES

pub returns-in_err-checked-clause-refused : goal.returns-in_err-checked-clause-refused
returns-in_err-checked-clause-refused c =
    handed_as (IsRefusedFor c.args.config) _ _ c.from_residual-in_err-checked.ensures.1
    (at_ranges c.args.config c.in_ok-code.code _ (c.in_ok-code.ensures.same ∙ c.in_ok-ordered.ensures.same) c.in_ok-ordered.ensures.unbroken c.in_err-checked.ensures.refused)

-- BUDGETS

pub returns-clause-same : goal.returns-clause-same
returns-clause-same c =
    if_ok (λ (v : Program). v.config ≡ c.in_ok-checked.checked) (λ (v : Program). v.config ≡ c.args.config) c.affordable.result (λ v is. is ∙ (c.in_ok-checked.ensures.same ∙ (c.in_ok-code.ensures.same ∙ c.in_ok-ordered.ensures.same))) c.affordable.ensures.same

pub returns-clause-unbroken : goal.returns-clause-unbroken
returns-clause-unbroken c = if_ok (λ (v : Program). v.config ≡ c.in_ok-checked.checked) (λ _. IsUnbroken c.args.config) c.affordable.result (λ _ _. c.in_ok-ordered.ensures.unbroken) c.affordable.ensures.same

pub returns-clause-annotated : goal.returns-clause-annotated
returns-clause-annotated c =
    if_ok (λ (v : Program). v.config ≡ c.in_ok-checked.checked) (λ _. Annotated c.args.config) c.affordable.result (λ _ _. subst Annotated (c.in_ok-code.ensures.same ∙ c.in_ok-ordered.ensures.same) c.in_ok-checked.ensures.accepted) c.affordable.ensures.same

pub returns-clause-affordable : goal.returns-clause-affordable
returns-clause-affordable c =
    if_ok (λ _. HasNoFault (IsTooLong c.in_ok-checked.checked)) (λ _. HasNoFault (IsTooLong c.args.config)) c.affordable.result (λ _ fine. subst (λ d. HasNoFault (IsTooLong d)) (c.in_ok-checked.ensures.same ∙ (c.in_ok-code.ensures.same ∙ c.in_ok-ordered.ensures.same)) fine) c.affordable.ensures.affordable

pub returns-clause-refused : goal.returns-clause-refused
returns-clause-refused c =
    if_err (IsRefusedBy (IsTooLong c.in_ok-checked.checked)) (IsRefusedFor c.args.config) c.affordable.result
    (λ e refused. at_budgets c.args.config c.in_ok-checked.checked e (c.in_ok-checked.ensures.same ∙ (c.in_ok-code.ensures.same ∙ c.in_ok-ordered.ensures.same)) c.in_ok-ordered.ensures.unbroken (subst Annotated (c.in_ok-code.ensures.same ∙ c.in_ok-ordered.ensures.same) c.in_ok-checked.ensures.accepted) refused) c.affordable.ensures.refused
