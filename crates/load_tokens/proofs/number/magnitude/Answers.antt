use Rattle.load_tokens.specs.LexicalErrors.{form_or_size}
use Rattle.std.proofs.Common.{sym, ◌∙◌, ap}
use Rattle.std.proofs.lemmas.List.{take_rest}
use Rattle.il_syntax.specs.Text.{based_value}
use Rattle.load_tokens.proofs.Results.{if_ok, if_err}
use Rattle.load_tokens.proofs.Numbers.{of_two, of_eight, of_sixteen, of_ten}
use Rattle.load_tokens.proofs.number.magnitude.Goals as goal

pub returns-then-starts_with-clause-found : goal.returns-then-starts_with-clause-found
returns-then-starts_with-clause-found c =
    if_ok c.based_value.result _ _ (λ n h. of_two c.args.bytes.now (sym c.if-starts_with.ensures.value) ∙ ap (based_value 2) (sym (take_rest c.args.bytes.now 2)) ∙ h) c.based_value.ensures.found

pub returns-then-starts_with-clause-refused : goal.returns-then-starts_with-clause-refused
returns-then-starts_with-clause-refused c =
    if_err c.based_value.result _ _ (λ _ h n e. h n (ap (based_value 2) (take_rest c.args.bytes.now 2) ∙ sym (of_two c.args.bytes.now (sym c.if-starts_with.ensures.value)) ∙ e)) c.based_value.ensures.refused

pub returns-then-starts_with-2-clause-found : goal.returns-then-starts_with-2-clause-found
returns-then-starts_with-2-clause-found c =
    if_ok c.based_value-then-starts_with-2.result _ _
    (λ n h. of_eight c.args.bytes.now (sym c.if-starts_with.ensures.value) (sym c.if-starts_with-2.ensures.value) ∙ ap (based_value 8) (sym (take_rest c.args.bytes.now 2)) ∙ h) c.based_value-then-starts_with-2.ensures.found

pub returns-then-starts_with-2-clause-refused : goal.returns-then-starts_with-2-clause-refused
returns-then-starts_with-2-clause-refused c =
    if_err c.based_value-then-starts_with-2.result _ _
    (λ _ h n e. h n (ap (based_value 8) (take_rest c.args.bytes.now 2) ∙ sym (of_eight c.args.bytes.now (sym c.if-starts_with.ensures.value) (sym c.if-starts_with-2.ensures.value)) ∙ e)) c.based_value-then-starts_with-2.ensures.refused

pub returns-then-starts_with-3-clause-found : goal.returns-then-starts_with-3-clause-found
returns-then-starts_with-3-clause-found c =
    if_ok c.based_value-then-starts_with-3.result _ _
    (λ n h. of_sixteen c.args.bytes.now (sym c.if-starts_with.ensures.value) (sym c.if-starts_with-2.ensures.value) (sym c.if-starts_with-3.ensures.value) ∙ ap (based_value 16) (sym (take_rest c.args.bytes.now 3)) ∙ h) c.based_value-then-starts_with-3.ensures.found

pub returns-then-starts_with-3-clause-refused : goal.returns-then-starts_with-3-clause-refused
returns-then-starts_with-3-clause-refused c =
    if_err c.based_value-then-starts_with-3.result _ _
    (λ _ h n e. h n (ap (based_value 16) (take_rest c.args.bytes.now 3) ∙ sym (of_sixteen c.args.bytes.now (sym c.if-starts_with.ensures.value) (sym c.if-starts_with-2.ensures.value) (sym c.if-starts_with-3.ensures.value)) ∙ e)) c.based_value-then-starts_with-3.ensures.refused

pub returns-else-starts_with-3-clause-found : goal.returns-else-starts_with-3-clause-found
returns-else-starts_with-3-clause-found c =
    if_ok c.based_value-else-starts_with-3.result _ _
    (λ n h. of_ten c.args.bytes.now (sym c.if-starts_with.ensures.value) (sym c.if-starts_with-2.ensures.value) (sym c.if-starts_with-3.ensures.value) ∙ h) c.based_value-else-starts_with-3.ensures.found

pub returns-else-starts_with-3-clause-refused : goal.returns-else-starts_with-3-clause-refused
returns-else-starts_with-3-clause-refused c =
    if_err c.based_value-else-starts_with-3.result _ _
    (λ _ h n e. h n (sym (of_ten c.args.bytes.now (sym c.if-starts_with.ensures.value) (sym c.if-starts_with-2.ensures.value) (sym c.if-starts_with-3.ensures.value)) ∙ e)) c.based_value-else-starts_with-3.ensures.refused

pub returns-then-starts_with-clause-error : goal.returns-then-starts_with-clause-error
returns-then-starts_with-clause-error c =
    if_err c.based_value.result _ _ (λ _ h. h ∙ ap form_or_size (ap (based_value 2) (take_rest c.args.bytes.now 2) ∙ sym (of_two c.args.bytes.now (sym c.if-starts_with.ensures.value)))) c.based_value.ensures.error

pub returns-then-starts_with-2-clause-error : goal.returns-then-starts_with-2-clause-error
returns-then-starts_with-2-clause-error c =
    if_err c.based_value-then-starts_with-2.result _ _
    (λ _ h. h ∙ ap form_or_size (ap (based_value 8) (take_rest c.args.bytes.now 2) ∙ sym (of_eight c.args.bytes.now (sym c.if-starts_with.ensures.value) (sym c.if-starts_with-2.ensures.value)))) c.based_value-then-starts_with-2.ensures.error

pub returns-then-starts_with-3-clause-error : goal.returns-then-starts_with-3-clause-error
returns-then-starts_with-3-clause-error c =
    if_err c.based_value-then-starts_with-3.result _ _
    (λ _ h. h ∙ ap form_or_size (ap (based_value 16) (take_rest c.args.bytes.now 3) ∙ sym (of_sixteen c.args.bytes.now (sym c.if-starts_with.ensures.value) (sym c.if-starts_with-2.ensures.value) (sym c.if-starts_with-3.ensures.value)))) c.based_value-then-starts_with-3.ensures.error

pub returns-else-starts_with-3-clause-error : goal.returns-else-starts_with-3-clause-error
returns-else-starts_with-3-clause-error c =
    if_err c.based_value-else-starts_with-3.result _ _
    (λ _ h. h ∙ ap form_or_size (sym (of_ten c.args.bytes.now (sym c.if-starts_with.ensures.value) (sym c.if-starts_with-2.ensures.value) (sym c.if-starts_with-3.ensures.value)))) c.based_value-else-starts_with-3.ensures.error
