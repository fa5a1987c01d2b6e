use Rattle.std.proofs.Common.{rules}
use Rattle.load_tokens.specs.LexicalErrors.{form_or_size}
use Rattle.load_tokens.proofs.ErrorLaws.{form_map}
use Rattle.std.proofs.Common.{sym, ◌∙◌, ap, pos, Some, arith, drop}
use Rattle.std.specs.Prelude.{option_map, neg_ℤ}
use Rattle.std.proofs.lemmas.Int.{ints}
use Rattle.std.proofs.lemmas.List.{take_rest}
use Rattle.il_syntax.specs.Text.{based_value, magnitude}
use Rattle.load_tokens.proofs.Results.{err_anyway}
use Rattle.load_tokens.proofs.Numbers.{negative, positive, negative_large, positive_large}
use Rattle.load_tokens.proofs.number.number_of.Goals as goal

pub returns-in_err-value-clause-refused : goal.returns-in_err-value-clause-refused
returns-in_err-value-clause-refused c =
    err_anyway c.from_residual.result _
    (negative_large c.args.bytes.now (sym c.byte_at.ensures ∙ c.if-byte_at-eq45.true) (λ n e. c.in_err-value.ensures.refused n (ap (based_value 10) (take_rest c.args.bytes.now 1) ∙ e)))

pub returns-then-byte_at-eq45-clause-found : goal.returns-then-byte_at-eq45-clause-found
returns-then-byte_at-eq45-clause-found c =
    negative c.args.bytes.now (sym c.byte_at.ensures ∙ c.if-byte_at-eq45.true)
    ∙ ap (option_map (λ n. neg_ℤ (pos n))) (ap (based_value 10) (sym (take_rest c.args.bytes.now 1)) ∙ c.in_ok-value.ensures.found)
    ∙ ap Some (omega (arith, ints, c.from.ensures))

pub returns-in_err-value-2-clause-refused : goal.returns-in_err-value-2-clause-refused
returns-in_err-value-2-clause-refused c =
    err_anyway c.from_residual-in_err-value-2.result _
    (positive_large c.args.bytes.now (λ e. c.if-byte_at-eq45.false (c.byte_at.ensures ∙ e)) c.in_err-value-2.ensures.refused)

pub returns-clause-found : goal.returns-clause-found
returns-clause-found c =
    positive c.args.bytes.now (λ e. c.if-byte_at-eq45.false (c.byte_at.ensures ∙ e))
    ∙ ap (option_map pos) c.in_ok-value-2.ensures.found
    ∙ ap Some (omega (arith, ints, c.from-2.ensures))

pub returns-in_err-value-clause-error : goal.returns-in_err-value-clause-error
returns-in_err-value-clause-error c =
    let same = ap form_or_size (ap (based_value 10) (take_rest c.args.bytes.now 1)) ∙ sym (ap form_or_size (negative c.args.bytes.now (sym c.byte_at.ensures ∙ c.if-byte_at-eq45.true)) ∙ form_map (λ n. neg_ℤ (pos n)) (based_value 10 (drop 1 c.args.bytes.now))) in
    let error = c.in_err-value.ensures.error ∙ same in
    search rules

pub returns-in_err-value-2-clause-error : goal.returns-in_err-value-2-clause-error
returns-in_err-value-2-clause-error c =
    let same = sym (ap form_or_size (positive c.args.bytes.now (λ e. c.if-byte_at-eq45.false (c.byte_at.ensures ∙ e))) ∙ form_map pos (magnitude c.args.bytes.now)) in
    let error = c.in_err-value-2.ensures.error ∙ same in
    search rules
