use Rattle.std.proofs.Common.{rules}
use Rattle.load_tokens.proofs.ErrorLaws.{typed_duration}
use Rattle.std.proofs.Common.{sym, ◌∙◌, ap, subst, pos, Some}
use Rattle.std.specs.Prelude.{◌≤ℤ◌}
use Rattle.il_syntax.specs.Text.{upper_case}
use Rattle.load_tokens.proofs.Results.{err_anyway}
use Rattle.load_tokens.proofs.Literals.{value_small, no_whole_literal, no_duration, kept, fitting}
use Rattle.load_tokens.proofs.literal.typed_literal.Goals as goal

pub returns-in_err-value-clause-refused : goal.returns-in_err-value-clause-refused
returns-in_err-value-clause-refused c =
    err_anyway c.from_residual.result _
    (no_whole_literal (upper_case c.args.word.now) c.args.bytes.now c.in-Some.elementary (sym c.whole_type.ensures ∙ c.in-Some.is) (λ v is good. value_small c.in-Some.elementary v good (c.in_err-value.ensures.refused v is)))

pub returns-then-not-is_value_of-clause-refused : goal.returns-then-not-is_value_of-clause-refused
returns-then-not-is_value_of-clause-refused c =
    no_whole_literal (upper_case c.args.word.now) c.args.bytes.now c.in-Some.elementary (sym c.whole_type.ensures ∙ c.in-Some.is)
    (λ v is good. fitting c.in-Some.elementary c.args.bytes.now c.in_ok-value.value v c.in_ok-value.ensures.found c.in_ok-value.ensures.small c.is_value_of.result c.is_value_of.ensures.1 c.if-not-is_value_of.true is good)

pub returns-in_err-value-2-clause-refused : goal.returns-in_err-value-2-clause-refused
returns-in_err-value-2-clause-refused c =
    err_anyway c.from_residual-in_err-value-2.result _
    (no_duration (upper_case c.args.word.now) c.args.bytes.now (c.begins_duration.ensures.yes c.if-begins_duration.true) c.in_err-value-2.ensures.refused)

pub returns-then-begins_duration-clause-found : goal.returns-then-begins_duration-clause-found
returns-then-begins_duration-clause-found c =
    let same = kept c.in_ok-value-2.value c.in_ok-value-2.ensures.small in (
      c.begins_duration.ensures.yes c.if-begins_duration.true,
      c.in_ok-value-2.ensures.found ∙ ap Some (sym same),
      subst (λ v. (pos 0 ≤ℤ v) × (v ≤ℤ pos 2147483647)) (sym same) c.in_ok-value-2.ensures.small,
    )

pub returns-in_err-value-2-clause-error : goal.returns-in_err-value-2-clause-error
returns-in_err-value-2-clause-error c =
    let same = typed_duration (upper_case c.args.word.now) c.args.bytes.now (c.begins_duration.ensures.yes c.if-begins_duration.true) in
    let error = c.in_err-value-2.ensures.error ∙ sym same in
    search rules
