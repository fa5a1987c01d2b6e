use Rattle.std.proofs.Common.{◌∙◌, ◌+◌, sym, ap, refl}
use Rattle.std.specs.Prelude.{option_copied}
use Rattle.group_spec.specs.Settle.{AllSettled}
use Rattle.trace_text.proofs.Bytes.{if_none}
use Rattle.group_state.proofs.Denied.{nobody_denied, denied_nothing}
use Rattle.group_state.proofs.Steps.{no_first, the_first, not_both}
use Rattle.group_state.proofs.fields.disobeying.Goals as goal

pub returns-in_err-denial-clause-none : goal.returns-in_err-denial-clause-none
returns-in_err-denial-clause-none c =
    let all = c.as_slice.ensures ∙ ap (λ (a : AllSettled). a.denials) (c.settled.view_is ∙ c.settle_all-settled.ensures) in
    let none = no_first c.as_slice.result.now (sym c.first.ensures.value ∙ ap option_copied c.in_err-denial.was) in
    if_none _ _ (denied_nothing c.args.image.now c.requires (sym all ∙ none))

pub returns-clause-some : goal.returns-clause-some
returns-clause-some c =
    let all = c.as_slice.ensures ∙ ap (λ (a : AllSettled). a.denials) (c.settled.view_is ∙ c.settle_all-settled.ensures) in
    let first = the_first c.as_slice.result.now c.in_ok-denial.denial.now c.in_ok-denial.ensures.value in
    record {
      not = λ h. not_both c.as_slice.result.now first.0 c.in_ok-denial.denial.now (all ∙ nobody_denied c.args.image.now h) first.1;
      denial = c.in_ok-denial.denial.now;
      others = first.0;
      denied = sym all ∙ first.1;
      is = refl;
      place = ap (λ n. 5 + n) c.from.ensures;
    }
