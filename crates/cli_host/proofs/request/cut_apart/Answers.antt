use Rattle.std.proofs.Common.{rules, ◌≡◌, refl, sym, ◌∙◌, subst, map}
use Rattle.std.specs.Prelude.{codes, string_bytes}
use Rattle.cli_host.specs.Requests.{IsOption, AreNoOptions}
use Rattle.cli_host.proofs.Apart.{both_none, back_none}
use Rattle.cli_host.proofs.Options.{without_cut, has_first, at_cut}
use Rattle.cli_host.proofs.request.cut_apart.Goals as goal
use Rattle.cli_host.proofs.request.cut_apart.Goals.{then-not-is_same-via-then-not-is_same, then-not-is_same-via-else-not-is_same+then-has_option}

pub returns-in_default-clause-only : goal.returns-in_default-clause-only
returns-in_default-clause-only c = λ positional cut apart plain.
    without_cut c.args.rest.now c.split_at.result.0.now c.split_at.result.1.now c.first_option.result c.split_at.ensures.front c.split_at.ensures.back c.in_default.ensures.cases c.first_option.ensures.before positional cut apart
    ∙ sym c.around.ensures

pub returns-then-not-is_same-clause-none : goal.returns-then-not-is_same-clause-none
returns-then-not-is_same-clause-none c = λ _ positional cut apart plain.
    let has = has_first c.args.rest.now c.split_at.result.0.now c.split_at.result.1.now c.first_option.result c.in-Some.option.now c.in-Some.back.now c.split_at.ensures.front c.split_at.ensures.back c.in-Some.ensures.cases.0 c.first_option.ensures.before c.first_option.ensures.at in
    let found = at_cut (map string_bytes c.args.rest.now) (map string_bytes c.split_at.result.0.now) (string_bytes c.in-Some.option.now) (map string_bytes c.in-Some.back.now) positional has plain cut apart in
    elim c.then-not-is_same.branch [
      | then-not-is_same-via-then-not-is_same w ↦ (let no : c.deref.result.now ≡ codes "--cut" → ⊥ = search (rules, w.if-not-is_same.ensures) in no (c.deref.ensures ∙ found.0))
      | then-not-is_same-via-else-not-is_same+then-has_option w ↦ w.if-has_option.ensures.yes refl (back_none IsOption (map string_bytes c.split_at.result.0.now) (map string_bytes c.in-Some.back.now) (subst AreNoOptions found.1 plain))
    ]

pub returns-clause-plain : goal.returns-clause-plain
returns-clause-plain c =
    let has = has_first c.args.rest.now c.split_at.result.0.now c.split_at.result.1.now c.first_option.result c.in-Some.option.now c.in-Some.back.now c.split_at.ensures.front c.split_at.ensures.back c.in-Some.ensures.cases.0 c.first_option.ensures.before c.first_option.ensures.at in
    subst AreNoOptions (sym c.around-2.ensures) (both_none IsOption (map string_bytes c.split_at.result.0.now) (map string_bytes c.in-Some.back.now) has.plain (c.if-has_option.ensures.no refl))

pub returns-clause-only : goal.returns-clause-only
returns-clause-only c = λ positional cut apart plain.
    let has = has_first c.args.rest.now c.split_at.result.0.now c.split_at.result.1.now c.first_option.result c.in-Some.option.now c.in-Some.back.now c.split_at.ensures.front c.split_at.ensures.back c.in-Some.ensures.cases.0 c.first_option.ensures.before c.first_option.ensures.at in
    (at_cut (map string_bytes c.args.rest.now) (map string_bytes c.split_at.result.0.now) (string_bytes c.in-Some.option.now) (map string_bytes c.in-Some.back.now) positional has plain cut apart).1 ∙ sym c.around-2.ensures
