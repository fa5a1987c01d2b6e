use Rattle.std.proofs.Common.{rules, refl, sym, ◌∙◌, ◌≡◌, ◌++◌, ◌∷◌, ap, subst, map}
use Rattle.std.specs.Prelude.{Some, string_bytes}
use Rattle.cli_host.specs.Requests.{IsOption}
use Rattle.cli_host.proofs.Apart.{only_all, front_of, there, no_value, with_value, parted_at}
use Rattle.cli_host.proofs.request.apart.Goals as goal

pub returns-in_default-clause-only : goal.returns-in_default-clause-only
returns-in_default-clause-only c =
    only_all c.args.option.now c.args.words.now c.split_at.result.0.now c.split_at.result.1.now c.first_of.result c.split_at.ensures.front c.split_at.ensures.back c.in_default.ensures.cases
    (front_of (λ w. w ≡ c.args.option.now) c.args.words.now c.split_at.result.0.now c.first_of.result c.split_at.ensures.front c.first_of.ensures.before)

pub returns-in_err-value-clause-none : goal.returns-in_err-value-clause-none
returns-in_err-value-clause-none c = λ _ positional value apart none.
    no_value _ c.in-Some.rest.now positional value c.in_err-value.ensures.cases
    (there c.args.option.now c.args.words.now c.split_at.result.0.now c.split_at.result.1.now c.first_of.result c.in-Some.field-0-0.now c.in-Some.rest.now c.split_at.ensures.front c.split_at.ensures.back c.in-Some.ensures.cases.0
    c.first_of.ensures.before c.first_of.ensures.at positional value apart none)

pub returns-then-is_option-clause-none : goal.returns-then-is_option-clause-none
returns-then-is_option-clause-none c = λ _ positional value apart none.
    let is : IsOption c.deref.result.now = search (rules, c.if-is_option.ensures) in
    (with_value _ c.in-Some.rest.now c.in_ok-value.value.now c.in_ok-value.back.now positional value c.in_ok-value.ensures.cases.0
    (there c.args.option.now c.args.words.now c.split_at.result.0.now c.split_at.result.1.now c.first_of.result c.in-Some.field-0-0.now c.in-Some.rest.now c.split_at.ensures.front c.split_at.ensures.back c.in-Some.ensures.cases.0
    c.first_of.ensures.before c.first_of.ensures.at positional value apart none)).2 (subst IsOption c.deref.ensures is)

pub returns-clause-some : goal.returns-clause-some
returns-clause-some c =
    let none : IsOption c.deref.result.now → ⊥ = search (rules, c.if-is_option.ensures) in (
      map string_bytes c.split_at.result.0.now,
      map string_bytes c.in_ok-value.back.now,
      parted_at c.args.option.now c.args.words.now c.split_at.result.0.now c.split_at.result.1.now c.first_of.result c.in-Some.field-0-0.now c.in_ok-value.value.now c.in-Some.rest.now c.in_ok-value.back.now
          c.split_at.ensures.front c.split_at.ensures.back c.in-Some.ensures.cases.0 c.in_ok-value.ensures.cases.0 c.first_of.ensures.at
          ∙ ap (λ w. map string_bytes c.split_at.result.0.now ++ c.args.option.now ∷ w ∷ map string_bytes c.in_ok-value.back.now) (sym c.deref-2.ensures),
      refl,
      λ option. none (subst IsOption (c.deref-2.ensures ∙ sym c.deref.ensures) option),
    )

pub returns-clause-only : goal.returns-clause-only
returns-clause-only c = λ positional value apart none.
    let found = with_value _ c.in-Some.rest.now c.in_ok-value.value.now c.in_ok-value.back.now positional value c.in_ok-value.ensures.cases.0
    (there c.args.option.now c.args.words.now c.split_at.result.0.now c.split_at.result.1.now c.first_of.result c.in-Some.field-0-0.now c.in-Some.rest.now c.split_at.ensures.front c.split_at.ensures.back c.in-Some.ensures.cases.0
    c.first_of.ensures.before c.first_of.ensures.at positional value apart none) in
    (found.0, found.1 ∙ ap Some (sym c.deref-2.ensures))
