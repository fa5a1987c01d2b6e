use Rattle.std.proofs.Common.{rules, ◌≡◌, refl, sym, ap, ◌∙◌, ◌++◌, subst, map}
use Rattle.std.specs.Prelude.{string_bytes}
use Rattle.cli_host.specs.Requests.{IsOption, AreNoOptions}
use Rattle.cli_host.proofs.Apart.{both_none}
use Rattle.cli_host.proofs.Options.{without_options, has_first, at_one, at_two, at_neither}
use Rattle.cli_host.proofs.request.options_apart.Goals as goal

pub returns-in_default-clause-only : goal.returns-in_default-clause-only
returns-in_default-clause-only c = λ positional first second apart plain.
    without_options c.args.one.now c.args.two.now c.requires.one c.requires.two c.args.rest.now c.split_at.result.0.now c.split_at.result.1.now c.first_option.result c.split_at.ensures.front c.split_at.ensures.back c.in_default.ensures.cases c.first_option.ensures.before positional first second apart
    ∙ sym c.around.ensures

pub returns-in_err-behind-clause-none : goal.returns-in_err-behind-clause-none
returns-in_err-behind-clause-none c = λ _ positional first second apart none.
    let has = has_first c.args.rest.now c.split_at.result.0.now c.split_at.result.1.now c.first_option.result c.in-Some.option.now c.in-Some.rest.now c.split_at.ensures.front c.split_at.ensures.back c.in-Some.ensures.cases.0 c.first_option.ensures.before c.first_option.ensures.at in
    let is : c.deref.result.now ≡ c.args.one.now = search (rules, c.if-is_same.ensures) in
    let found = at_one c.args.one.now c.args.two.now c.requires.one c.requires.two c.requires.differ (map string_bytes c.args.rest.now) (map string_bytes c.split_at.result.0.now) (string_bytes c.in-Some.option.now) (map string_bytes c.in-Some.rest.now) positional first second has none (sym c.deref.ensures ∙ is) apart in
    c.in_err-behind.ensures.none refl found.word found.others second found.behind found.plain

pub returns-then-is_same-clause-plain : goal.returns-then-is_same-clause-plain
returns-then-is_same-clause-plain c =
    let has = has_first c.args.rest.now c.split_at.result.0.now c.split_at.result.1.now c.first_option.result c.in-Some.option.now c.in-Some.rest.now c.split_at.ensures.front c.split_at.ensures.back c.in-Some.ensures.cases.0 c.first_option.ensures.before c.first_option.ensures.at in
    subst AreNoOptions (sym c.words_from.ensures) (both_none IsOption (map string_bytes c.split_at.result.0.now) _ has.plain c.in_ok-behind.ensures.plain)

pub returns-then-is_same-clause-only : goal.returns-then-is_same-clause-only
returns-then-is_same-clause-only c = λ positional first second apart none.
    let has = has_first c.args.rest.now c.split_at.result.0.now c.split_at.result.1.now c.first_option.result c.in-Some.option.now c.in-Some.rest.now c.split_at.ensures.front c.split_at.ensures.back c.in-Some.ensures.cases.0 c.first_option.ensures.before c.first_option.ensures.at in
    let is : c.deref.result.now ≡ c.args.one.now = search (rules, c.if-is_same.ensures) in
    let found = at_one c.args.one.now c.args.two.now c.requires.one c.requires.two c.requires.differ (map string_bytes c.args.rest.now) (map string_bytes c.split_at.result.0.now) (string_bytes c.in-Some.option.now) (map string_bytes c.in-Some.rest.now) positional first second has none (sym c.deref.ensures ∙ is) apart in
    found.positional_is ∙ ap (λ ws. map string_bytes c.split_at.result.0.now ++ ws) (c.in_ok-behind.ensures.only found.word found.others second found.behind found.plain) ∙ sym c.words_from.ensures

pub returns-then-not-is_same-clause-none : goal.returns-then-not-is_same-clause-none
returns-then-not-is_same-clause-none c = λ _ positional first second apart none.
    let has = has_first c.args.rest.now c.split_at.result.0.now c.split_at.result.1.now c.first_option.result c.in-Some.option.now c.in-Some.rest.now c.split_at.ensures.front c.split_at.ensures.back c.in-Some.ensures.cases.0 c.first_option.ensures.before c.first_option.ensures.at in
    let not_one : c.deref.result.now ≡ c.args.one.now → ⊥ = search (rules, c.if-is_same.ensures) in
    let not_two : c.deref-2.result.now ≡ c.args.two.now → ⊥ = search (rules, c.if-not-is_same.ensures) in
    at_neither c.args.one.now c.args.two.now c.requires.one c.requires.two c.requires.differ (map string_bytes c.args.rest.now) (map string_bytes c.split_at.result.0.now) (string_bytes c.in-Some.option.now) (map string_bytes c.in-Some.rest.now) positional first second has none (λ e. not_one (c.deref.ensures ∙ e)) (λ e. not_two (c.deref-2.ensures ∙ e)) apart

pub returns-in_err-behind-2-clause-none : goal.returns-in_err-behind-2-clause-none
returns-in_err-behind-2-clause-none c = λ _ positional first second apart none.
    let has = has_first c.args.rest.now c.split_at.result.0.now c.split_at.result.1.now c.first_option.result c.in-Some.option.now c.in-Some.rest.now c.split_at.ensures.front c.split_at.ensures.back c.in-Some.ensures.cases.0 c.first_option.ensures.before c.first_option.ensures.at in
    let is : c.deref-2.result.now ≡ c.args.two.now = search (rules, c.if-not-is_same.ensures) in
    let found = at_two c.args.one.now c.args.two.now c.requires.one c.requires.two c.requires.differ (map string_bytes c.args.rest.now) (map string_bytes c.split_at.result.0.now) (string_bytes c.in-Some.option.now) (map string_bytes c.in-Some.rest.now) positional first second has none (sym c.deref-2.ensures ∙ is) apart in
    c.in_err-behind-2.ensures.none refl found.word found.others first found.behind found.plain

pub returns-clause-plain : goal.returns-clause-plain
returns-clause-plain c =
    let has = has_first c.args.rest.now c.split_at.result.0.now c.split_at.result.1.now c.first_option.result c.in-Some.option.now c.in-Some.rest.now c.split_at.ensures.front c.split_at.ensures.back c.in-Some.ensures.cases.0 c.first_option.ensures.before c.first_option.ensures.at in
    subst AreNoOptions (sym c.words_from-2.ensures) (both_none IsOption (map string_bytes c.split_at.result.0.now) _ has.plain c.in_ok-behind-2.ensures.plain)

pub returns-clause-only : goal.returns-clause-only
returns-clause-only c = λ positional first second apart none.
    let has = has_first c.args.rest.now c.split_at.result.0.now c.split_at.result.1.now c.first_option.result c.in-Some.option.now c.in-Some.rest.now c.split_at.ensures.front c.split_at.ensures.back c.in-Some.ensures.cases.0 c.first_option.ensures.before c.first_option.ensures.at in
    let is : c.deref-2.result.now ≡ c.args.two.now = search (rules, c.if-not-is_same.ensures) in
    let found = at_two c.args.one.now c.args.two.now c.requires.one c.requires.two c.requires.differ (map string_bytes c.args.rest.now) (map string_bytes c.split_at.result.0.now) (string_bytes c.in-Some.option.now) (map string_bytes c.in-Some.rest.now) positional first second has none (sym c.deref-2.ensures ∙ is) apart in
    found.positional_is ∙ ap (λ ws. map string_bytes c.split_at.result.0.now ++ ws) (c.in_ok-behind-2.ensures.only found.word found.others first found.behind found.plain) ∙ sym c.words_from-2.ensures
