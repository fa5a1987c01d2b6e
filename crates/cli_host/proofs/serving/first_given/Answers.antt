use Rattle.std.proofs.Common.{◌≡◌, ◌∷◌, [], refl, sym, ap, ◌∙◌, subst, map, List, ℕ}
use Rattle.std.specs.Prelude.{length, String, string_bytes}
use Rattle.std.specs.Global.{Global}
use Rattle.std.proofs.lemmas.List.{nil_from_length}
use Rattle.cli_host.specs.Servings.{GiveValue, given_of}
use Rattle.cli_host.specs.Servings.GiveFirst.{one_word, two_words}
use Rattle.cli_host.proofs.Given.{no_first, value_behind, cut, no_more}
use Rattle.cli_host.proofs.serving.first_given.Goals as goal

none_there : (words : List (String Global)) → length words ≡ 0 → map string_bytes words ≡ []
none_there words none = ap (map string_bytes) (nil_from_length words none)

there : (words : List (String Global)) (first : String Global) (rest : List (String Global)) (word : List ℕ) → words ≡ first ∷ rest → word ≡ string_bytes first → map string_bytes words ≡ word ∷ map string_bytes rest
there words first rest word are is = ap (map string_bytes) are ∙ ap (λ w. w ∷ map string_bytes rest) (sym is)

pub returns-in_err-word-clause-none : goal.returns-in_err-word-clause-none
returns-in_err-word-clause-none c = λ _ next rest gives. no_first _ _ next rest (none_there c.args.words.now c.in_err-word.ensures.cases) gives

pub returns-in-Some-clause-some : goal.returns-in-Some-clause-some
returns-in-Some-clause-some c =
    one_word c.deref.result.now (there c.args.words.now c.in_ok-word.word.now c.in_ok-word.rest.now c.deref.result.now c.in_ok-word.ensures.cases.0 c.deref.ensures) c.in-Some.ensures.some

pub returns-in_err-value-clause-none : goal.returns-in_err-value-clause-none
returns-in_err-value-clause-none c = λ _ next rest gives.
    let found = value_behind _ c.deref.result.now (map string_bytes c.in_ok-word.rest.now) (given_of c.args.given) next rest
    (there c.args.words.now c.in_ok-word.word.now c.in_ok-word.rest.now c.deref.result.now c.in_ok-word.ensures.cases.0 c.deref.ensures) (c.in_default.ensures.none refl) gives in
    no_more (sym found.1 ∙ none_there c.in_ok-word.rest.now c.in_err-value.ensures.cases)

pub returns-in_err-next-clause-none : goal.returns-in_err-next-clause-none
returns-in_err-next-clause-none c = λ _ next rest gives.
    let found = value_behind _ c.deref.result.now (map string_bytes c.in_ok-word.rest.now) (given_of c.args.given) next rest
    (there c.args.words.now c.in_ok-word.word.now c.in_ok-word.rest.now c.deref.result.now c.in_ok-word.ensures.cases.0 c.deref.ensures) (c.in_default.ensures.none refl) gives in
    let same = cut (sym (there c.in_ok-word.rest.now c.in_ok-value.value.now c.in_ok-value.rest.now c.deref-3.result.now c.in_ok-value.ensures.cases.0 c.deref-3.ensures) ∙ found.1) in
    c.in_err-next.ensures.none refl next
    (subst (λ w. GiveValue w c.deref-3.result.now (given_of c.args.given) next) (c.deref.ensures ∙ sym c.deref-2.ensures) (subst (λ v. GiveValue c.deref.result.now v (given_of c.args.given) next) (sym same.0) found.2))

pub returns-clause-some : goal.returns-clause-some
returns-clause-some c =
    two_words c.deref-2.result.now c.deref-3.result.now
    (there c.args.words.now c.in_ok-word.word.now c.in_ok-word.rest.now c.deref-2.result.now c.in_ok-word.ensures.cases.0 c.deref-2.ensures
    ∙ ap (λ ws. c.deref-2.result.now ∷ ws) (there c.in_ok-word.rest.now c.in_ok-value.value.now c.in_ok-value.rest.now c.deref-3.result.now c.in_ok-value.ensures.cases.0 c.deref-3.ensures)) c.in_ok-next.ensures.some
