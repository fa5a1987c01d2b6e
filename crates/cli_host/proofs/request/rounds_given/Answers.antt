use Rattle.std.proofs.Common.{ap, sym, ◌∙◌, ◌∷◌, [], ◌≡◌, ℕ, List, refl, subst}
use Rattle.std.specs.Prelude.{option_map}
use Rattle.cli_host.specs.Requests.{IsRounds, words_of}
use Rattle.cli_host.proofs.request.rounds_given.Goals as goal

pub returns-clause-some : goal.returns-clause-some
returns-clause-some c = record {
  positional = words_of c.in_ok-positional.field-0.positional;
  text = c.in_ok-rounds.rounds.now;
  apart = c.in_ok-positional.ensures.some;
  parts = c.in_ok-file.ensures.some ∙ ap (λ ws. c.in_ok-file.file.now ∷ ws) c.in_ok-rounds.ensures.some;
  is_rounds = c.in_ok-rounds-2.ensures.some;
  plain = c.in_ok-positional.ensures.plain;
}

cut : {x y : List ℕ} {xs ys : List (List ℕ)} → x ∷ xs ≡ y ∷ ys → (x ≡ y) × (xs ≡ ys)
cut e = (cc, cc)

no_more : {x : List ℕ} {xs : List (List ℕ)} → x ∷ xs ≡ [] → ⊥
no_more e = cc

pub returns-clause-only : goal.returns-clause-only
returns-clause-only c = λ rounds given.
    let one = c.in_ok-positional.ensures.only given.positional (option_map (λ value. value.now) rounds.fire) (option_map (λ value. value.now) rounds.calls) given.apart given.plain in
    let mine = c.in_ok-file.ensures.some ∙ ap (λ ws. c.in_ok-file.file.now ∷ ws) c.in_ok-rounds.ensures.some in
    (cut (cut (sym given.parts ∙ one ∙ mine)).1).1

pub returns-in_err-positional-clause-none : goal.returns-in_err-positional-clause-none
returns-in_err-positional-clause-none c = λ _ rounds given.
    c.in_err-positional.ensures.none refl given.positional (option_map (λ value. value.now) rounds.fire) (option_map (λ value. value.now) rounds.calls) given.apart given.plain

pub returns-in_err-file-clause-none : goal.returns-in_err-file-clause-none
returns-in_err-file-clause-none c = λ _ rounds given.
    let one = c.in_ok-positional.ensures.only given.positional (option_map (λ value. value.now) rounds.fire) (option_map (λ value. value.now) rounds.calls) given.apart given.plain in
    no_more (sym given.parts ∙ one ∙ c.in_err-file.ensures.none refl)

pub returns-in_err-rounds-clause-none : goal.returns-in_err-rounds-clause-none
returns-in_err-rounds-clause-none c = λ _ rounds given.
    let one = c.in_ok-positional.ensures.only given.positional (option_map (λ value. value.now) rounds.fire) (option_map (λ value. value.now) rounds.calls) given.apart given.plain in
    no_more ((cut (sym given.parts ∙ one ∙ c.in_ok-file.ensures.some)).1 ∙ c.in_err-rounds.ensures.none refl)

pub returns-in_err-rounds-2-clause-none : goal.returns-in_err-rounds-2-clause-none
returns-in_err-rounds-2-clause-none c = λ _ rounds given.
    let one = c.in_ok-positional.ensures.only given.positional (option_map (λ value. value.now) rounds.fire) (option_map (λ value. value.now) rounds.calls) given.apart given.plain in
    let behind = (cut (sym given.parts ∙ one ∙ c.in_ok-file.ensures.some)).1 ∙ c.in_ok-rounds.ensures.some in
    c.in_err-rounds-2.ensures.none refl rounds.rounds (subst (λ t. IsRounds t rounds.rounds) (cut behind).0 given.is_rounds)
