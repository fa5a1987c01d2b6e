use Rattle.std.proofs.Common.{ap, sym, ◌∙◌, ◌∷◌, [], ◌≡◌, ℕ, List, refl}
use Rattle.std.specs.Prelude.{option_map}
use Rattle.cli_host.proofs.request.scan_given.Goals as goal

cut : {x y : List ℕ} {xs ys : List (List ℕ)} → x ∷ xs ≡ y ∷ ys → (x ≡ y) × (xs ≡ ys)
cut e = (cc, cc)

no_more : {x : List ℕ} {xs : List (List ℕ)} → x ∷ xs ≡ [] → ⊥
no_more e = cc

pub returns-in_err-positional-clause-none : goal.returns-in_err-positional-clause-none
returns-in_err-positional-clause-none c = λ _ traced given.
    c.in_err-positional.ensures.none refl given.positional (option_map (λ value. value.now) traced.round) (option_map (λ value. value.now) traced.until) given.apart given.plain

pub returns-in_err-file-clause-none : goal.returns-in_err-file-clause-none
returns-in_err-file-clause-none c = λ _ traced given.
    let one = c.in_ok-positional.ensures.only given.positional (option_map (λ value. value.now) traced.round) (option_map (λ value. value.now) traced.until) given.apart given.plain in
    no_more (sym given.parts ∙ one ∙ c.in_err-file.ensures.none refl)

pub returns-in_err-trace-clause-none : goal.returns-in_err-trace-clause-none
returns-in_err-trace-clause-none c = λ _ traced given.
    let one = c.in_ok-positional.ensures.only given.positional (option_map (λ value. value.now) traced.round) (option_map (λ value. value.now) traced.until) given.apart given.plain in
    no_more ((cut (sym given.parts ∙ one ∙ c.in_ok-file.ensures.some)).1 ∙ c.in_err-trace.ensures.none refl)

pub returns-in_err-_task-clause-none : goal.returns-in_err-_task-clause-none
returns-in_err-_task-clause-none c = λ _ traced given.
    let one = c.in_ok-positional.ensures.only given.positional (option_map (λ value. value.now) traced.round) (option_map (λ value. value.now) traced.until) given.apart given.plain in
    let behind = (cut (sym given.parts ∙ one ∙ c.in_ok-file.ensures.some)).1 ∙ c.in_ok-trace.ensures.some in
    no_more ((cut behind).1 ∙ c.in_err-_task.ensures.none refl)

pub returns-in-Some-clause-none : goal.returns-in-Some-clause-none
returns-in-Some-clause-none c = λ _ traced given.
    let one = c.in_ok-positional.ensures.only given.positional (option_map (λ value. value.now) traced.round) (option_map (λ value. value.now) traced.until) given.apart given.plain in
    let behind = (cut (sym given.parts ∙ one ∙ c.in_ok-file.ensures.some)).1 ∙ c.in_ok-trace.ensures.some in
    no_more (sym ((cut ((cut behind).1 ∙ c.in_ok-_task.ensures.some)).1 ∙ c.in-Some.ensures.some))
