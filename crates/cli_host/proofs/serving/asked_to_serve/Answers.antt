use Rattle.std.proofs.Common.{sym, ap, map, ◌∙◌, ◌∷◌, ◌≡◌, ℕ, List, subst}
use Rattle.std.specs.Prelude.{string_bytes}
use Rattle.cli_host.specs.Servings.{TakesToServe}
use Rattle.cli_host.proofs.serving.asked_to_serve.Goals as goal

cut : {x y : List ℕ} {xs ys : List (List ℕ)} → x ∷ xs ≡ y ∷ ys → xs ≡ ys
cut e = cc

pub returns-clause-none : goal.returns-clause-none
returns-clause-none c = λ none serving serves.
    c.serving_given.ensures.none none serving (subst (λ ws. TakesToServe ws serving) (cut (sym serves.are ∙ ap (map string_bytes) c.in_ok-name.ensures.cases.0)) serves.takes)
