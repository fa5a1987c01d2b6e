use Rattle.std.proofs.Common.{refl, sym, ap, ◌≡◌, ◌∷◌, ◌∙◌, ℕ, List, subst, map}
use Rattle.std.specs.Prelude.{Option, string_bytes}
use Rattle.cli_host.specs.Requests.{IsApart, IsOption, IsBehind, AreNoOptions}
use Rattle.cli_host.proofs.Apart.{both_none, front_none, back_none, plain_out}
use Rattle.cli_host.proofs.request.from_value.Goals as goal
use Rattle.cli_host.proofs.request.from_value.Goals.{then-has_option-via-then-has_option, then-has_option-via-else-has_option+then-has_option-2}

cut : {x y : List ℕ} {xs ys : List (List ℕ)} → x ∷ xs ≡ y ∷ ys → (x ≡ y) × (xs ≡ ys)
cut e = (cc, cc)

-- words apart after the value
behind : (option : List ℕ) (words : List (List ℕ)) (first : List ℕ) (rest : List (List ℕ)) (value : List ℕ) (others : List (List ℕ)) (other : Option (List ℕ)) → words ≡ first ∷ rest → IsBehind option words value others other
    → IsApart option rest others other
behind option words first rest value others other e h = subst (λ ws. IsApart option ws others other) (sym (cut (sym e ∙ h.are)).1) h.apart

pub returns-then-has_option-clause-none : goal.returns-then-has_option-clause-none
returns-then-has_option-clause-none c = λ _ value others other h plain.
    let parts = c.in_ok-parts.parts in
    let apart = behind c.args.option.now (map string_bytes c.args.words.now) (string_bytes c.in_ok-value.value.now) (map string_bytes c.in_ok-value.rest.now) value others other (ap (map string_bytes) c.in_ok-value.ensures.cases.0) h in
    let same = c.in_ok-parts.ensures.only others other apart (plain_out c.args.option.now others c.requires plain) in
    let all = subst AreNoOptions same.0 plain in
    elim c.then-has_option.branch [
      | then-has_option-via-then-has_option w ↦ w.if-has_option.ensures.yes refl (front_none IsOption (map string_bytes parts.front.now) (map string_bytes parts.back.now) all)
      | then-has_option-via-else-has_option+then-has_option-2 w ↦ w.if-has_option-2.ensures.yes refl (back_none IsOption (map string_bytes parts.front.now) (map string_bytes parts.back.now) all)
    ]

pub returns-clause-plain : goal.returns-clause-plain
returns-clause-plain c = both_none IsOption _ _ (c.if-has_option.ensures.no refl) (c.if-has_option-2.ensures.no refl)
