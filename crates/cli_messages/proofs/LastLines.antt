-- The line around a place.
use Rattle.std.proofs.Common.{◌≡◌, ℕ, zero, suc, ◌+◌, ◌-◌, ◌<◌, ◌≤◌, min, true, false, Bool, List, [], ◌∷◌, ◌++◌, length, get_or, take, drop, Option, Some, None, Bor, refl, sym, ap, subst, ◌∙◌, inl, inr, arith}
use borrow.Author.Tests.{eq-eqb, eqb-true}
use Rattle.std.specs.Prelude.{◌==◌, ◌↔◌, IsSome, Contains}
use Rattle.std.specs.Option.{unwrap_or}
use Rattle.std.proofs.lemmas.Bool.{cases_lt}
use Rattle.std.proofs.lemmas.List.{drop_all, take_all, length-drop}
use Rattle.cli_explain.specs.Explained.{numbers}
use Rattle.trace_text.specs.Reading.{Without}
use Rattle.cli_messages.specs.Places.{IsLastLine, IsTitle}

-- bytes of which none is this one
pub nowhere : (stop : ℕ) (bytes : List ℕ) → ((k : ℕ) → k < length bytes → ¬ ((get_or bytes k 0 == stop) ≡ true)) → Without stop bytes
nowhere stop [] none = tt
nowhere stop (b ∷ bs) none = (λ e. none 0 (omega arith) (eq-eqb b stop e), nowhere stop bs (λ k low. none (suc k) (omega (arith, low))))

-- a text is split at its last line feed
split_last : (text : List ℕ) (at : ℕ) → at < length text → (get_or text at 0 == 10) ≡ true → ((k : ℕ) → at + 1 ≤ k → k < length text → ¬ ((get_or text k 0 == 10) ≡ true))
    → Without 10 (drop (suc at) text) × ((before : List ℕ) × (text ≡ before ++ 10 ∷ drop (suc at) text))
split_last [] at low is after = absurd (omega (arith, low))
split_last (b ∷ bs) zero low is after = (nowhere 10 bs (λ k less. after (suc k) (omega arith) (omega (arith, less))), ([], ap (λ x. x ∷ bs) (eqb-true b 10 is)))
split_last (b ∷ bs) (suc at) low is after =
    let rest = split_last bs at (omega (arith, low)) is (λ k least less. after (suc k) (omega (arith, least)) (omega (arith, less))) in
    (rest.0, (b ∷ rest.1.0, ap (λ l. b ∷ l) rest.1.1))

-- what a slice from a place on has
pub rest_of : (text : List ℕ) (n : ℕ) → take (length text - n) (drop n text) ≡ drop n text
rest_of text n = take_all (length text - n) (drop n text) (omega (arith, length-drop n text))

pub behind_last : (text line : List ℕ) (at : ℕ) → line ≡ drop (at + 1) text → at < length text → (get_or text at 0 == 10) ≡ true → ((k : ℕ) → at + 1 ≤ k → k < length text → ¬ ((get_or text k 0 == 10) ≡ true)) → IsLastLine text line
behind_last text line at is low feed after =
    let split = split_last text at low feed after in
    let next : suc at ≡ at + 1 = omega arith in
    let same : drop (suc at) text ≡ line = ap (λ n. drop n text) next ∙ sym is in
    subst (IsLastLine text) same (split.0, inr split.1)

-- the bytes after a place, which may lie after the end
pub last_bytes : (place : ℕ) (text : List ℕ) (n : ℕ) → n ≡ min (length text) place → drop n text ≡ drop place text
last_bytes place text n is = elim (cases_lt (length text) place) [
  | inl less ↦
      let all : length text ≤ n = omega (arith, is, less) in
      drop_all n text all ∙ sym (drop_all place text (omega (arith, less)))
  | inr not_less ↦ ap (λ n. drop n text) (omega (arith, is, not_less))
]

-- the title of a number, or nothing
pub title_is : (number : ℕ) (r : Option (Bor (List ℕ))) (title : List ℕ) (other : Bor (List ℕ)) → IsSome r ↔ Contains numbers number → other.now ≡ [] → title ≡ (unwrap_or r other).now → IsTitle number title
title_is number (Some t) title other has empty is = inl (has.0 refl)
title_is number None title other has empty is = inr ((λ (c : Contains numbers number). let bad : ◌≡◌ {A = Bool} false true = has.1 c in cc), is ∙ empty)
