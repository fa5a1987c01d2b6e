use Rattle.std.proofs.Common.{◌≡◌, ℕ, List, ◌∷◌, ◌++◌, sym, ap, ◌∙◌, subst}
use Rattle.trace_text.specs.Reading.{Without}
use Rattle.trace_text.proofs.Bytes.{if_none}
use Rattle.group_state.specs.Parts.{path_by}
use Rattle.group_state.specs.Variables.{IsOfVariable}
use Rattle.group_state.proofs.Words.{behind_var, behind_owner, behind_path, true_false}
use Rattle.group_state.proofs.variables.word_of.Goals as goal

pub returns-in_err-text-2-clause-none : goal.returns-in_err-text-2-clause-none
returns-in_err-text-2-clause-none c =
    let prefix = c.as_bytes.ensures.value ∙ c.owner_prefix.ensures in
    let none : (word : List ℕ) → IsOfVariable (path_by c.args.owner c.args.path.now) c.args.line.now word → ⊥ = λ word of.
    c.in_err-text-2.ensures.none (c.args.path.now ++ (32 ∷ word))
    (behind_var c.args.owner c.args.path.now c.args.line.now word of c.in_ok-text.text.now c.in_ok-text.ensures.found ∙ ap (λ (l : List ℕ). l ++ (c.args.path.now ++ (32 ∷ word))) (sym prefix)) in
    if_none _ _ none

pub returns-in_err-text-3-clause-none : goal.returns-in_err-text-3-clause-none
returns-in_err-text-3-clause-none c =
    let prefix = c.as_bytes.ensures.value ∙ c.owner_prefix.ensures in
    let a = c.in_ok-text.text.now in
    let b = c.in_ok-text-2.text.now in
    let second = c.in_ok-text-2.ensures.found ∙ ap (λ (l : List ℕ). l ++ b) prefix in
    let none : (word : List ℕ) → IsOfVariable (path_by c.args.owner c.args.path.now) c.args.line.now word → ⊥ = λ word of.
    c.in_err-text-3.ensures.none (32 ∷ word)
    (behind_owner c.args.owner c.args.path.now c.args.line.now word of a b c.in_ok-text.ensures.found second ∙ ap (λ (l : List ℕ). l ++ (32 ∷ word)) (sym c.as_bytes-2.ensures.value)) in
    if_none _ _ none

pub returns-in_err-word-clause-none : goal.returns-in_err-word-clause-none
returns-in_err-word-clause-none c =
    let prefix = c.as_bytes.ensures.value ∙ c.owner_prefix.ensures in
    let a = c.in_ok-text.text.now in
    let b = c.in_ok-text-2.text.now in
    let d = c.in_ok-text-3.text.now in
    let second = c.in_ok-text-2.ensures.found ∙ ap (λ (l : List ℕ). l ++ b) prefix in
    let third = c.in_ok-text-3.ensures.found ∙ ap (λ (l : List ℕ). l ++ d) c.as_bytes-2.ensures.value in
    let none : (word : List ℕ) → IsOfVariable (path_by c.args.owner c.args.path.now) c.args.line.now word → ⊥ = λ word of.
    c.in_err-word.ensures.none word (behind_path c.args.owner c.args.path.now c.args.line.now word of a b d c.in_ok-text.ensures.found second third) in
    if_none _ _ none

pub returns-then-not-is_one_word-clause-none : goal.returns-then-not-is_one_word-clause-none
returns-then-not-is_one_word-clause-none c =
    let prefix = c.as_bytes.ensures.value ∙ c.owner_prefix.ensures in
    let a = c.in_ok-text.text.now in
    let b = c.in_ok-text-2.text.now in
    let d = c.in_ok-text-3.text.now in
    let second = c.in_ok-text-2.ensures.found ∙ ap (λ (l : List ℕ). l ++ b) prefix in
    let third = c.in_ok-text-3.ensures.found ∙ ap (λ (l : List ℕ). l ++ d) c.as_bytes-2.ensures.value in
    λ word of.
    let same : c.in_ok-word.word.now ≡ word = cons_same _ _ (sym c.in_ok-word.ensures.found ∙ behind_path c.args.owner c.args.path.now c.args.line.now word of a b d c.in_ok-text.ensures.found second third) in
    true_false c.is_one_word.result (c.is_one_word.ensures.1 (subst (Without 32) (sym same) of.one_word)) c.if-not-is_one_word.true
  where
    cons_same : (x y : List ℕ) → 32 ∷ x ≡ 32 ∷ y → x ≡ y
    cons_same x y e = cc
