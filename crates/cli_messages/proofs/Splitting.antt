-- Lines, one after the other.
use Rattle.std.proofs.Common.{◌≡◌, ℕ, zero, suc, ◌+◌, ◌-◌, ◌<◌, ◌≤◌, min, List, [], ◌∷◌, ◌++◌, length, take, Option, Some, None, Bor, inl, inr, refl, sym, ap, ◌∙◌, subst, arith}
use Rattle.std.specs.Prelude.{IfSome, IsNone}
use Rattle.std.specs.Option.{unwrap_or}
use Rattle.std.proofs.lemmas.Bool.{cases_lt}
use Rattle.std.proofs.lemmas.List.{take_all}
use Rattle.trace_text.specs.Reading.{IsOneLine}
use Rattle.trace_text.proofs.Bytes.{split_once, same_rest}
use Rattle.cli_messages.specs.Places.{IsLineOf, IsSource}

-- a text is split after its first line in one way
pub one_rest : (first other rest more : List ℕ) → IsOneLine first → IsOneLine other → first ++ 10 ∷ rest ≡ other ++ 10 ∷ more → rest ≡ more
one_rest first other rest more one two e = same_rest 10 10 rest more (split_once 10 first other (10 ∷ rest) (10 ∷ more) one two refl refl e).1

-- a line that is left is left after one line less
one_less : (before index : ℕ) → index < before → (left : ℕ) → left ≡ before - index → (rest : ℕ) × (left ≡ suc rest) × (before - (index + 1) ≡ rest)
one_less before index low zero is = absurd (omega (arith, low, is))
one_less before index low (suc rest) is = (rest, refl, omega (arith, low, is))

module _ (before index : ℕ) (low : index < before) (text line rest : List ℕ) (one : IsOneLine line) (is : text ≡ line ++ 10 ∷ rest) where
  -- what is found in the rest is found in the text
  pub found_behind : (source : List ℕ) → IsLineOf (before - (index + 1)) rest source → IsLineOf (before - index) text source
  found_behind source at =
      let left = one_less before index low (before - index) refl in
      subst (λ n. IsLineOf n text source) (sym left.1) (line, rest, one, is, subst (λ n. IsLineOf n rest source) left.2 at)

  -- and nothing else
  pub only_behind : (source : List ℕ) → IsLineOf (before - index) text source → IsLineOf (before - (index + 1)) rest source
  only_behind source at =
      let left = one_less before index low (before - index) refl in
      let there = subst (λ n. IsLineOf n text source) left.1 at in
      subst (λ n. IsLineOf n rest source) (sym left.2) (subst (λ r. IsLineOf left.0 r source) (sym (one_rest line there.0 rest there.1 one there.2 (sym is ∙ there.3))) there.4)

-- a text of one line has no line after it
pub none_behind : (before index : ℕ) → index < before → (text source : List ℕ) → IsOneLine text → IsLineOf (before - index) text source → ⊥
none_behind before index low text source one at =
    let left = one_less before index low (before - index) refl in
    let there = subst (λ n. IsLineOf n text source) left.1 at in
    no_rest text there.0 there.1 one there.3
  where
    no_rest : (text first rest : List ℕ) → IsOneLine text → text ≡ first ++ 10 ∷ rest → ⊥
    no_rest text first rest one e = by first rest (subst IsOneLine e one)
      where
        by : (first rest : List ℕ) → IsOneLine (first ++ 10 ∷ rest) → ⊥
        by [] rest one = one.0 refl
        by (x ∷ first) rest one = by first rest one.1

-- the first bytes of a line, so many or all
pub first_bytes : (most : ℕ) (line : List ℕ) (m : ℕ) → m ≡ min (length line) most → take m line ≡ take most line
first_bytes most line m is = elim (cases_lt (length line) most) [
  | inl less ↦
      let all : length line ≤ m = omega (arith, is, less) in
      take_all m line all ∙ sym (take_all most line (omega (arith, less)))
  | inr not_less ↦ ap (λ n. take n line) (omega (arith, is, not_less))
]

-- the line that is shown
pub source_is : (text : List ℕ) (line before : ℕ) (r : Option (Bor (List ℕ))) (source other : Bor (List ℕ)) → before ≡ line - 1 → other.now ≡ [] → source ≡ unwrap_or r other
    → IfSome r (λ l. IsLineOf before text l.now) → (IsNone r → (l : List ℕ) → IsLineOf before text l → ⊥) → IsSource text line source.now
source_is text line before (Some l) source other at empty is found none =
    inl (subst (λ (s : Bor (List ℕ)). IsLineOf (line - 1) text s.now) (sym is) (subst (λ n. IsLineOf n text l.now) at found))
source_is text line before None source other at empty is found none =
    inr (ap (λ (s : Bor (List ℕ)). s.now) is ∙ empty, subst (λ n. (l : List ℕ) → IsLineOf n text l → ⊥) at (none refl))
