-- Things one after another, up to one of them, in texts that are alike.
use Rattle.std.proofs.Common.{◌≡◌, ◌≤◌, ℕ, zero, suc, List, [], ◌∷◌, ◌++◌, length, refl, sym, ap, subst, arith, Some}
use Rattle.std.specs.List.{slice_get}
use Rattle.il_syntax.specs.declared.token.Token.{Token}
use Rattle.il_syntax.specs.Grammar.{Front, loose, skip_line_ends, Nothing, Repeats}
use Rattle.il_syntax_laws.specs.Alike.{IsEndOf, AreAlike, IsLocal}
use Rattle.il_syntax_laws.proofs.Alike.{end_same, end_length, end_of_end, loose_gap}

-- the one at some number, with those before it
pub get_split : {A : Type 0} (xs : List A) (n : ℕ) (x : A) → slice_get xs n ≡ Some x → (front : List A) × (more : List A) × (xs ≡ front ++ x ∷ more) × (length front ≡ n)
get_split [] zero x e = absurd cc
get_split [] (suc n) x e = absurd cc
get_split (y ∷ xs) zero x e = let same : y ≡ x = cc in ([], xs, ap (λ z. z ∷ xs) same, refl)
get_split (y ∷ xs) (suc n) x e = let r = get_split xs n x e in (y ∷ r.0, r.1, ap (λ z. y ∷ z) r.2, ap suc r.3)

-- the first of them, and what follows
pub split_run : {A : Type 0} (P : A → Front) (front more : List A) (E : Front) (ts r : List Token) → Repeats P (front ++ more) E ts r → (mid : List Token) × Repeats P front Nothing ts mid × Repeats P more E mid r
split_run P [] more E ts r w = (ts, refl, w)
split_run P (x ∷ front) more E ts r w = let k = split_run P front more E (skip_line_ends w.0) r w.2 in (k.0, (w.0, w.1, k.1), k.2)

-- and together again
pub join_run : {A : Type 0} (P : A → Front) (front more : List A) (E : Front) (ts mid r : List Token) → Repeats P front Nothing ts mid → Repeats P more E mid r → Repeats P (front ++ more) E ts r
join_run P [] more E ts mid r w v = subst (λ (k : List Token). Repeats P more E k r) (sym w) v
join_run P (x ∷ front) more E ts mid r w v = (w.0, w.1, join_run P front more E (skip_line_ends w.0) mid r w.2 v)

module _ {A : Type 0} {P : List ℕ → A → Front} (one : IsLocal loose P) where
  -- what follows them is an end
  pub run_end : (text : List ℕ) (front : List A) (ts mid : List Token) → Repeats (P text) front Nothing ts mid → IsEndOf mid ts
  run_end text [] ts mid w = end_same ts mid w
  run_end text (x ∷ front) ts mid w =
      end_of_end mid (skip_line_ends w.0) ts (end_of_end (skip_line_ends w.0) w.0 ts ((one.carries x).ends text ts w.0 w.1) (loose_gap.ends w.0)) (run_end text front (skip_line_ends w.0) mid w.2)

  -- they are in an alike text
  pub carry_run : (text other : List ℕ) (back : List Token) (front : List A) (ts us mid : List Token) → AreAlike text other back ts us → Repeats (P text) front Nothing ts mid → length back ≤ length mid
      → (n : List Token) × Repeats (P other) front Nothing us n × AreAlike text other back mid n
  carry_run text other back [] ts us mid a w l = (us, refl, subst (λ (k : List Token). AreAlike text other back k us) w a)
  carry_run text other back (x ∷ front) ts us mid a w l =
      let short = end_length mid (skip_line_ends w.0) (run_end text front (skip_line_ends w.0) mid w.2) in
      let c = (one.carries x).over text other back ts us w.0 a w.1 (omega (arith, l, short)) in
      let k = carry_run text other back front (skip_line_ends w.0) (skip_line_ends c.0) mid (loose_gap.alike text other back w.0 c.0 c.2 (omega (arith, l, short))) w.2 l in
      (k.0, (c.0, c.1, k.1), k.2)

  -- what is read there begins with them
  pub same_run : (other : List ℕ) (E : Front) → ((x : A) (us r s : List Token) → P other x us r → E us s → ⊥) → (front ys : List A) (us n s : List Token) → Repeats (P other) front Nothing us n → Repeats (P other) ys E us s
      → (more : List A) × (ys ≡ front ++ more) × Repeats (P other) more E n s
  same_run other E apart [] ys us n s w v = (ys, refl, subst (λ (k : List Token). Repeats (P other) ys E k s) w v)
  same_run other E apart (x ∷ front) [] us n s w v = absurd (apart x us w.0 s w.1 v)
  same_run other E apart (x ∷ front) (y ∷ ys) us n s w v =
      let same = (one.one other).only y x us v.0 w.0 v.1 w.1 in
      let k = same_run other E apart front ys (skip_line_ends w.0) n s w.2 (subst (λ (j : List Token). Repeats (P other) ys E (skip_line_ends j) s) same.1 v.2) in
      (k.0, λ i. same.0 i ∷ k.1 i, k.2)
