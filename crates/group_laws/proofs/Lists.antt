-- Writes into lists, and numbers.
use Rattle.std.proofs.Common.{◌≡◌, ℕ, zero, suc, ◌<◌, ◌≤◌, ◌⊎◌, inl, inr, Bool, true, false, ◌&&◌, List, [], ◌∷◌, length, slice_get, slice_set, nat_le, ◌==◌, refl, sym, ap, ◌∙◌, subst, Some, All, arith, eqb-true, eq-eqb}
use Rattle.std.proofs.lemmas.Bool.Decides.{leb_tells}
use Rattle.std.proofs.lemmas.List.Elements.{All-cons, All-head, All-tail}

pub false_true : {A : Type 0} → false ≡ true → A
false_true e = cc

pub at_most : (m n : ℕ) → nat_le m n ≡ true → m ≤ n
at_most m n h = grind (arith, leb_tells, h)

-- where a number is another, and where it isn't
pub same_or_other : (j t : ℕ) → ((j ≡ t) × ((j == t) ≡ true)) ⊎ ((j ≡ t → ⊥) × ((j == t) ≡ false))
same_or_other j t = by (j == t) refl
  where
    by : (b : Bool) → (j == t) ≡ b → ((j ≡ t) × ((j == t) ≡ true)) ⊎ ((j ≡ t → ⊥) × ((j == t) ≡ false))
    by true e = inl (eqb-true j t e, e)
    by false e = inr ((λ same. false_true (sym e ∙ eq-eqb j t same)), e)

pub same_is : (t : ℕ) → (t == t) ≡ true
same_is t = eq-eqb t t refl

module _ {X : Type 0} where
  -- a write leaves the others
  pub get_other : (xs : List X) (k j : ℕ) (v : X) → (j ≡ k → ⊥) → slice_get (slice_set xs k v) j ≡ slice_get xs j
  get_other [] k j v h = refl
  get_other (x ∷ xs) zero zero v h = absurd (h refl)
  get_other (x ∷ xs) zero (suc j) v h = refl
  get_other (x ∷ xs) (suc k) zero v h = refl
  get_other (x ∷ xs) (suc k) (suc j) v h = get_other xs k j v (λ e. h (ap suc e))

  -- and is read again
  pub get_same : (xs : List X) (k : ℕ) (v : X) → k < length xs → slice_get (slice_set xs k v) k ≡ Some v
  get_same [] k v h = absurd (omega (arith, h))
  get_same (x ∷ xs) zero v h = refl
  get_same (x ∷ xs) (suc k) v h = get_same xs k v (omega (arith, h))

  pub length_set : (xs : List X) (k : ℕ) (v : X) → length (slice_set xs k v) ≡ length xs
  length_set [] k v = refl
  length_set (x ∷ xs) zero v = refl
  length_set (x ∷ xs) (suc k) v = let rest : length (slice_set xs k v) ≡ length xs = length_set xs k v in omega (arith, rest)

  -- what is so for all is so after a write of one for which it is
  pub all_set : (P : X → Type 0) (xs : List X) (k : ℕ) (v : X) → P v → All P xs → All P (slice_set xs k v)
  all_set P [] k v p h = h
  all_set P (x ∷ xs) zero v p h = All-cons P v xs p (All-tail P x xs h)
  all_set P (x ∷ xs) (suc k) v p h = All-cons P x (slice_set xs k v) (All-head P x xs h) (all_set P xs k v p (All-tail P x xs h))

  pub all_get : (P : X → Type 0) (xs : List X) (k : ℕ) (v : X) → All P xs → slice_get xs k ≡ Some v → P v
  all_get P [] k v h e = cc
  all_get P (x ∷ xs) zero v h e = let same : x ≡ v = cc in subst P same (All-head P x xs h)
  all_get P (x ∷ xs) (suc k) v h e = all_get P xs k v (All-tail P x xs h) e
