-- Values by their numbers, and tests of them.
use Rattle.std.proofs.Common.{◌≡◌, ℕ, zero, suc, ◌<◌, ◌≤◌, ◌⊎◌, inl, inr, Bool, true, false, ◌||◌, ◌&&◌, List, [], ◌∷◌, ◌++◌, length, get_or, slice_get, Some, refl, sym, ap, ◌∙◌, subst, arith}
use Rattle.std.specs.Prelude.{Contains, nat_lt}
use Rattle.std.proofs.lemmas.Bool.{cases_lt, ltb-false}
use Rattle.std.proofs.lemmas.List.{length-append, get_or_append_left}
use Rattle.std.proofs.Math.Seq.{get_or-append_seam}
use Rattle.std.proofs.lemmas.Option.{slice_get-get_or, slice_get_within, get_or_from_slice_get}
use Rattle.load_order.specs.Related.{tabulate, any_below}

-- BOOLEANS

pub or_left : (a b : Bool) → a ≡ true → (a || b) ≡ true
or_left true b e = refl
or_left false b e = let bad : false ≡ true = e in cc

pub or_right : (a b : Bool) → b ≡ true → (a || b) ≡ true
or_right true b e = refl
or_right false b e = e

pub from_or : (a b : Bool) → (a || b) ≡ true → (a ≡ true) ⊎ (b ≡ true)
from_or true b e = inl refl
from_or false b e = inr e

pub and_both : (a b : Bool) → a ≡ true → b ≡ true → (a && b) ≡ true
and_both true b e f = f
and_both false b e f = let bad : false ≡ true = e in cc

pub not_both : (a : Bool) → a ≡ true → a ≡ false → ⊥
not_both a e f = let bad : true ≡ false = sym e ∙ f in cc

pub some_same : {A : Type 0} (a b : A) → Some a ≡ Some b → a ≡ b
some_same a b e = cc

pub below_true : (a b : ℕ) → a < b → nat_lt a b ≡ true
below_true a b low = by_test (nat_lt a b) refl
  where
    by_test : (t : Bool) → nat_lt a b ≡ t → nat_lt a b ≡ true
    by_test true e = e
    by_test false e = let not_low = ltb-false a b e in absurd (omega (arith, low, not_low))

-- ELEMENTS BY THEIR PLACES

pub place_in : {A : Type 0} (xs : List A) (x : A) → Contains xs x → (i : ℕ) × (slice_get xs i ≡ Some x)
place_in xs x (i, low, e) = (i, slice_get-get_or xs i x low ∙ ap Some e)

pub in_place : {A : Type 0} (xs : List A) (i : ℕ) (x : A) → slice_get xs i ≡ Some x → Contains xs x
in_place xs i x e = (i, slice_get_within xs i x e, get_or_from_slice_get xs i x x e)

pub slice_get_left : {A : Type 0} (xs ys : List A) (i : ℕ) → i < length xs → slice_get (xs ++ ys) i ≡ slice_get xs i
slice_get_left [] ys i low = absurd (omega (arith, low))
slice_get_left (x ∷ xs) ys zero low = refl
slice_get_left (x ∷ xs) ys (suc i) low = slice_get_left xs ys i (omega (arith, low))

pub slice_get_last : {A : Type 0} (xs : List A) (x : A) → slice_get (xs ++ x ∷ []) (length xs) ≡ Some x
slice_get_last [] x = refl
slice_get_last (y ∷ xs) x = slice_get_last xs x

-- TABLES

module _ {A : Type 0} (f : ℕ → A) where
  pub length-tabulate : (n : ℕ) → length (tabulate n f) ≡ n
  length-tabulate zero = refl
  length-tabulate (suc n) = let e = length-tabulate n in let s = length-append (tabulate n f) (f n ∷ []) in omega (arith, e, s)

  at_tabulated : (n i : ℕ) (d : A) → i < n → get_or (tabulate n f) i d ≡ f i
  at_tabulated zero i d low = absurd (omega (arith, low))
  at_tabulated (suc n) i d low = by_place (at_tabulated n i d) (cases_lt i n)
    where
      by_place : (i < n → get_or (tabulate n f) i d ≡ f i) → (i < n) ⊎ (n ≤ i) → get_or (tabulate n f ++ f n ∷ []) i d ≡ f i
      by_place before (inl l) = get_or_append_left (tabulate n f) (f n ∷ []) d i (subst (λ k. i < k) (sym (length-tabulate n)) l) ∙ before l
      by_place before (inr h) = let e : i ≡ n = omega (arith, h, low) in ap (λ k. get_or (tabulate n f ++ f n ∷ []) k d) (e ∙ sym (length-tabulate n)) ∙ get_or-append_seam (tabulate n f) (f n) [] d ∙ ap f (sym e)

  pub tabulated : (n i : ℕ) → i < n → slice_get (tabulate n f) i ≡ Some (f i)
  tabulated n i low = slice_get-get_or (tabulate n f) i (f i) (subst (λ k. i < k) (sym (length-tabulate n)) low) ∙ ap Some (at_tabulated n i (f i) low)

-- TESTS

module _ (test : ℕ → Bool) where
  pub some_below : (n : ℕ) → any_below n test ≡ true → (i : ℕ) × (i < n) × (test i ≡ true)
  some_below zero e = let bad : false ≡ true = e in cc
  some_below (suc n) e = elim (from_or (any_below n test) (test n) e) [ inl a ↦ further (some_below n a) | inr b ↦ (n, omega arith, b) ]
    where
      further : (i : ℕ) × (i < n) × (test i ≡ true) → (i : ℕ) × (i < suc n) × (test i ≡ true)
      further (i, low, is) = (i, omega (arith, low), is)

  pub below_some : (n i : ℕ) → i < n → test i ≡ true → any_below n test ≡ true
  below_some zero i low is = absurd (omega (arith, low))
  below_some (suc n) i low is = by_place (λ l. below_some n i l is) (cases_lt i n)
    where
      by_place : (i < n → any_below n test ≡ true) → (i < n) ⊎ (n ≤ i) → (any_below n test || test n) ≡ true
      by_place before (inl l) = or_left (any_below n test) (test n) (before l)
      by_place before (inr h) = let e : n ≡ i = omega (arith, h, low) in or_right (any_below n test) (test n) (ap test e ∙ is)
