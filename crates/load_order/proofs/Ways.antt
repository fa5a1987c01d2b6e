-- Ways along uses, by the numbers of the units.
use Rattle.std.proofs.Common.{◌≡◌, ℕ, zero, suc, ◌<◌, ◌⊎◌, inl, inr, Bool, true, false, ◌||◌, List, [], ◌∷◌, ◌++◌, refl, sym, ap, ◌∙◌, subst, arith}
use Rattle.std.specs.Prelude.{not, nat_eq}
use Rattle.std.proofs.lemmas.Bool.Decides.{nat_tests}
use Rattle.load_order.specs.Related.{holds}
use Rattle.load_order.specs.Used.{is_among}
use Rattle.load_order.proofs.Tabled.{or_left, or_right, from_or}

pub among_cases : (xs : List ℕ) (u k : ℕ) → is_among (xs ++ u ∷ []) k ≡ true → (is_among xs k ≡ true) ⊎ (k ≡ u)
among_cases [] u k e = elim (from_or (nat_eq u k) false e) [ inl a ↦ inr (same a) | inr b ↦ (let bad : false ≡ true = b in cc) ]
  where
    same : nat_eq u k ≡ true → k ≡ u
    same e = grind (arith, nat_tests)
among_cases (x ∷ xs) u k e = by_first (nat_eq x k) (among_cases xs u k) e
  where
    by_first : (t : Bool) → (is_among (xs ++ u ∷ []) k ≡ true → (is_among xs k ≡ true) ⊎ (k ≡ u)) → (t || is_among (xs ++ u ∷ []) k) ≡ true → ((t || is_among xs k) ≡ true) ⊎ (k ≡ u)
    by_first true before is = inl refl
    by_first false before is = before is

pub among_last : (xs : List ℕ) (k : ℕ) → is_among (xs ++ k ∷ []) k ≡ true
among_last [] k = itself
  where
    itself : (nat_eq k k || false) ≡ true
    itself = grind (arith, nat_tests)
among_last (x ∷ xs) k = or_right (nat_eq x k) (is_among (xs ++ k ∷ []) k) (among_last xs k)

pub among_more : (xs ys : List ℕ) (k : ℕ) → is_among xs k ≡ true → is_among (xs ++ ys) k ≡ true
among_more [] ys k e = let bad : false ≡ true = e in cc
among_more (x ∷ xs) ys k e = elim (from_or (nat_eq x k) (is_among xs k) e) [ inl a ↦ or_left (nat_eq x k) (is_among (xs ++ ys) k) a | inr b ↦ or_right (nat_eq x k) (is_among (xs ++ ys) k) (among_more xs ys k b) ]

-- numbers of which none is in a list before, nor there twice
abbrev pub AreFresh : List ℕ → List ℕ → Type 0
AreFresh before [] = Unit {0}
AreFresh before (k ∷ ks) = (is_among before k ≡ false) × AreFresh (before ++ k ∷ []) ks

pub not_of : (b : Bool) → b ≡ false → not b ≡ true
not_of true e = let bad : true ≡ false = e in cc
not_of false e = refl

pub of_not : (b : Bool) → not b ≡ true → b ≡ false
of_not true e = let bad : false ≡ true = e in cc
of_not false e = refl

-- each number uses the next
module _ (n : ℕ) (uses : List (List Bool)) where
  abbrev pub IsWay : ℕ → List ℕ → Type 0
  IsWay u [] = Unit {0}
  IsWay u (k ∷ ks) = (holds uses u k ≡ true) × (k < n) × IsWay k ks
