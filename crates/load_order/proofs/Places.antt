-- Faults of units, one after another.
use Rattle.std.proofs.Common.{◌≡◌, ℕ, ◌+◌, inl, inr, Bool, true, false, if◌then◌else◌, List, Option, Some, None, slice_get, refl, sym, ap, ◌∙◌, subst, arith}
use Rattle.std.proofs.lemmas.Bool.{cases_lt}
use Rattle.il_syntax.specs.declared.tree.Place.{Place}
use Rattle.il_statics.specs.Least.{NumberedFault, fault_at, fault_of, is_before, earlier_of, IsLeast, When, Either, Below}
use Rattle.il_statics.proofs.Least.{least_both, least_same, least_if}
use Rattle.load_order.specs.Breaks.{precedes}
use Rattle.load_order.proofs.Tabled.{some_same}

-- what would not be the first changes nothing
pub stays : (place : Place) (found : Option NumberedFault) (long : Bool) → precedes place found ≡ false → found ≡ earlier_of found (fault_of long 46 place)
stays place None long e = let bad : true ≡ false = e in cc
stays place (Some f) false e = refl
stays place (Some f) true e = sym (ap (λ t. if t then Some (fault_at 46 place) else Some f) e)

-- none is below the first
pub below_none : {A : Type 0} (P : ℕ → Place → Type 0) (H : ℕ → A → ℕ → Place → Type 0) (items : List A) (found : Option NumberedFault) → IsLeast found P → IsLeast found (Either P (Below H items 0))
below_none P H items found least = least_same P (Either P (Below H items 0)) found least (λ n p h. inl h) down
  where
    down : (n : ℕ) (p : Place) → Either P (Below H items 0) n p → P n p
    down n p (inl h) = h
    down n p (inr (at, y, low, get, h)) = absurd (omega (arith, low))

-- one more
pub below_next : {A : Type 0} (P : ℕ → Place → Type 0) (H : ℕ → A → ℕ → Place → Type 0) (items : List A) (i : ℕ) (x : A) (found one r : Option NumberedFault) → slice_get items i ≡ Some x → r ≡ earlier_of found one → IsLeast found (Either P (Below H items i)) → IsLeast one (H i x)
    → IsLeast r (Either P (Below H items (i + 1)))
below_next {A = A} P H items i x found one r there is before here =
    least_same (Either (Either P (Below H items i)) (H i x)) (Either P (Below H items (i + 1))) r (least_both (Either P (Below H items i)) (H i x) found one r is before here) up down
  where
    up : (n : ℕ) (p : Place) → Either (Either P (Below H items i)) (H i x) n p → Either P (Below H items (i + 1)) n p
    up n p (inl (inl h)) = inl h
    up n p (inl (inr (at, y, low, get, h))) = inr (at, y, omega (arith, low), get, h)
    up n p (inr h) = inr (i, x, omega arith, there, h)

    here_or : (at : ℕ) (y : A) (n : ℕ) (p : Place) → at ≡ i → slice_get items at ≡ Some y → H at y n p → H i x n p
    here_or at y n p e get h = subst (λ z. H i z n p) (some_same y x (sym get ∙ ap (slice_get items) e ∙ there)) (subst (λ k. H k y n p) e h)

    down : (n : ℕ) (p : Place) → Either P (Below H items (i + 1)) n p → Either (Either P (Below H items i)) (H i x) n p
    down n p (inl h) = inl (inl h)
    down n p (inr (at, y, low, get, h)) = elim (cases_lt at i) [ inl l ↦ inl (inr (at, y, l, get, h)) | inr g ↦ inr (here_or at y n p (omega (arith, g, low)) get h) ]

-- a unit's chain, if it is too long
pub long_least : (b : Bool) (place : Place) → IsLeast (fault_of b 46 place) (When (b ≡ true) 46 place)
long_least b place = least_if b 46 place (fault_of b 46 place) (b ≡ true) refl (λ e. e) (λ e. e)
