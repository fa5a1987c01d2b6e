-- The ranges of the table hold all values, and lie in each range that does.
use Rattle.std.proofs.Common.{◌≡◌, suc, ◌<◌, ℤ, pos, negsuc, ◌≤ℤ◌, ◌+ℤ◌, ◌-ℤ◌, ◌*ℤ◌, Bool, true, false, refl, sym, subst, ap, ◌∙◌, inl, inr, arith}
use Rattle.std.proofs.Math.Nat.{mod-le}
use Rattle.std.proofs.lemmas.Int.{ints, clamps, rem_below}
use Rattle.std.specs.Prelude.{neg_ℤ, nat_abs, int_le, int_div, int_rem}
use Rattle.std.specs.Int.{int_min, int_max}
use Rattle.ranges_interval.specs.declared.Interval.{Interval}
use Rattle.ranges_interval.specs.Interval.{IsIn, IsWithin, IsOrdered, IsWithoutZero, IsOperand, between, span, interval_add, interval_sub, interval_mul, interval_div, greatest_remainder, interval_mod_by, interval_mod, interval_abs_by, interval_abs, interval_min, interval_max, interval_limit, interval_join}
use Rattle.ranges_interval.specs.Held.{absolute, limited, Holds1, Holds, Holds3, IsLeast1, IsLeast, IsLeast3}
use Rattle.ranges_interval.proofs.Corners.{LiesBetween, not_zero, product_in, quotient_in}

-- THE ENDS

pub low_in : (i : Interval) → IsOrdered i → IsIn i i.lo
low_in i p = (omega (arith, ints), p)

pub high_in : (i : Interval) → IsOrdered i → IsIn i i.hi
high_in i p = (p, omega (arith, ints))

-- a range with four numbers has their span
span_within : (s : Interval) (a b c d : ℤ) → IsIn s a → IsIn s b → IsIn s c → IsIn s d → IsWithin (span a b c d) s
span_within s a b c d h k l m = (omega (arith, ints, clamps), omega (arith, ints, clamps))

-- SUMS AND DIFFERENCES

pub add_holds : (i j : Interval) → Holds ◌+ℤ◌ i j (interval_add i j)
add_holds i j x y h k = (omega (arith, ints), omega (arith, ints))

pub add_least : (i j : Interval) → IsOrdered i → IsOrdered j → IsLeast ◌+ℤ◌ i j (interval_add i j)
add_least i j p q s h = ((h i.lo j.lo (low_in i p) (low_in j q)).0, (h i.hi j.hi (high_in i p) (high_in j q)).1)

pub sub_holds : (i j : Interval) → Holds ◌-ℤ◌ i j (interval_sub i j)
sub_holds i j x y h k = (omega (arith, ints), omega (arith, ints))

pub sub_least : (i j : Interval) → IsOrdered i → IsOrdered j → IsLeast ◌-ℤ◌ i j (interval_sub i j)
sub_least i j p q s h = ((h i.lo j.hi (low_in i p) (high_in j q)).0, (h i.hi j.lo (high_in i p) (low_in j q)).1)

-- PRODUCTS AND QUOTIENTS

pub mul_holds : (i j : Interval) → Holds ◌*ℤ◌ i j (interval_mul i j)
mul_holds i j x y h k = product_in i j x y h k

-- a range that holds an operation's values has the span of the corners
corners_within : (f : ℤ → ℤ → ℤ) (i j s : Interval) → IsOrdered i → IsOrdered j → Holds f i j s → IsWithin (span (f i.lo j.lo) (f i.lo j.hi) (f i.hi j.lo) (f i.hi j.hi)) s
corners_within f i j s p q h =
    span_within s (f i.lo j.lo) (f i.lo j.hi) (f i.hi j.lo) (f i.hi j.hi) (h i.lo j.lo (low_in i p) (low_in j q)) (h i.lo j.hi (low_in i p) (high_in j q)) (h i.hi j.lo (high_in i p) (low_in j q)) (h i.hi j.hi (high_in i p) (high_in j q))

pub mul_least : (i j : Interval) → IsOrdered i → IsOrdered j → IsLeast ◌*ℤ◌ i j (interval_mul i j)
mul_least i j p q s h = corners_within ◌*ℤ◌ i j s p q h

pub div_holds : (i j : Interval) → IsWithoutZero j → Holds int_div i j (interval_div i j)
div_holds i j without x y h k = quotient_in i j x y without h k

pub div_least : (i j : Interval) → IsOrdered i → IsOrdered j → IsLeast int_div i j (interval_div i j)
div_least i j p q s h = corners_within int_div i j s p q h

-- REMAINDERS

-- a remainder lies between 0 and the dividend
remainder_between : (x y : ℤ) → LiesBetween (pos 0) x (int_rem x y)
remainder_between (pos a) y = let h = mod-le a (nat_abs y) in inl (omega (arith, ints), omega (arith, ints))
remainder_between (negsuc a) y = let h = mod-le (suc a) (nat_abs y) in inr (omega (arith, ints), omega (arith, ints))

-- a number of a range is no larger in size than the larger of its ends
size_at_most : (j : Interval) (y : ℤ) → IsIn j y → pos (nat_abs y) ≤ℤ int_max (pos (nat_abs j.lo)) (pos (nat_abs j.hi))
size_at_most j y h = omega (arith, ints, clamps)

remainder_size : (j : Interval) (x y : ℤ) → IsWithoutZero j → IsIn j y → pos (nat_abs (int_rem x y)) ≤ℤ greatest_remainder j
remainder_size j x y without h =
    let some = not_zero j y without h in
    let positive : 0 < nat_abs y = omega (arith, ints) in
    let small = rem_below x y positive in
    let most = size_at_most j y h in
    omega (arith, ints)

pub remainder_size_natural : (j : Interval) → IsOrdered j → IsWithoutZero j → pos 0 ≤ℤ greatest_remainder j
remainder_size_natural j p without = let h = remainder_size j (pos 0) j.lo without (low_in j p) in omega (arith, ints)

-- the ends by the table, whatever the signs
mod_low : (no_negative no_positive : Bool) (i : Interval) (most : ℤ) → int_le (pos 0) i.lo ≡ no_negative → int_le i.hi (pos 0) ≡ no_positive → IsOrdered i → pos 0 ≤ℤ most
    → (interval_mod_by no_negative no_positive i most).lo ≡ int_min (pos 0) (int_max i.lo (neg_ℤ most))
mod_low true no_positive i most e g p h = omega (arith, ints, clamps)
mod_low false true i most e g p h = omega (arith, ints, clamps)
mod_low false false i most e g p h = omega (arith, ints, clamps)

mod_high : (no_negative no_positive : Bool) (i : Interval) (most : ℤ) → int_le (pos 0) i.lo ≡ no_negative → int_le i.hi (pos 0) ≡ no_positive → IsOrdered i → pos 0 ≤ℤ most
    → (interval_mod_by no_negative no_positive i most).hi ≡ int_max (pos 0) (int_min i.hi most)
mod_high true no_positive i most e g p h = omega (arith, ints, clamps)
mod_high false true i most e g p h = omega (arith, ints, clamps)
mod_high false false i most e g p h = omega (arith, ints, clamps)

pub mod_low_is : (i j : Interval) → IsOrdered i → IsOrdered j → IsWithoutZero j → (interval_mod i j).lo ≡ int_min (pos 0) (int_max i.lo (neg_ℤ (greatest_remainder j)))
mod_low_is i j p q without = mod_low (int_le (pos 0) i.lo) (int_le i.hi (pos 0)) i (greatest_remainder j) refl refl p (remainder_size_natural j q without)

pub mod_high_is : (i j : Interval) → IsOrdered i → IsOrdered j → IsWithoutZero j → (interval_mod i j).hi ≡ int_max (pos 0) (int_min i.hi (greatest_remainder j))
mod_high_is i j p q without = mod_high (int_le (pos 0) i.lo) (int_le i.hi (pos 0)) i (greatest_remainder j) refl refl p (remainder_size_natural j q without)

-- a number between 0 and one of the range, of at most this size
low_bound : (i : Interval) (m x r : ℤ) → IsIn i x → LiesBetween (pos 0) x r → pos (nat_abs r) ≤ℤ m → int_min (pos 0) (int_max i.lo (neg_ℤ m)) ≤ℤ r
low_bound i m x r h (inl b) small = omega (arith, ints, clamps)
low_bound i m x r h (inr b) small = omega (arith, ints, clamps)

high_bound : (i : Interval) (m x r : ℤ) → IsIn i x → LiesBetween (pos 0) x r → pos (nat_abs r) ≤ℤ m → r ≤ℤ int_max (pos 0) (int_min i.hi m)
high_bound i m x r h (inl b) small = omega (arith, ints, clamps)
high_bound i m x r h (inr b) small = omega (arith, ints, clamps)

ordered_from : (i : Interval) (x : ℤ) → IsIn i x → IsOrdered i
ordered_from i x h = omega (arith, ints)

pub mod_holds : (i j : Interval) → IsWithoutZero j → Holds int_rem i j (interval_mod i j)
mod_holds i j without x y h k =
    let p = ordered_from i x h in
    let q = ordered_from j y k in
    let small = remainder_size j x y without k in (
      rw (mod_low_is i j p q without) (low_bound i (greatest_remainder j) x (int_rem x y) h (remainder_between x y) small),
      rw (mod_high_is i j p q without) (high_bound i (greatest_remainder j) x (int_rem x y) h (remainder_between x y) small),
    )

-- ABSOLUTE VALUES

abs_in : (no_negative no_positive : Bool) (i : Interval) (x : ℤ) → int_le (pos 0) i.lo ≡ no_negative → int_le i.hi (pos 0) ≡ no_positive → IsIn i x → IsIn (interval_abs_by no_negative no_positive i) (absolute x)
abs_in true no_positive i x e g h = (omega (arith, ints), omega (arith, ints))
abs_in false true i x e g h = (omega (arith, ints), omega (arith, ints))
abs_in false false i x e g h = (omega (arith, ints), omega (arith, ints, clamps))

pub abs_holds : (i : Interval) → Holds1 absolute i (interval_abs i)
abs_holds i x h = abs_in (int_le (pos 0) i.lo) (int_le i.hi (pos 0)) i x refl refl h

abs_within : (no_negative no_positive : Bool) (i s : Interval) → int_le (pos 0) i.lo ≡ no_negative → int_le i.hi (pos 0) ≡ no_positive → IsOrdered i → Holds1 absolute i s → IsWithin (interval_abs_by no_negative no_positive i) s
abs_within true no_positive i s e g p h =
    let low = h i.lo (low_in i p) in let high = h i.hi (high_in i p) in (omega (arith, ints), omega (arith, ints))
abs_within false true i s e g p h =
    let low = h i.lo (low_in i p) in let high = h i.hi (high_in i p) in (omega (arith, ints), omega (arith, ints))
abs_within false false i s e g p h =
    let low = h i.lo (low_in i p) in let high = h i.hi (high_in i p) in
    let none = h (pos 0) (omega (arith, ints), omega (arith, ints)) in (omega (arith, ints), omega (arith, ints, clamps))

pub abs_least : (i : Interval) → IsOrdered i → IsLeast1 absolute i (interval_abs i)
abs_least i p s h = abs_within (int_le (pos 0) i.lo) (int_le i.hi (pos 0)) i s refl refl p h

-- LEAST, GREATEST AND LIMIT

pub min_holds : (i j : Interval) → Holds int_min i j (interval_min i j)
min_holds i j x y h k = (omega (arith, ints, clamps), omega (arith, ints, clamps))

pub min_least : (i j : Interval) → IsOrdered i → IsOrdered j → IsLeast int_min i j (interval_min i j)
min_least i j p q s h = ((h i.lo j.lo (low_in i p) (low_in j q)).0, (h i.hi j.hi (high_in i p) (high_in j q)).1)

pub max_holds : (i j : Interval) → Holds int_max i j (interval_max i j)
max_holds i j x y h k = (omega (arith, ints, clamps), omega (arith, ints, clamps))

pub max_least : (i j : Interval) → IsOrdered i → IsOrdered j → IsLeast int_max i j (interval_max i j)
max_least i j p q s h = ((h i.lo j.lo (low_in i p) (low_in j q)).0, (h i.hi j.hi (high_in i p) (high_in j q)).1)

pub limit_holds : (least input most : Interval) → Holds3 limited least input most (interval_limit least input most)
limit_holds least input most x y z h k l = min_holds (interval_max input least) most (int_max y x) z (max_holds input least y x k h) l

pub limit_least : (least input most : Interval) → IsOrdered least → IsOrdered input → IsOrdered most → IsLeast3 limited least input most (interval_limit least input most)
limit_least least input most p q r s h =
    ((h least.lo input.lo most.lo (low_in least p) (low_in input q) (low_in most r)).0, (h least.hi input.hi most.hi (high_in least p) (high_in input q) (high_in most r)).1)

-- WHOLE CONTRACTS

-- what the range of an operation with two operands owes
pub record IsHull (f : ℤ → ℤ → ℤ) (i j r : Interval) : Type 0 where
  pub ordered : IsOrdered r
  pub holds : Holds f i j r
  pub least : IsLeast f i j r

hull_of : (f : ℤ → ℤ → ℤ) (i j r s : Interval) → IsOrdered i → IsOrdered j → Holds f i j s → IsLeast f i j s → r ≡ s → IsHull f i j r
hull_of f i j r s p q holds least e =
    subst (IsHull f i j) (sym e) (record { ordered = ordered_from s (f i.lo j.lo) (holds i.lo j.lo (low_in i p) (low_in j q)); holds = holds; least = least })

pub add_hull : (i j r : Interval) → IsOrdered i → IsOrdered j → r ≡ interval_add i j → IsHull ◌+ℤ◌ i j r
add_hull i j r p q e = hull_of ◌+ℤ◌ i j r (interval_add i j) p q (add_holds i j) (add_least i j p q) e

pub sub_hull : (i j r : Interval) → IsOrdered i → IsOrdered j → r ≡ interval_sub i j → IsHull ◌-ℤ◌ i j r
sub_hull i j r p q e = hull_of ◌-ℤ◌ i j r (interval_sub i j) p q (sub_holds i j) (sub_least i j p q) e

pub mul_hull : (i j r : Interval) → IsOrdered i → IsOrdered j → r ≡ interval_mul i j → IsHull ◌*ℤ◌ i j r
mul_hull i j r p q e = hull_of ◌*ℤ◌ i j r (interval_mul i j) p q (mul_holds i j) (mul_least i j p q) e

pub div_hull : (i j r : Interval) → IsOrdered i → IsOrdered j → IsWithoutZero j → r ≡ interval_div i j → IsHull int_div i j r
div_hull i j r p q without e = hull_of int_div i j r (interval_div i j) p q (div_holds i j without) (div_least i j p q) e

pub min_hull : (i j r : Interval) → IsOrdered i → IsOrdered j → r ≡ interval_min i j → IsHull int_min i j r
min_hull i j r p q e = hull_of int_min i j r (interval_min i j) p q (min_holds i j) (min_least i j p q) e

pub max_hull : (i j r : Interval) → IsOrdered i → IsOrdered j → r ≡ interval_max i j → IsHull int_max i j r
max_hull i j r p q e = hull_of int_max i j r (interval_max i j) p q (max_holds i j) (max_least i j p q) e

-- ranges with the same ends are one
pub same_ends : (a b c d : ℤ) → a ≡ c → b ≡ d → between a b ≡ between c d
same_ends a b c d e g = cc

pub same_spans : (r : Interval) (a b c d k l m n : ℤ) → r ≡ span k l m n → k ≡ a → l ≡ b → m ≡ c → n ≡ d → r ≡ span a b c d
same_spans r a b c d k l m n e p q s t = e ∙ (ap (λ (z : ℤ). span z l m n) p ∙ (ap (λ (z : ℤ). span a z m n) q ∙ (ap (λ (z : ℤ). span a b z n) s ∙ ap (λ (z : ℤ). span a b c z) t)))

-- the range of MOD by its ends, whatever the signs
pub mod_is : (i j : Interval) (low high : ℤ) → IsOrdered i → IsOrdered j → IsWithoutZero j → low ≡ int_min (pos 0) (int_max i.lo (neg_ℤ (greatest_remainder j))) → high ≡ int_max (pos 0) (int_min i.hi (greatest_remainder j))
    → between low high ≡ interval_mod i j
mod_is i j low high p q without e g = same_ends low high (interval_mod i j).lo (interval_mod i j).hi (e ∙ sym (mod_low_is i j p q without)) (g ∙ sym (mod_high_is i j p q without))

-- OPERANDS AGAIN

pub max_operand : (i j : Interval) → IsOperand i → IsOperand j → IsOperand (interval_max i j)
max_operand i j p q = record { low = (omega (arith, ints, clamps), omega (arith, ints, clamps)); high = (omega (arith, ints, clamps), omega (arith, ints, clamps)); ordered = omega (arith, ints, clamps) }

pub min_operand : (i j : Interval) → IsOperand i → IsOperand j → IsOperand (interval_min i j)
min_operand i j p q = record { low = (omega (arith, ints, clamps), omega (arith, ints, clamps)); high = (omega (arith, ints, clamps), omega (arith, ints, clamps)); ordered = omega (arith, ints, clamps) }

pub join_operand : (i j : Interval) → IsOperand i → IsOperand j → IsOperand (interval_join i j)
join_operand i j p q = record { low = (omega (arith, ints, clamps), omega (arith, ints, clamps)); high = (omega (arith, ints, clamps), omega (arith, ints, clamps)); ordered = omega (arith, ints, clamps) }

-- ends of MOD's range, of at most the sizes of the dividend's
remainder_operand : (i : Interval) (most : ℤ) → IsOperand i → pos 0 ≤ℤ most → IsOperand (between (int_min (pos 0) (int_max i.lo (neg_ℤ most))) (int_max (pos 0) (int_min i.hi most)))
remainder_operand i most p h = record { low = (omega (arith, ints, clamps), omega (arith, ints, clamps)); high = (omega (arith, ints, clamps), omega (arith, ints, clamps)); ordered = omega (arith, ints, clamps) }

pub mod_operand : (i j : Interval) → IsOperand i → IsOperand j → IsWithoutZero j → IsOperand (interval_mod i j)
mod_operand i j p q without = subst IsOperand (mod_is i j _ _ p.ordered q.ordered without refl refl) (remainder_operand i (greatest_remainder j) p (remainder_size_natural j q.ordered without))

-- A RANGE THAT BOTH LIE IN

pub join_first : (i j : Interval) → IsWithin i (interval_join i j)
join_first i j = (omega (arith, ints, clamps), omega (arith, ints, clamps))

pub join_second : (i j : Interval) → IsWithin j (interval_join i j)
join_second i j = (omega (arith, ints, clamps), omega (arith, ints, clamps))

pub join_least : (i j s : Interval) → IsWithin i s → IsWithin j s → IsWithin (interval_join i j) s
join_least i j s h k = (omega (arith, ints, clamps), omega (arith, ints, clamps))
