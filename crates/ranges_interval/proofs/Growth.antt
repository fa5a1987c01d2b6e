-- The range of each operation grows with the ranges of its operands.
use Rattle.std.proofs.Common.{ℤ, pos, ◌≤ℤ◌, ◌+ℤ◌, ◌-ℤ◌, ◌*ℤ◌, arith}
use Rattle.std.proofs.lemmas.Int.{ints, clamps}
use Rattle.std.specs.Prelude.{neg_ℤ}
use Rattle.std.specs.Int.{int_min, int_max}
use Rattle.ranges_interval.specs.declared.Interval.{Interval}
use Rattle.ranges_interval.specs.Interval.{IsIn, IsWithin, IsOrdered, IsWithoutZero, interval_add, interval_sub, interval_mul, interval_div, greatest_remainder, interval_mod, interval_abs, interval_min, interval_max, interval_limit, interval_join}
use Rattle.ranges_interval.specs.Held.{Holds, IsLeast, Grows1, Grows, GrowsWithoutZero, Grows3}
use Rattle.ranges_interval.proofs.Hulls.{add_holds, add_least, sub_holds, sub_least, mul_holds, mul_least, div_holds, div_least, mod_low_is, mod_high_is, abs_holds, abs_least, min_holds, min_least, max_holds, max_least, limit_holds, limit_least}

wider_in : (i wide : Interval) (x : ℤ) → IsWithin i wide → IsIn i x → IsIn wide x
wider_in i wide x w h = (omega (arith, ints), omega (arith, ints))

narrower_without : (i wide : Interval) → IsWithin i wide → IsWithoutZero wide → IsWithoutZero i
narrower_without i wide w without h = without (wider_in i wide (pos 0) w h)

wider_ordered : (i wide : Interval) → IsWithin i wide → IsOrdered i → IsOrdered wide
wider_ordered i wide w p = omega (arith, ints)

-- what holds all values, and lies in each range that does, grows
hull_grows : (f : ℤ → ℤ → ℤ) (g : Interval → Interval → Interval) → ((i j : Interval) → Holds f i j (g i j)) → ((i j : Interval) → IsOrdered i → IsOrdered j → IsLeast f i j (g i j)) → Grows g
hull_grows f g holds least i j wide_i wide_j p q v w = least i j p q (g wide_i wide_j) (λ x y h k. holds wide_i wide_j x y (wider_in i wide_i x v h) (wider_in j wide_j y w k))

pub add_grows : Grows interval_add
add_grows = hull_grows ◌+ℤ◌ interval_add add_holds add_least

pub sub_grows : Grows interval_sub
sub_grows = hull_grows ◌-ℤ◌ interval_sub sub_holds sub_least

pub mul_grows : Grows interval_mul
mul_grows = hull_grows ◌*ℤ◌ interval_mul mul_holds mul_least

pub min_grows : Grows interval_min
min_grows = hull_grows int_min interval_min min_holds min_least

pub max_grows : Grows interval_max
max_grows = hull_grows int_max interval_max max_holds max_least

pub abs_grows : Grows1 interval_abs
abs_grows i wide p v = abs_least i p (interval_abs wide) (λ x h. abs_holds wide x (wider_in i wide x v h))

pub limit_grows : Grows3 interval_limit
limit_grows i j k wide_i wide_j wide_k p q r u v w = limit_least i j k p q r (interval_limit wide_i wide_j wide_k) (λ x y z a b c. limit_holds wide_i wide_j wide_k x y z (wider_in i wide_i x u a) (wider_in j wide_j y v b) (wider_in k wide_k z w c))

pub div_grows : GrowsWithoutZero interval_div
div_grows i j wide_i wide_j p q without v w = div_least i j p q (interval_div wide_i wide_j) (λ x y h k. div_holds wide_i wide_j without x y (wider_in i wide_i x v h) (wider_in j wide_j y w k))

-- the greatest size of a remainder grows with the divisors
remainder_grows : (j wide : Interval) → IsOrdered j → IsWithin j wide → greatest_remainder j ≤ℤ greatest_remainder wide
remainder_grows j wide q w = omega (arith, ints, clamps)

mod_low_grows : (a b m n : ℤ) → b ≤ℤ a → m ≤ℤ n → int_min (pos 0) (int_max b (neg_ℤ n)) ≤ℤ int_min (pos 0) (int_max a (neg_ℤ m))
mod_low_grows a b m n h k = omega (arith, ints, clamps)

mod_high_grows : (a b m n : ℤ) → a ≤ℤ b → m ≤ℤ n → int_max (pos 0) (int_min a m) ≤ℤ int_max (pos 0) (int_min b n)
mod_high_grows a b m n h k = omega (arith, ints, clamps)

pub mod_grows : GrowsWithoutZero interval_mod
mod_grows i j wide_i wide_j p q without v w =
    let narrow = narrower_without j wide_j w without in
    let wide_p = wider_ordered i wide_i v p in
    let wide_q = wider_ordered j wide_j w q in
    let more = remainder_grows j wide_j q w in (
      rw (mod_low_is i j p q narrow, mod_low_is wide_i wide_j wide_p wide_q without) (mod_low_grows i.lo wide_i.lo (greatest_remainder j) (greatest_remainder wide_j) v.0 more),
      rw (mod_high_is i j p q narrow, mod_high_is wide_i wide_j wide_p wide_q without) (mod_high_grows i.hi wide_i.hi (greatest_remainder j) (greatest_remainder wide_j) v.1 more),
    )

pub join_grows : Grows interval_join
join_grows i j wide_i wide_j p q v w = (omega (arith, ints, clamps), omega (arith, ints, clamps))
