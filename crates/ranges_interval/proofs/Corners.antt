-- A product and a quotient of numbers in two ranges lie between those of the ends.
use Rattle.std.proofs.Common.{◌≡◌, ℕ, zero, suc, ◌<◌, ◌≤◌, ◌/◌, ℤ, pos, negsuc, ◌≤ℤ◌, ◌*ℤ◌, inl, inr, arith}
use Rattle.std.proofs.Math.Nat.{mul-le-mul_left, mul-le-mul_right, div-mul-le_self, le_trans}
use Rattle.std.proofs.Math.IntN.{*ℤ_comm}
use Rattle.std.proofs.lemmas.Int.{ints, clamps}
use Rattle.std.proofs.lemmas.Nat.{le-div}
use Rattle.std.specs.Prelude.{neg_ℤ, int_div, ◌⊎◌}
use Rattle.std.specs.Int.{int_min, int_max}
use Rattle.ranges_interval.specs.declared.Interval.{Interval}
use Rattle.ranges_interval.specs.Interval.{IsIn, IsWithoutZero, span, interval_mul, interval_div}

-- BETWEEN TWO NUMBERS

-- the number lies between the two, whichever is the greater
abbrev pub LiesBetween : ℤ → ℤ → ℤ → Type 0
LiesBetween p q z = ((p ≤ℤ z) × (z ≤ℤ q)) ⊎ ((q ≤ℤ z) × (z ≤ℤ p))

-- a range with two numbers has all between them
between_in : (r : Interval) (p q z : ℤ) → IsIn r p → IsIn r q → LiesBetween p q z → IsIn r z
between_in r p q z h k (inl b) = (omega (arith, ints), omega (arith, ints))
between_in r p q z h k (inr b) = (omega (arith, ints), omega (arith, ints))

-- the opposites of two numbers have the opposite between them
opposite_between : (p q z : ℤ) → LiesBetween p q z → LiesBetween (neg_ℤ q) (neg_ℤ p) (neg_ℤ z)
opposite_between p q z (inl b) = inl (omega (arith, ints), omega (arith, ints))
opposite_between p q z (inr b) = inr (omega (arith, ints), omega (arith, ints))

turned_between : (p q z : ℤ) → LiesBetween p q z → LiesBetween q p z
turned_between p q z (inl b) = inr b
turned_between p q z (inr b) = inl b

min_left : (a b : ℤ) → int_min a b ≤ℤ a
min_left a b = omega (arith, ints, clamps)

min_right : (a b : ℤ) → int_min a b ≤ℤ b
min_right a b = omega (arith, ints, clamps)

max_left : (a b : ℤ) → a ≤ℤ int_max a b
max_left a b = omega (arith, ints, clamps)

max_right : (a b : ℤ) → b ≤ℤ int_max a b
max_right a b = omega (arith, ints, clamps)

up_to : {a b c : ℤ} → a ≤ℤ b → b ≤ℤ c → a ≤ℤ c
up_to h k = omega (arith, ints)

-- each of the four numbers lies in their span
pub span_first : (a b c d : ℤ) → IsIn (span a b c d) a
span_first a b c d = (up_to (min_left (int_min a b) (int_min c d)) (min_left a b), up_to (max_left a b) (max_left (int_max a b) (int_max c d)))

pub span_second : (a b c d : ℤ) → IsIn (span a b c d) b
span_second a b c d = (up_to (min_left (int_min a b) (int_min c d)) (min_right a b), up_to (max_right a b) (max_left (int_max a b) (int_max c d)))

pub span_third : (a b c d : ℤ) → IsIn (span a b c d) c
span_third a b c d = (up_to (min_right (int_min a b) (int_min c d)) (min_left c d), up_to (max_left c d) (max_right (int_max a b) (int_max c d)))

pub span_fourth : (a b c d : ℤ) → IsIn (span a b c d) d
span_fourth a b c d = (up_to (min_right (int_min a b) (int_min c d)) (min_right c d), up_to (max_right c d) (max_right (int_max a b) (int_max c d)))

-- where an operation lies between its values at the ends, one operand after the other, it lies in the span of the corners
pub in_corners : (f : ℤ → ℤ → ℤ) (a b c d x y : ℤ) → LiesBetween (f a y) (f b y) (f x y) → LiesBetween (f a c) (f a d) (f a y) → LiesBetween (f b c) (f b d) (f b y) → IsIn (span (f a c) (f a d) (f b c) (f b d)) (f x y)
in_corners f a b c d x y along low high =
    let r = span (f a c) (f a d) (f b c) (f b d) in
    between_in r (f a y) (f b y) (f x y)
    (between_in r (f a c) (f a d) (f a y) (span_first (f a c) (f a d) (f b c) (f b d)) (span_second (f a c) (f a d) (f b c) (f b d)) low)
    (between_in r (f b c) (f b d) (f b y) (span_third (f a c) (f a d) (f b c) (f b d)) (span_fourth (f a c) (f a d) (f b c) (f b d)) high)
    along

-- PRODUCTS

times_natural : (n : ℕ) (a b : ℤ) → a ≤ℤ b → (a *ℤ pos n) ≤ℤ (b *ℤ pos n)
times_natural n (pos a) (pos b) h = let k : a ≤ b = omega (arith, ints) in omega (arith, ints, mul-le-mul_right n k)
times_natural n (pos a) (negsuc b) h = absurd (omega (arith, ints))
times_natural n (negsuc a) (pos b) h = omega (arith, ints)
times_natural n (negsuc a) (negsuc b) h = let k : suc b ≤ suc a = omega (arith, ints) in omega (arith, ints, mul-le-mul_right n k)

times_negative : (n : ℕ) (a : ℤ) → a *ℤ negsuc n ≡ neg_ℤ (a *ℤ pos (suc n))
times_negative n (pos a) = omega (arith, ints)
times_negative n (negsuc a) = omega (arith, ints)

-- a product lies between those of the ends of the first operand
product_between : (y a b x : ℤ) → a ≤ℤ x → x ≤ℤ b → LiesBetween (a *ℤ y) (b *ℤ y) (x *ℤ y)
product_between (pos n) a b x h k = inl (times_natural n a x h, times_natural n x b k)
product_between (negsuc n) a b x h k = rw (times_negative n a, times_negative n b, times_negative n x) (turned_between _ _ _ (opposite_between _ _ _ (inl (times_natural (suc n) a x h, times_natural (suc n) x b k))))

-- and of the second
product_between_turned : (x c d y : ℤ) → c ≤ℤ y → y ≤ℤ d → LiesBetween (x *ℤ c) (x *ℤ d) (x *ℤ y)
product_between_turned x c d y h k = rw (*ℤ_comm x c, *ℤ_comm x d, *ℤ_comm x y) (product_between x c d y h k)

-- a product lies among those of the ends
pub product_in : (i j : Interval) (x y : ℤ) → IsIn i x → IsIn j y → IsIn (interval_mul i j) (x *ℤ y)
product_in i j x y h k = in_corners ◌*ℤ◌ i.lo i.hi j.lo j.hi x y (product_between y i.lo i.hi x h.0 h.1) (product_between_turned i.lo j.lo j.hi y k.0 k.1) (product_between_turned i.hi j.lo j.hi y k.0 k.1)

-- QUOTIENTS

dividend_grows : (n a b : ℕ) → 0 < n → a ≤ b → a / n ≤ b / n
dividend_grows n a b some h = le-div (a / n) b n some (le_trans (div-mul-le_self a n) h)

divisor_grows : (a m n : ℕ) → 0 < m → m ≤ n → a / n ≤ a / m
divisor_grows a m n some h = le-div (a / n) a m some (le_trans (mul-le-mul_left (a / n) h) (div-mul-le_self a n))

over_natural : (n : ℕ) (a b : ℤ) → 0 < n → a ≤ℤ b → int_div a (pos n) ≤ℤ int_div b (pos n)
over_natural n (pos a) (pos b) some h = let k : a ≤ b = omega (arith, ints) in let l = dividend_grows n a b some k in omega (arith, ints)
over_natural n (pos a) (negsuc b) some h = absurd (omega (arith, ints))
over_natural n (negsuc a) (pos b) some h = omega (arith, ints)
over_natural n (negsuc a) (negsuc b) some h = let k : suc b ≤ suc a = omega (arith, ints) in let l = dividend_grows n (suc b) (suc a) some k in omega (arith, ints)

over_negative : (n : ℕ) (a : ℤ) → int_div a (negsuc n) ≡ neg_ℤ (int_div a (pos (suc n)))
over_negative n (pos a) = omega (arith, ints)
over_negative n (negsuc a) = omega (arith, ints)

-- a quotient lies between those of the ends of the dividend
quotient_between : (y a b x : ℤ) → ¬ (y ≡ pos 0) → a ≤ℤ x → x ≤ℤ b → LiesBetween (int_div a y) (int_div b y) (int_div x y)
quotient_between (pos n) a b x some h k = let l : 0 < n = omega (arith, ints) in inl (over_natural n a x l h, over_natural n x b l k)
quotient_between (negsuc n) a b x some h k =
    let l : 0 < suc n = omega arith in
    rw (over_negative n a, over_negative n b, over_negative n x) (turned_between _ _ _ (opposite_between _ _ _ (inl (over_natural (suc n) a x l h, over_natural (suc n) x b l k))))

-- and between those of the ends of a positive divisor
over_positive : (x : ℤ) (c d y : ℕ) → 0 < c → c ≤ y → y ≤ d → LiesBetween (int_div x (pos c)) (int_div x (pos d)) (int_div x (pos y))
over_positive (pos a) c d y some h k =
    let l = divisor_grows a c y some h in let m = divisor_grows a y d (omega arith) k in inr (omega (arith, ints), omega (arith, ints))
over_positive (negsuc a) c d y some h k =
    let l = divisor_grows (suc a) c y some h in let m = divisor_grows (suc a) y d (omega arith) k in inl (omega (arith, ints), omega (arith, ints))

positive_end : (c d : ℕ) → ¬ ((pos c ≤ℤ pos 0) × (pos 0 ≤ℤ pos d)) → 0 < c
positive_end zero d keeps = absurd (keeps (omega (arith, ints), omega (arith, ints)))
positive_end (suc c) d keeps = omega arith

-- and between those of the ends of any divisor that keeps its sign
quotient_between_turned : (x c d y : ℤ) → ¬ ((c ≤ℤ pos 0) × (pos 0 ≤ℤ d)) → c ≤ℤ y → y ≤ℤ d → LiesBetween (int_div x c) (int_div x d) (int_div x y)
quotient_between_turned x (pos c) (pos d) (pos y) keeps h k = over_positive x c d y (positive_end c d keeps) (omega (arith, ints)) (omega (arith, ints))
quotient_between_turned x (negsuc c) (negsuc d) (negsuc y) keeps h k =
    rw (over_negative c x, over_negative d x, over_negative y x) (opposite_between _ _ _ (over_positive x (suc d) (suc c) (suc y) (omega arith) (omega (arith, ints)) (omega (arith, ints))))
quotient_between_turned x (negsuc c) (pos d) y keeps h k = absurd (keeps (omega (arith, ints), omega (arith, ints)))
quotient_between_turned x (pos c) d (negsuc y) keeps h k = absurd (omega (arith, ints))
quotient_between_turned x c (negsuc d) (pos y) keeps h k = absurd (omega (arith, ints))

-- a number of a divisor without 0 is not 0
pub not_zero : (j : Interval) (y : ℤ) → IsWithoutZero j → IsIn j y → ¬ (y ≡ pos 0)
not_zero j y without h e = without (rw (← e) h)

-- a quotient lies among those of the ends
pub quotient_in : (i j : Interval) (x y : ℤ) → IsWithoutZero j → IsIn i x → IsIn j y → IsIn (interval_div i j) (int_div x y)
quotient_in i j x y without h k = in_corners int_div i.lo i.hi j.lo j.hi x y (quotient_between y i.lo i.hi x (not_zero j y without k) h.0 h.1) (quotient_between_turned i.lo j.lo j.hi y without k.0 k.1) (quotient_between_turned i.hi j.lo j.hi y without k.0 k.1)
