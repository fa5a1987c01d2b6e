-- Ranges of integers, and the table of what operations make of them (own rule).
use Rattle.std.specs.Prelude.{Bool, true, false, ℤ, pos, negsuc, ◌+ℤ◌, ◌-ℤ◌, ◌*ℤ◌, neg_ℤ, nat_abs, int_le, int_div, ◌≤ℤ◌}
use Rattle.std.specs.Int.{int_min, int_max}
use Rattle.ranges_interval.specs.declared.Interval.{Interval}

-- RANGES

-- the number lies in the range (own rule)
abbrev pub IsIn : Interval → ℤ → Type 0
IsIn i z = (i.lo ≤ℤ z) × (z ≤ℤ i.hi)

-- the first range lies in the second, by their ends (own rule)
abbrev pub IsWithin : Interval → Interval → Type 0
IsWithin i j = (j.lo ≤ℤ i.lo) × (i.hi ≤ℤ j.hi)

-- the range has a number (own rule)
abbrev pub IsOrdered : Interval → Type 0
IsOrdered i = i.lo ≤ℤ i.hi

-- no number of the range is 0, as a divisor's (own rule)
abbrev pub IsWithoutZero : Interval → Type 0
IsWithoutZero i = ¬ IsIn i (pos 0)

-- from the least DINT to the greatest UDINT (own rule)
abbrev pub IsEnd : ℤ → Type 0
IsEnd z = (negsuc 2147483647 ≤ℤ z) × (z ≤ℤ pos 4294967295)

-- what operations take: a range that has a number, and whose ends are a DINT or a UDINT (own rule)
pub record IsOperand (i : Interval) : Type 0 where
  pub low : IsEnd i.lo
  pub high : IsEnd i.hi
  pub ordered : IsOrdered i

-- THE TABLE

-- all numbers from one to another (own rule)
abbrev pub between : (low high : ℤ) → Interval
between low high = record { lo = low; hi = high }

-- ADD (own rule)
abbrev pub interval_add : Interval → Interval → Interval
interval_add i j = between (i.lo +ℤ j.lo) (i.hi +ℤ j.hi)

-- SUB (own rule)
abbrev pub interval_sub : Interval → Interval → Interval
interval_sub i j = between (i.lo -ℤ j.hi) (i.hi -ℤ j.lo)

-- from the least to the greatest of four numbers (own rule)
abbrev pub span : (a b c d : ℤ) → Interval
span a b c d = between (int_min (int_min a b) (int_min c d)) (int_max (int_max a b) (int_max c d))

-- MUL: from the least to the greatest product of the ends (own rule)
abbrev pub interval_mul : Interval → Interval → Interval
interval_mul i j = span (i.lo *ℤ j.lo) (i.lo *ℤ j.hi) (i.hi *ℤ j.lo) (i.hi *ℤ j.hi)

-- DIV, by a divisor without 0: from the least to the greatest quotient of the ends (own rule)
abbrev pub interval_div : Interval → Interval → Interval
interval_div i j = span (int_div i.lo j.lo) (int_div i.lo j.hi) (int_div i.hi j.lo) (int_div i.hi j.hi)

-- the greatest size of a remainder by a divisor of the range (own rule)
abbrev pub greatest_remainder : Interval → ℤ
greatest_remainder j = int_max (pos (nat_abs j.lo)) (pos (nat_abs j.hi)) -ℤ pos 1

-- MOD, by the signs that the dividend has and the greatest size of the remainder (own rule)
abbrev pub interval_mod_by : (no_negative no_positive : Bool) → Interval → (most : ℤ) → Interval
interval_mod_by true no_positive i most = between (pos 0) (int_min i.hi most)
interval_mod_by false true i most = between (int_max i.lo (neg_ℤ most)) (pos 0)
interval_mod_by false false i most = between (int_max i.lo (neg_ℤ most)) (int_min i.hi most)

-- MOD, by a divisor without 0; its ends need not be reached (own rule)
abbrev pub interval_mod : Interval → Interval → Interval
interval_mod i j = interval_mod_by (int_le (pos 0) i.lo) (int_le i.hi (pos 0)) i (greatest_remainder j)

-- ABS, by the signs that the operand has (own rule)
abbrev pub interval_abs_by : (no_negative no_positive : Bool) → Interval → Interval
interval_abs_by true no_positive i = i
interval_abs_by false true i = between (neg_ℤ i.hi) (neg_ℤ i.lo)
interval_abs_by false false i = between (pos 0) (int_max (neg_ℤ i.lo) i.hi)

-- ABS (own rule)
abbrev pub interval_abs : Interval → Interval
interval_abs i = interval_abs_by (int_le (pos 0) i.lo) (int_le i.hi (pos 0)) i

-- MIN (own rule)
abbrev pub interval_min : Interval → Interval → Interval
interval_min i j = between (int_min i.lo j.lo) (int_min i.hi j.hi)

-- MAX (own rule)
abbrev pub interval_max : Interval → Interval → Interval
interval_max i j = between (int_max i.lo j.lo) (int_max i.hi j.hi)

-- LIMIT(MN, IN, MX) = MIN(MAX(IN, MN), MX) (own rule)
abbrev pub interval_limit : (least input most : Interval) → Interval
interval_limit least input most = interval_min (interval_max input least) most

-- from the lower of the lower ends to the higher of the higher ones (own rule)
abbrev pub interval_join : Interval → Interval → Interval
interval_join i j = between (int_min i.lo j.lo) (int_max i.hi j.hi)
