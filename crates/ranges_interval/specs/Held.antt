-- What a range owes to the values of an operation, each operand being taken by itself (own rule).
use Rattle.std.specs.Prelude.{ℤ, pos, nat_abs}
use Rattle.std.specs.Int.{int_min, int_max}
use Rattle.ranges_interval.specs.declared.Interval.{Interval}
use Rattle.ranges_interval.specs.Interval.{IsIn, IsWithin, IsOrdered, IsWithoutZero}

-- the absolute value of a number (own rule)
abbrev pub absolute : ℤ → ℤ
absolute z = pos (nat_abs z)

-- LIMIT of numbers (own rule)
abbrev pub limited : (least input most : ℤ) → ℤ
limited least input most = int_min (int_max input least) most

-- the range holds each value for an operand of the first range (own rule)
abbrev pub Holds1 : (ℤ → ℤ) → Interval → Interval → Type 0
Holds1 f i r = (x : ℤ) → IsIn i x → IsIn r (f x)

-- the same of two operands (own rule)
abbrev pub Holds : (ℤ → ℤ → ℤ) → Interval → Interval → Interval → Type 0
Holds f i j r = (x y : ℤ) → IsIn i x → IsIn j y → IsIn r (f x y)

-- the same of three operands (own rule)
abbrev pub Holds3 : (ℤ → ℤ → ℤ → ℤ) → Interval → Interval → Interval → Interval → Type 0
Holds3 f i j k r = (x y z : ℤ) → IsIn i x → IsIn j y → IsIn k z → IsIn r (f x y z)

-- the range lies in each that holds all values, so its ends are reached (own rule)
abbrev pub IsLeast1 : (ℤ → ℤ) → Interval → Interval → Type 0
IsLeast1 f i r = (s : Interval) → Holds1 f i s → IsWithin r s

-- the same of two operands (own rule)
abbrev pub IsLeast : (ℤ → ℤ → ℤ) → Interval → Interval → Interval → Type 0
IsLeast f i j r = (s : Interval) → Holds f i j s → IsWithin r s

-- the same of three operands (own rule)
abbrev pub IsLeast3 : (ℤ → ℤ → ℤ → ℤ) → Interval → Interval → Interval → Interval → Type 0
IsLeast3 f i j k r = (s : Interval) → Holds3 f i j k s → IsWithin r s

-- of operands in wider ranges, each range having a number, the range is wider (own rule)
abbrev pub Grows1 : (Interval → Interval) → Type 0
Grows1 f = (i wide : Interval) → IsOrdered i → IsWithin i wide → IsWithin (f i) (f wide)

-- the same of two operands (own rule)
abbrev pub Grows : (Interval → Interval → Interval) → Type 0
Grows f = (i j wide_i wide_j : Interval) → IsOrdered i → IsOrdered j → IsWithin i wide_i → IsWithin j wide_j → IsWithin (f i j) (f wide_i wide_j)

-- the same of a dividend and a divisor, neither range of divisors having 0 (own rule)
abbrev pub GrowsWithoutZero : (Interval → Interval → Interval) → Type 0
GrowsWithoutZero f = (i j wide_i wide_j : Interval) → IsOrdered i → IsOrdered j → IsWithoutZero wide_j → IsWithin i wide_i → IsWithin j wide_j → IsWithin (f i j) (f wide_i wide_j)

-- the same of three operands (own rule)
abbrev pub Grows3 : (Interval → Interval → Interval → Interval) → Type 0
Grows3 f = (i j k wide_i wide_j wide_k : Interval) → IsOrdered i → IsOrdered j → IsOrdered k → IsWithin i wide_i → IsWithin j wide_j → IsWithin k wide_k → IsWithin (f i j k) (f wide_i wide_j wide_k)
