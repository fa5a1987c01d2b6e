-- What comparisons say of numbers, and the table of what their outcomes leave of a range (own rule).
use Rattle.std.specs.Prelude.{◌≡◌, ◌⊎◌, Bool, true, false, not, ◌&&◌, cond, if◌then◌else◌, ℤ, pos, ◌+ℤ◌, ◌-ℤ◌, int_le, int_lt, Option, Some, None}
use Rattle.std.specs.Int.{int_min, int_max}
use Rattle.il_syntax.specs.declared.tree.Comparison.{Comparison}
use Rattle.il_syntax.specs.declared.tree.Comparison.TheVariants.{Greater, GreaterOrEqual, Equal, NotEqual, LessOrEqual, Less}
use Rattle.ranges_interval.specs.declared.Interval.{Interval}
use Rattle.ranges_interval.specs.Interval.{IsIn, IsWithin, between}

-- COMPARISONS

-- two numbers are the same (own rule)
abbrev pub integer_equal : ℤ → ℤ → Bool
integer_equal x y = int_le x y && int_le y x

-- `left OP right`, as GT is `left > right` (3.2.2)
abbrev pub compared : Comparison → ℤ → ℤ → Bool
compared Greater x y = int_lt y x
compared GreaterOrEqual x y = int_le y x
compared Equal x y = integer_equal x y
compared NotEqual x y = not (integer_equal x y)
compared LessOrEqual x y = int_le x y
compared Less x y = int_lt x y

-- THE TABLE

-- a range, unless it is empty: its lower end is above its upper one (own rule)
abbrev pub unless_empty : Interval → Option Interval
unless_empty i = if int_le i.lo i.hi then Some i else None

-- the numbers of a range from one on (own rule)
abbrev pub at_least : Interval → ℤ → Option Interval
at_least i c = unless_empty (between (int_max i.lo c) i.hi)

-- the numbers of a range up to one (own rule)
abbrev pub at_most : Interval → ℤ → Option Interval
at_most i c = unless_empty (between i.lo (int_min i.hi c))

-- one number of a range (own rule)
abbrev pub equal_to : Interval → ℤ → Option Interval
equal_to i c = if int_le i.lo c && int_le c i.hi then Some (between c c) else None

-- the numbers of a range but one, which only an end can lose (own rule)
abbrev pub other_than : Interval → ℤ → Option Interval
other_than i c = unless_empty (between (cond (integer_equal i.lo c) (i.lo +ℤ pos 1) i.lo) (cond (integer_equal i.hi c) (i.hi -ℤ pos 1) i.hi))

-- what an outcome of a comparison with a number leaves of a range; none where it leaves nothing (own rule)
abbrev pub interval_narrow : Comparison → (holds : Bool) → Interval → ℤ → Option Interval
interval_narrow Greater true i c = at_least i (c +ℤ pos 1)
interval_narrow Greater false i c = at_most i c
interval_narrow GreaterOrEqual true i c = at_least i c
interval_narrow GreaterOrEqual false i c = at_most i (c -ℤ pos 1)
interval_narrow Less true i c = at_most i (c -ℤ pos 1)
interval_narrow Less false i c = at_least i c
interval_narrow LessOrEqual true i c = at_most i c
interval_narrow LessOrEqual false i c = at_least i (c +ℤ pos 1)
interval_narrow Equal true i c = equal_to i c
interval_narrow Equal false i c = other_than i c
interval_narrow NotEqual true i c = other_than i c
interval_narrow NotEqual false i c = equal_to i c

-- WHAT IT LEAVES

-- the number is one of what is left (own rule)
abbrev pub IsLeft : Option Interval → ℤ → Type 0
IsLeft None z = ⊥
IsLeft (Some i) z = IsIn i z

-- each number of the range that has the outcome is left (own rule)
abbrev pub LeavesAll : Comparison → Bool → Interval → ℤ → Option Interval → Type 0
LeavesAll comparison holds i c left = (z : ℤ) → IsIn i z → compared comparison z c ≡ holds → IsLeft left z

-- the outcome is that of all numbers but one (own rule)
abbrev pub IsUnequal : Comparison → Bool → Type 0
IsUnequal NotEqual holds = holds ≡ true
IsUnequal Equal holds = holds ≡ false
IsUnequal _ holds = ⊥

-- each number that is left is one of the range and has the outcome, but for the number amid all others (own rule)
abbrev pub LeavesOnly : Comparison → Bool → Interval → ℤ → Option Interval → Type 0
LeavesOnly comparison holds i c left = (z : ℤ) → IsLeft left z → IsIn i z × ((compared comparison z c ≡ holds) ⊎ (IsUnequal comparison holds × (z ≡ c)))

-- what is left lies in each range that has all numbers of the range with the outcome, so its ends have it (own rule)
abbrev pub LeavesLeast : Comparison → Bool → Interval → ℤ → Option Interval → Type 0
LeavesLeast comparison holds i c None = Unit {0}
LeavesLeast comparison holds i c (Some left) = (s : Interval) → ((z : ℤ) → IsIn i z → compared comparison z c ≡ holds → IsIn s z) → IsWithin left s

-- what is left of one range lies in what is left of another (own rule)
abbrev pub IsLeftWithin : Option Interval → Option Interval → Type 0
IsLeftWithin None wide = Unit {0}
IsLeftWithin (Some i) None = ⊥
IsLeftWithin (Some i) (Some j) = IsWithin i j

-- of a wider range more is left (own rule)
abbrev pub GrowsNarrowed : (Interval → Option Interval) → Type 0
GrowsNarrowed f = (i wide : Interval) → IsWithin i wide → IsLeftWithin (f i) (f wide)
