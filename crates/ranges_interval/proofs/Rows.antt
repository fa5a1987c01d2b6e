-- Worked ranges, by the table.
use Rattle.std.specs.Prelude.{◌≡◌, true, false, Some, None, pos, negsuc, refl}
use Rattle.il_syntax.specs.declared.tree.Comparison.TheVariants.{Greater, GreaterOrEqual, Equal, NotEqual, LessOrEqual, Less}
use Rattle.ranges_interval.specs.Compared.{interval_narrow}
use Rattle.ranges_interval.specs.Interval.{between, interval_add, interval_sub, interval_mul, interval_div, interval_mod, interval_abs, interval_min, interval_max, interval_limit, interval_join}

-- [0, 9] + [1, 1] = [1, 10]
sum : interval_add (between (pos 0) (pos 9)) (between (pos 1) (pos 1)) ≡ between (pos 1) (pos 10)
sum = refl

-- [0, 9] - [0, 9] = [-9, 9]
difference : interval_sub (between (pos 0) (pos 9)) (between (pos 0) (pos 9)) ≡ between (negsuc 8) (pos 9)
difference = refl

-- [-3, 2] * [-5, 4] = [-12, 15]
product : interval_mul (between (negsuc 2) (pos 2)) (between (negsuc 4) (pos 4)) ≡ between (negsuc 11) (pos 15)
product = refl

-- [0, 65536] * [0, 65536] goes beyond UDINT
square : interval_mul (between (pos 0) (pos 65536)) (between (pos 0) (pos 65536)) ≡ between (pos 0) (pos 4294967296)
square = refl

-- [-7, 7] / [2, 3] = [-3, 3]
quotient : interval_div (between (negsuc 6) (pos 7)) (between (pos 2) (pos 3)) ≡ between (negsuc 2) (pos 3)
quotient = refl

-- [-7, 7] / [-3, -2] = [-3, 3]
negative_quotient : interval_div (between (negsuc 6) (pos 7)) (between (negsuc 2) (negsuc 1)) ≡ between (negsuc 2) (pos 3)
negative_quotient = refl

-- INT by -1 goes beyond INT
least_quotient : interval_div (between (negsuc 32767) (pos 32767)) (between (negsuc 0) (negsuc 0)) ≡ between (negsuc 32766) (pos 32768)
least_quotient = refl

-- [1, 10] mod [10, 10] = [0, 9]
small_remainder : interval_mod (between (pos 1) (pos 10)) (between (pos 10) (pos 10)) ≡ between (pos 0) (pos 9)
small_remainder = refl

-- [-5, 20] mod [3, 4] = [-3, 3]
mixed_remainder : interval_mod (between (negsuc 4) (pos 20)) (between (pos 3) (pos 4)) ≡ between (negsuc 2) (pos 3)
mixed_remainder = refl

-- [-7, -7] mod [-2, -2] = [-1, 0]
negative_remainder : interval_mod (between (negsuc 6) (negsuc 6)) (between (negsuc 1) (negsuc 1)) ≡ between (negsuc 0) (pos 0)
negative_remainder = refl

-- the absolute values of INT reach 32768
absolute_values : interval_abs (between (negsuc 32767) (pos 32767)) ≡ between (pos 0) (pos 32768)
absolute_values = refl

-- those of [-9, -4] are [4, 9]
negative_absolute : interval_abs (between (negsuc 8) (negsuc 3)) ≡ between (pos 4) (pos 9)
negative_absolute = refl

-- MIN of [0, 9] and [-2, 5] is [-2, 5]
least : interval_min (between (pos 0) (pos 9)) (between (negsuc 1) (pos 5)) ≡ between (negsuc 1) (pos 5)
least = refl

-- MAX of them is [0, 9]
greatest : interval_max (between (pos 0) (pos 9)) (between (negsuc 1) (pos 5)) ≡ between (pos 0) (pos 9)
greatest = refl

-- LIMIT of MN 0, IN any INT and MX 9 is [0, 9]
limited_values : interval_limit (between (pos 0) (pos 0)) (between (negsuc 32767) (pos 32767)) (between (pos 9) (pos 9)) ≡ between (pos 0) (pos 9)
limited_values = refl

-- LIMIT gives MX where MN is above it
crossed_limits : interval_limit (between (pos 9) (pos 9)) (between (pos 3) (pos 4)) (between (pos 0) (pos 0)) ≡ between (pos 0) (pos 0)
crossed_limits = refl

-- [3, 3] and [10, 10] lie in [3, 10]
joined : interval_join (between (pos 3) (pos 3)) (between (pos 10) (pos 10)) ≡ between (pos 3) (pos 10)
joined = refl

-- [0, 9] < 9 leaves [0, 8], and otherwise 9
below : interval_narrow Less true (between (pos 0) (pos 9)) (pos 9) ≡ Some (between (pos 0) (pos 8))
below = refl

not_below : interval_narrow Less false (between (pos 0) (pos 9)) (pos 9) ≡ Some (between (pos 9) (pos 9))
not_below = refl

-- [0, 9] > 20 leaves nothing, and otherwise all
far_above : interval_narrow Greater true (between (pos 0) (pos 9)) (pos 20) ≡ None
far_above = refl

not_above : interval_narrow Greater false (between (pos 0) (pos 9)) (pos 20) ≡ Some (between (pos 0) (pos 9))
not_above = refl

-- [0, 9] other than 0 is [1, 9]; of [-1, 9] the 0 stays, amid the others
other_end : interval_narrow NotEqual true (between (pos 0) (pos 9)) (pos 0) ≡ Some (between (pos 1) (pos 9))
other_end = refl

other_amid : interval_narrow NotEqual true (between (negsuc 0) (pos 9)) (pos 0) ≡ Some (between (negsuc 0) (pos 9))
other_amid = refl

-- of one number, and of two, an end is lost
other_alone : interval_narrow NotEqual true (between (pos 3) (pos 3)) (pos 3) ≡ None
other_alone = refl

other_of_two : interval_narrow Equal false (between (pos 3) (pos 4)) (pos 3) ≡ Some (between (pos 4) (pos 4))
other_of_two = refl

-- EQ leaves the number where it is in the range
equal_inside : interval_narrow Equal true (between (pos 0) (pos 9)) (pos 5) ≡ Some (between (pos 5) (pos 5))
equal_inside = refl

equal_outside : interval_narrow NotEqual false (between (pos 0) (pos 9)) (negsuc 0) ≡ None
equal_outside = refl

-- the greatest UDINT is not left by `>`, nor anything after it
greatest_above : interval_narrow Greater true (between (pos 0) (pos 4294967295)) (pos 4294967295) ≡ None
greatest_above = refl

-- [-5, 5] >= -2 and <= -2
from_below : interval_narrow GreaterOrEqual true (between (negsuc 4) (pos 5)) (negsuc 1) ≡ Some (between (negsuc 1) (pos 5))
from_below = refl

up_to : interval_narrow LessOrEqual true (between (negsuc 4) (pos 5)) (negsuc 1) ≡ Some (between (negsuc 4) (negsuc 1))
up_to = refl
