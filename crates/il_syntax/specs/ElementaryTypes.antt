-- The elementary types of the profile and their values (IEC 61131-3:2003, 2.3.1).
use Rattle.std.specs.Prelude.{ℕ, Bool, true, false, ◌==◌, ℤ, pos, negsuc, ◌≤ℤ◌, Option, Some, None}
use Rattle.il_syntax.specs.declared.tree.Elementary.{Elementary}
use Rattle.il_syntax.specs.declared.tree.Elementary.TheVariants.{Bool as Boolean, Sint, Int, Dint, Usint, Uint, Udint, Time}
use Rattle.il_syntax.specs.declared.tree.Scalar.{Scalar}
use Rattle.il_syntax.specs.declared.tree.Subrange.{Subrange}

-- the least and the greatest number of a type; BOOL has none (2.3.1; of TIME, in milliseconds, own rule)
abbrev pub limits : Elementary → Option Subrange
limits Boolean = None
limits Sint = Some (record { lower = negsuc 127; upper = pos 127 })
limits Int = Some (record { lower = negsuc 32767; upper = pos 32767 })
limits Dint = Some (record { lower = negsuc 2147483647; upper = pos 2147483647 })
limits Usint = Some (record { lower = pos 0; upper = pos 255 })
limits Uint = Some (record { lower = pos 0; upper = pos 65535 })
limits Udint = Some (record { lower = pos 0; upper = pos 4294967295 })
limits Time = Some (record { lower = pos 0; upper = pos 2147483647 })

-- the number lies within the limits (2.3.3.1)
abbrev pub LiesIn : Option Subrange → ℤ → Type 0
LiesIn None value = ⊥
LiesIn (Some s) value = (s.lower ≤ℤ value) × (value ≤ℤ s.upper)

-- the number is one of the type's values (2.3.1)
abbrev pub IsValueOf : Elementary → ℤ → Type 0
IsValueOf elementary value = LiesIn (limits elementary) value

-- the number of an elementary type in the order of its declaration, by which two are compared (own rule)
abbrev pub rank_of : Elementary → ℕ
rank_of Boolean = 0
rank_of Sint = 1
rank_of Int = 2
rank_of Dint = 3
rank_of Usint = 4
rank_of Uint = 5
rank_of Udint = 6
rank_of Time = 7

-- whether two elementary types are one (2.3.1)
abbrev pub is_same_type : Elementary → Elementary → Bool
is_same_type a b = rank_of a == rank_of b

-- whether a type is one of the six whole ones (2.3.1)
abbrev pub is_whole : Elementary → Bool
is_whole Boolean = false
is_whole Time = false
is_whole _ = true

-- whether a type's values are numbers: the integer types and TIME (2.3.1)
abbrev pub is_counted : Elementary → Bool
is_counted Boolean = false
is_counted _ = true

-- an elementary type without a subrange (2.3.1)
abbrev pub plain : Elementary → Scalar
plain elementary = record { elementary = elementary; subrange = None }
