-- The sets of values that types and subranges have (IEC 61131-3:2003, 2.3.1 and 2.3.3.1).
use Rattle.std.specs.Prelude.{Bool, true, false, Option, Some, None, pos}
use Rattle.il_syntax.specs.declared.tree.Elementary.{Elementary}
use Rattle.il_syntax.specs.declared.tree.Elementary.TheVariants.{Bool as BoolType}
use Rattle.il_syntax.specs.declared.tree.Scalar.{Scalar}
use Rattle.il_syntax.specs.declared.tree.Subrange.{Subrange}
use Rattle.il_syntax.specs.ElementaryTypes.{LiesIn}
use Rattle.il_statics.specs.Declarations.{declared_limits, is_within}
use Rattle.il_semantics.specs.declared.value.Value.{Value}
use Rattle.il_semantics.specs.declared.value.Value.TheVariants.{Boolean, Integer}

-- the value is a number within the limits, or a Boolean where there are none (2.3.1)
abbrev pub IsValueIn : Option Subrange → Value → Type 0
IsValueIn None (Boolean b) = Unit {0}
IsValueIn (Some s) (Integer z) = LiesIn (Some s) z
IsValueIn None (Integer z) = ⊥
IsValueIn (Some s) (Boolean b) = ⊥

-- the same as a test (2.3.1)
abbrev pub is_value_in : Option Subrange → Value → Bool
is_value_in None (Boolean b) = true
is_value_in (Some s) (Integer z) = is_within s z
is_value_in None (Integer z) = false
is_value_in (Some s) (Boolean b) = false

-- the value is one of the scalar type's: of its subrange where it has one (2.3.3.1)
abbrev pub IsOf : Scalar → Value → Type 0
IsOf s = IsValueIn (declared_limits s)

-- the same as a test (2.3.3.1)
abbrev pub is_of : Scalar → Value → Bool
is_of s = is_value_in (declared_limits s)

-- 0, FALSE and T#0s (2.4.3.2)
abbrev pub zero_of : Elementary → Value
zero_of BoolType = Boolean false
zero_of _ = Integer (pos 0)
