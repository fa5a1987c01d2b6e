-- What the pass finds of operands and operations (own rules): none where they are refused.
use Rattle.std.specs.Prelude.{Bool, false, true, ◌&&◌, not, int_le, List, [], ◌∷◌, Option, Some, None, option_map, option_and_then, pos}
use Rattle.ranges_interval.specs.declared.Interval.{Interval}
use Rattle.ranges_interval.specs.Interval.{interval_add, interval_sub, interval_mul, interval_div, interval_mod, interval_abs, interval_min, interval_max, interval_limit, interval_join}
use Rattle.il_syntax.specs.declared.tree.Elementary.{Elementary}
use Rattle.il_syntax.specs.declared.tree.Elementary.TheVariants.{Time}
use Rattle.il_syntax.specs.declared.tree.Literal.{Literal}
use Rattle.il_syntax.specs.declared.tree.Literal.TheVariants.{Truth, Bare, Whole, Time as Duration}
use Rattle.il_syntax.specs.declared.tree.Operator.{Operator}
use Rattle.il_syntax.specs.declared.tree.Operator.TheVariants.{Logic, Arithmetic, Comparison}
use Rattle.il_syntax.specs.declared.tree.Arithmetic.{Arithmetic as ArithmeticKind}
use Rattle.il_syntax.specs.declared.tree.Arithmetic.TheVariants.{Add, Sub, Mul, Div, Mod}
use Rattle.il_syntax.specs.declared.tree.Comparison.{Comparison as ComparisonKind}
use Rattle.il_syntax.specs.declared.tree.Comparison.TheVariants.{Equal, NotEqual}
use Rattle.il_syntax.specs.ElementaryTypes.{is_same_type, is_whole}
use Rattle.il_statics.specs.declared.names.StandardFunction.{StandardFunction}
use Rattle.il_statics.specs.declared.names.StandardFunction.TheVariants.{Absolute, Minimum, Maximum, Limited, Selected, Converted}
use Rattle.base_maps.specs.NameMap.{Text}
use Rattle.il_semantics.specs.Meaning.{Denotation, Constant, Direct, Numbered, Indexed, Inside, Unknown}
use Rattle.il_semantics.specs.Step.{takes}
use Rattle.il_semantics.specs.declared.known.Known.{Known}
use Rattle.il_semantics.specs.declared.known.Known.TheVariants.{Flag, Ranged}
use Rattle.il_semantics.specs.Annotation.{interval, only, numbers_of, range, declared_known}
use Rattle.ranges_laws.specs.Facts.{Names, row_at}

-- TESTS

abbrev pub provided : {X : Type 0} → Bool → Option X → Option X
provided true o = o
provided false o = None

-- whether a range lies in another
abbrev pub is_part : Interval → Interval → Bool
is_part i j = int_le j.lo i.lo && int_le i.hi j.hi

-- whether it lies in another that is there
abbrev pub fits : Option Interval → Interval → Bool
fits None i = false
fits (Some j) i = is_part i j

-- whether a range that is there lies in another
abbrev pub there_fits : Option Interval → Interval → Bool
there_fits None j = false
there_fits (Some i) j = is_part i j

-- a range of a type, if it lies in it
abbrev pub fitting : Elementary → Interval → Option Known
fitting e i = provided (fits (numbers_of e) i) (Some (Ranged e i))

-- OPERANDS

abbrev pub found_literal : Elementary → Literal → Option Known
found_literal e (Truth b) = Some Flag
found_literal e (Bare z) = provided (is_whole e) (fitting e (only z))
found_literal e (Whole written z) = fitting written (only z)
found_literal e (Duration z) = fitting Time (only z)

abbrev pub found_flow : Elementary → Option Interval → Option Interval → Option Known
found_flow e None flow = Some Flag
found_flow e (Some declared) flow = option_map (Ranged e) flow

-- an operand, by the ranges of the variables
abbrev pub found_operand : (Text → Option Interval) → Elementary → Denotation → Option Known
found_operand at e (Constant l) = found_literal e l
found_operand at e (Direct name s) = found_flow s.elementary (range s) (at name)
found_operand at e (Numbered name bounds element z) = provided (is_part (only z) (interval bounds)) (Some (declared_known element))
found_operand at e (Indexed name bounds element variable s) =
    provided (is_whole s.elementary) (provided (there_fits (at variable) (interval bounds)) (Some (declared_known element)))
found_operand at e (Inside instance word s) = Some (declared_known s)
found_operand at e Unknown = None

-- STORES

abbrev pub fits_range : Elementary → Option Interval → Known → Bool
fits_range e None Flag = true
fits_range e (Some declared) (Ranged f i) = is_same_type f e && is_part i declared
fits_range e None (Ranged f i) = false
fits_range e (Some declared) Flag = false

abbrev pub fits_target : Names → List Interval → Denotation → Known → Bool
fits_target names row (Constant l) k = false
fits_target names row (Direct name s) k = fits_range s.elementary (range s) k
fits_target names row (Numbered name bounds element z) k = is_part (only z) (interval bounds) && fits_range element.elementary (range element) k
fits_target names row (Indexed name bounds element variable s) k =
    is_whole s.elementary && (there_fits (row_at names row variable) (interval bounds) && fits_range element.elementary (range element) k)
fits_target names row (Inside instance word s) k = fits_range s.elementary (range s) k
fits_target names row Unknown k = false

-- OPERATIONS

-- the range of an operation, unless a divisor may be 0
abbrev pub combined : ArithmeticKind → Interval → Interval → Option Interval
combined Add i j = Some (interval_add i j)
combined Sub i j = Some (interval_sub i j)
combined Mul i j = Some (interval_mul i j)
combined Div i j = provided (not (is_part (only (pos 0)) j)) (Some (interval_div i j))
combined Mod i j = provided (not (is_part (only (pos 0)) j)) (Some (interval_mod i j))

abbrev pub compares_flags : ComparisonKind → Bool
compares_flags Equal = true
compares_flags NotEqual = true
compares_flags _ = false

abbrev pub found_operated : Operator → Known → Known → Option Known
found_operated (Logic kind negated) Flag Flag = Some Flag
found_operated (Logic kind negated) _ _ = None
found_operated (Arithmetic kind) (Ranged e i) (Ranged f j) = provided (takes kind e) (provided (is_same_type e f) (option_and_then (fitting e) (combined kind i j)))
found_operated (Arithmetic kind) _ _ = None
found_operated (Comparison kind) (Ranged e i) (Ranged f j) = provided (is_same_type e f) (Some Flag)
found_operated (Comparison kind) Flag Flag = provided (compares_flags kind) (Some Flag)
found_operated (Comparison kind) _ _ = None

abbrev pub found_loaded : Bool → Known → Option Known
found_loaded false k = Some k
found_loaded true Flag = Some Flag
found_loaded true (Ranged e i) = None

-- STANDARD FUNCTIONS

abbrev pub found_selected : Known → Known → Option Known
found_selected Flag Flag = Some Flag
found_selected (Ranged e i) (Ranged f j) = provided (is_same_type e f) (fitting e (interval_join i j))
found_selected _ _ = None

abbrev pub found_applied : StandardFunction → Known → List Known → Option Known
found_applied Absolute (Ranged e i) [] = provided (is_whole e) (fitting e (interval_abs i))
found_applied Minimum (Ranged e i) (Ranged f j ∷ []) = provided (is_same_type e f) (fitting e (interval_min i j))
found_applied Maximum (Ranged e i) (Ranged f j ∷ []) = provided (is_same_type e f) (fitting e (interval_max i j))
found_applied Limited (Ranged e i) (Ranged f j ∷ Ranged g k ∷ []) = provided (is_same_type e f) (provided (is_same_type e g) (fitting e (interval_limit i j k)))
found_applied Selected Flag (in0 ∷ in1 ∷ []) = found_selected in0 in1
found_applied (Converted from to) (Ranged e i) [] = provided (is_same_type e from) (provided (fits (numbers_of to) i) (Some (Ranged to i)))
found_applied _ _ _ = None
