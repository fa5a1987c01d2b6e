-- What operands mean, with the numbers of variables (own rules).
use Rattle.std.specs.Prelude.{ℕ, Bool, true, false, ◌&&◌, List, Option, Some, None}
use Rattle.ranges_interval.specs.declared.Interval.{Interval}
use Rattle.il_syntax.specs.declared.tree.Elementary.{Elementary}
use Rattle.il_syntax.specs.declared.tree.Elementary.TheVariants.{Int}
use Rattle.il_syntax.specs.declared.tree.Scalar.{Scalar}
use Rattle.il_syntax.specs.declared.tree.Subrange.{Subrange}
use Rattle.il_syntax.specs.ElementaryTypes.{is_whole}
use Rattle.il_statics.specs.Types.{literal_type}
use Rattle.base_maps.specs.NameMap.{get}
use Rattle.il_semantics.specs.Meaning.{or_dint, Denotation, Constant, Direct, Numbered as NumberedElement, Indexed as IndexedElement, Inside as InsideInstance, Unknown as Undeclared}
use Rattle.il_semantics.specs.declared.known.Known.{Known}
use Rattle.il_semantics.specs.declared.known.Known.TheVariants.{Flag, Ranged}
use Rattle.il_semantics.specs.Annotation.{interval, only, range, declared_known}
use Rattle.ranges_laws.specs.Facts.{Names, range_by, put_by}
use Rattle.ranges_laws.specs.Found.{provided, is_part, there_fits, found_literal, found_flow, fits_range}
use Rattle.ranges_transfer.specs.declared.meant.Meant.{Meant}
use Rattle.ranges_transfer.specs.declared.meant.Meant.TheVariants.{Literal, Variable, Numbered, Indexed, Inside, Unknown}

-- what is denoted, with the numbers of variables
abbrev pub resolved : Names → Denotation → Meant
resolved names (Constant l) = Literal l
resolved names (Direct name s) = Variable s (get names.numbers name)
resolved names (NumberedElement name bounds element z) = Numbered bounds element z
resolved names (IndexedElement name bounds element variable s) = Indexed bounds element s (get names.numbers variable)
resolved names (InsideInstance instance word s) = Inside s
resolved names Undeclared = Unknown

-- the range of a variable: that of its number, or its declared one
abbrev pub range_in : List Interval → Scalar → Option ℕ → Option Interval
range_in row s number = range_by (range s) row number

-- whether an index lies in its array for all of its values
abbrev pub index_fits : List Interval → Scalar → Option ℕ → Subrange → Bool
index_fits row s number bounds = there_fits (range_in row s number) (interval bounds)

-- what is known of an operand
abbrev pub operand_in : List Interval → Elementary → Meant → Option Known
operand_in row e (Literal l) = found_literal e l
operand_in row e (Variable s number) = found_flow s.elementary (range s) (range_in row s number)
operand_in row e (Numbered bounds element z) = provided (is_part (only z) (interval bounds)) (Some (declared_known element))
operand_in row e (Indexed bounds element s number) = provided (is_whole s.elementary) (provided (index_fits row s number bounds) (Some (declared_known element)))
operand_in row e (Inside s) = Some (declared_known s)
operand_in row e Unknown = None

-- what is known of an operand whose index lies in its array
abbrev pub operand_inside_in : List Interval → Elementary → Meant → Option Known
operand_inside_in row e (Numbered bounds element z) = Some (declared_known element)
operand_inside_in row e (Indexed bounds element s number) = Some (declared_known element)
operand_inside_in row e (Literal l) = operand_in row e (Literal l)
operand_inside_in row e (Variable s number) = operand_in row e (Variable s number)
operand_inside_in row e (Inside s) = operand_in row e (Inside s)
operand_inside_in row e Unknown = operand_in row e Unknown

-- the type of a bare literal where none is given
abbrev pub natural_of : Meant → Elementary
natural_of (Literal l) = or_dint (literal_type l)
natural_of _ = Int

abbrev pub context_of : Meant → Known → Elementary
context_of m Flag = natural_of m
context_of m (Ranged e i) = e

-- whether a target takes all such values
abbrev pub target_fits : List Interval → Meant → Known → Bool
target_fits row (Literal l) k = false
target_fits row (Variable s number) k = fits_range s.elementary (range s) k
target_fits row (Numbered bounds element z) k = is_part (only z) (interval bounds) && fits_range element.elementary (range element) k
target_fits row (Indexed bounds element s number) k = is_whole s.elementary && (index_fits row s number bounds && fits_range element.elementary (range element) k)
target_fits row (Inside s) k = fits_range s.elementary (range s) k
target_fits row Unknown k = false

-- the row after a store
abbrev pub stored_in : Meant → Known → List Interval → List Interval
stored_in (Variable s number) (Ranged e i) row = put_by row number i
stored_in _ _ row = row

-- whether an index lies in its array for all of its values
abbrev pub is_inside_in : List Interval → Meant → Bool
is_inside_in row (Numbered bounds element z) = is_part (only z) (interval bounds)
is_inside_in row (Indexed bounds element s number) = index_fits row s number bounds
is_inside_in row _ = true
