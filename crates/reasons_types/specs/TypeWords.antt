-- What is written of types and literals (own rules).
use Rattle.std.specs.Prelude.{ℕ, ℤ, Bool, true, false, ◌&&◌, ◌||◌, if◌then◌else◌, List, [], ◌++◌, Option, Some, None, codes}
use Rattle.std.specs.Fmt.{signed_decimal}
use Rattle.il_syntax.specs.declared.tree.Elementary.{Elementary}
use Rattle.il_syntax.specs.declared.tree.Elementary.TheVariants.{Bool as Boolean, Sint, Int, Dint, Usint, Uint, Udint, Time}
use Rattle.il_syntax.specs.declared.tree.Literal.{Literal}
use Rattle.il_syntax.specs.declared.tree.Literal.TheVariants.{Truth, Bare, Whole, Time as Duration}
use Rattle.il_statics.specs.Declarations.{has_value}

-- the word of a type (2.3.1)
abbrev pub type_word : Elementary → List ℕ
type_word Boolean = codes "BOOL"
type_word Sint = codes "SINT"
type_word Int = codes "INT"
type_word Dint = codes "DINT"
type_word Usint = codes "USINT"
type_word Uint = codes "UINT"
type_word Udint = codes "UDINT"
type_word Time = codes "TIME"

-- the word of a truth value (2.2.1)
abbrev pub truth_word : Bool → List ℕ
truth_word true = codes "TRUE"
truth_word false = codes "FALSE"

-- ` is INT`, and the end of the line
abbrev pub is_text : Elementary → List ℕ
is_text found = codes " is " ++ (type_word found ++ codes "\n")

-- `V is INT`, where there is a type
abbrev pub type_line : List ℕ → Option Elementary → List ℕ
type_line shown None = []
type_line shown (Some found) = shown ++ is_text found

-- ` INT`, where the type has a number
abbrev pub fit_text : ℤ → Elementary → List ℕ
fit_text n elementary = if has_value elementary n then codes " " ++ type_word elementary else []

-- the integer types that have a number, in the order of the standard (2.3.1)
abbrev pub fits_text : ℤ → List ℕ
fits_text n = fit_text n Sint ++ (fit_text n Int ++ (fit_text n Dint ++ (fit_text n Usint ++ (fit_text n Uint ++ fit_text n Udint))))

-- whether all integer types have a number
abbrev pub fits_all : ℤ → Bool
fits_all n = has_value Sint n && has_value Usint n

-- whether an integer type has a number: DINT or UDINT then
abbrev pub fits_one : ℤ → Bool
fits_one n = has_value Dint n || has_value Udint n

-- of a number that some integer types have and some don't, those that have it, as `; it fits DINT UDINT`
unfoldable pub fitting_text : ℤ → List ℕ
fitting_text n = if fits_all n then [] else (if fits_one n then codes "; it fits" ++ fits_text n else codes "; it fits no integer type")

-- `40000 is a bare number; it fits DINT UINT UDINT`
abbrev pub bare_line : ℤ → List ℕ
bare_line n = signed_decimal n ++ (codes " is a bare number" ++ (fitting_text n ++ codes "\n"))

-- `5 is a bare number`, `INT#5 is INT`; a TIME is in milliseconds
abbrev pub literal_line : Literal → List ℕ
literal_line (Truth value) = truth_word value ++ is_text Boolean
literal_line (Bare n) = bare_line n
literal_line (Whole written n) = type_word written ++ (codes "#" ++ (signed_decimal n ++ is_text written))
literal_line (Duration n) = codes "T#" ++ (signed_decimal n ++ (codes "ms" ++ is_text Time))
