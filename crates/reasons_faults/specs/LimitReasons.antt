-- What is reported of subranges and bounds that are none (22), and of what is too many (12) (own rules).
use Rattle.std.specs.Prelude.{ℕ, pos, ◌-ℤ◌, int_lt, ◌==◌, ◌&&◌, if◌then◌else◌, List, [], ◌++◌, flat_map, Option, Some, None, codes}
use Rattle.std.specs.Fmt.{signed_decimal}
use Rattle.il_syntax.specs.declared.tree.Config.{Config}
use Rattle.il_syntax.specs.declared.tree.Declaration.{Declaration}
use Rattle.il_syntax.specs.declared.tree.Elementary.{Elementary}
use Rattle.il_syntax.specs.declared.tree.Elementary.TheVariants.{Int}
use Rattle.il_syntax.specs.declared.tree.Form.{Form}
use Rattle.il_syntax.specs.declared.tree.Form.TheVariants.{Scalar as OfScalar, Array as OfArray, Block as OfBlock}
use Rattle.il_syntax.specs.declared.tree.Scalar.{Scalar}
use Rattle.il_syntax.specs.declared.tree.Subrange.{Subrange}
use Rattle.il_syntax.specs.declared.tree.Unit.{Unit as ProgramUnit}
use Rattle.il_syntax.specs.declared.tree.UnitKind.{UnitKind}
use Rattle.il_syntax.specs.declared.tree.UnitKind.TheVariants.{Function, FunctionBlock, Program}
use Rattle.il_syntax.specs.ElementaryTypes.{limits}
use Rattle.il_statics.specs.Declarations.{has_value}
use Rattle.reasons_types.specs.RangeWords.{limits_text}
use Rattle.reasons_types.specs.TypeWords.{type_word}

-- 22: LIMITS

-- `5 is above 4`
unfoldable pub above_line : Subrange → List ℕ
above_line s = signed_decimal s.lower ++ (codes " is above " ++ (signed_decimal s.upper ++ codes "\n"))

-- `SINT is -128..127`
abbrev pub base_by : Elementary → Option Subrange → List ℕ
base_by elementary None = []
base_by elementary (Some s) = type_word elementary ++ (codes " is " ++ (limits_text s ++ codes "\n"))

abbrev pub base_line : Elementary → List ℕ
base_line elementary = base_by elementary (limits elementary)

-- of a subrange that is empty, or beyond its base
abbrev pub subrange_by : Elementary → Subrange → List ℕ
subrange_by elementary s =
    if int_lt s.upper s.lower then above_line s
    else if has_value elementary s.lower && has_value elementary s.upper then [] else base_line elementary

abbrev pub subrange_of : Elementary → Option Subrange → List ℕ
subrange_of elementary None = []
subrange_of elementary (Some s) = subrange_by elementary s

abbrev pub subrange_lines : Scalar → List ℕ
subrange_lines scalar = subrange_of scalar.elementary scalar.subrange

unfoldable pub outside_line : List ℕ
outside_line = codes "the bounds of an array are -32768..32767\n"

unfoldable pub long_line : List ℕ
long_line = codes "an array has at most 256 elements\n"

abbrev pub long_lines : Subrange → List ℕ
long_lines s = if int_lt (s.upper -ℤ s.lower) (pos 256) then [] else long_line

-- of bounds that are empty, beyond INT or too many
abbrev pub bounds_lines : Subrange → List ℕ
bounds_lines s =
    if int_lt s.upper s.lower then above_line s
    else if has_value Int s.lower && has_value Int s.upper then long_lines s else outside_line

abbrev pub form_lines : Form → List ℕ
form_lines (OfScalar scalar) = subrange_lines scalar
form_lines (OfArray bounds element) = bounds_lines bounds ++ subrange_lines element
form_lines (OfBlock block) = []

-- of the types at a place
abbrev pub declared_lines : ℕ → Declaration → List ℕ
declared_lines offset d = if d.declared.place.offset == offset then form_lines d.declared.form else []

abbrev pub result_lines : ℕ → UnitKind → List ℕ
result_lines offset (Function scalar place) = if place.offset == offset then subrange_lines scalar else []
result_lines offset FunctionBlock = []
result_lines offset Program = []

abbrev pub unit_lines : ℕ → ProgramUnit → List ℕ
unit_lines offset unit =
    result_lines offset unit.kind
    ++ (flat_map (declared_lines offset) unit.inputs
    ++ (flat_map (declared_lines offset) unit.outputs
    ++ (flat_map (declared_lines offset) unit.variables ++ flat_map (declared_lines offset) unit.externals)))

abbrev pub limit_lines : Config → ℕ → List ℕ
limit_lines c offset = flat_map (unit_lines offset) c.units ++ flat_map (declared_lines offset) c.globals

-- 12: TOO MANY

-- of a task or of globals
unfoldable pub slots_line : List ℕ
slots_line = codes "a task has at most 4096 slots, and so have the globals\n"

-- of a text that spells no configuration
unfoldable pub size_line : List ℕ
size_line = codes "a unit has at most 4096 instructions, and a text at most 64 units\n"
