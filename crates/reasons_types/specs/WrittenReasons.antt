-- What is reported of a written type that is not what its place asks for (own rules).
use Rattle.std.specs.Prelude.{ℕ, ◌==◌, not, ◌&&◌, bytes_eq, if◌then◌else◌, List, [], ◌++◌, flat_map, is_some, codes, decimal}
use Rattle.il_syntax.specs.declared.tree.Config.{Config}
use Rattle.il_syntax.specs.declared.tree.Declaration.{Declaration}
use Rattle.il_syntax.specs.declared.tree.Form.{Form}
use Rattle.il_syntax.specs.declared.tree.Form.TheVariants.{Scalar as OfScalar, Array as OfArray, Block as OfBlock}
use Rattle.il_syntax.specs.declared.tree.Named.{Named}
use Rattle.il_syntax.specs.declared.tree.Scalar.{Scalar}
use Rattle.il_syntax.specs.declared.tree.Unit.{Unit as ProgramUnit}
use Rattle.il_syntax.specs.declared.tree.UnitKind.{UnitKind}
use Rattle.il_syntax.specs.declared.tree.UnitKind.TheVariants.{Function, FunctionBlock, Program}
use Rattle.il_syntax.specs.ElementaryTypes.{is_whole}
use Rattle.il_statics.specs.Names.{Spelling}
use Rattle.reasons_types.specs.declared.types_written.Wanted.{Wanted}
use Rattle.reasons_types.specs.declared.types_written.Wanted.TheVariants.{Scalars, ScalarsAndArrays, AllForms}
use Rattle.reasons_types.specs.RangeWords.{limits_text, within_text}
use Rattle.reasons_types.specs.TypeWords.{type_word}

-- `INT`, `INT (0..5)`, as it is written (2.3.3)
abbrev pub written_scalar : Scalar → List ℕ
written_scalar scalar = type_word scalar.elementary ++ within_text scalar.subrange

-- `INT (0..5)`, `ARRAY [1..4] OF INT`, `an instance of TON` (2.4.3)
abbrev pub form_text : Form → List ℕ
form_text (OfScalar scalar) = written_scalar scalar
form_text (OfArray bounds element) = codes "ARRAY [" ++ (limits_text bounds ++ (codes "] OF " ++ written_scalar element))
form_text (OfBlock block) = codes "an instance of " ++ block

-- `V is INT (0..5)`, of a declared name
abbrev pub form_words : Form → Named → List ℕ
form_words form n = n.name ++ (codes " is " ++ form_text form)

-- the same as a line
abbrev pub form_line : Form → Named → List ℕ
form_line form n = form_words form n ++ codes "\n"

-- `BOOL has no subranges`, where one is written (2.3.3.1)
abbrev pub subrange_line : Scalar → List ℕ
subrange_line scalar = if is_some scalar.subrange && not (is_whole scalar.elementary) then type_word scalar.elementary ++ codes " has no subranges\n" else []

-- the same of the elements of an array
abbrev pub form_subrange_line : Form → List ℕ
form_subrange_line (OfScalar scalar) = subrange_line scalar
form_subrange_line (OfArray bounds element) = subrange_line element
form_subrange_line (OfBlock block) = []

-- where an array is not wanted
abbrev pub array_line : Wanted → List ℕ
array_line Scalars = codes "only a scalar is allowed there\n"
array_line ScalarsAndArrays = []
array_line AllForms = []

-- where an instance is not wanted
abbrev pub instance_line : Wanted → List ℕ
instance_line Scalars = codes "only a scalar is allowed there\n"
instance_line ScalarsAndArrays = codes "only a scalar or an array is allowed there\n"
instance_line AllForms = []

-- what is wanted in place of a type
abbrev pub wanted_line : Wanted → Form → List ℕ
wanted_line wanted (OfScalar scalar) = []
wanted_line wanted (OfArray bounds element) = array_line wanted
wanted_line wanted (OfBlock block) = instance_line wanted

-- the names of a declaration with their type, and what is wanted, where the type follows so many bytes
abbrev pub written_lines : Wanted → ℕ → Declaration → List ℕ
written_lines wanted offset d =
    if d.declared.place.offset == offset then flat_map (form_line d.declared.form) d.names ++ (wanted_line wanted d.declared.form ++ form_subrange_line d.declared.form) else []

-- `the global V is BOOL in line 12`, of a global with this name (2.4.3)
abbrev pub global_line : Spelling → Form → Named → List ℕ
global_line name form n =
    if bytes_eq n.name name then codes "the global " ++ (form_words form n ++ (codes " in line " ++ (decimal n.place.line ++ codes "\n"))) else []

-- of the globals of a declaration
abbrev pub global_lines : Spelling → Declaration → List ℕ
global_lines name d = flat_map (global_line name d.declared.form) d.names

-- of the globals of an external
abbrev pub globals_lines : List Declaration → Named → List ℕ
globals_lines globals n = flat_map (global_lines n.name) globals

-- of an external whose type follows so many bytes
abbrev pub external_lines : List Declaration → ℕ → Declaration → List ℕ
external_lines globals offset d =
    written_lines ScalarsAndArrays offset d ++ (if d.declared.place.offset == offset then flat_map (globals_lines globals) d.names else [])

-- the type of a function's result (2.5.1.3)
abbrev pub result_lines : ℕ → UnitKind → Named → List ℕ
result_lines offset (Function scalar place) n = if place.offset == offset then form_line (OfScalar scalar) n ++ subrange_line scalar else []
result_lines offset FunctionBlock n = []
result_lines offset Program n = []

-- what the variables of a unit may be
abbrev pub wanted_variables : UnitKind → Wanted
wanted_variables (Function scalar place) = Scalars
wanted_variables FunctionBlock = AllForms
wanted_variables Program = AllForms

-- of a unit
abbrev pub unit_written : List Declaration → ℕ → ProgramUnit → List ℕ
unit_written globals offset unit =
    result_lines offset unit.kind unit.name
    ++ (flat_map (written_lines Scalars offset) unit.inputs
    ++ (flat_map (written_lines Scalars offset) unit.outputs
    ++ (flat_map (written_lines (wanted_variables unit.kind) offset) unit.variables ++ flat_map (external_lines globals offset) unit.externals)))

-- of the written type that follows so many bytes
abbrev pub misplaced_lines : Config → ℕ → List ℕ
misplaced_lines c offset = flat_map (unit_written c.globals offset) c.units ++ flat_map (written_lines ScalarsAndArrays offset) c.globals
