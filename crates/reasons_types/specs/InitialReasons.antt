-- What is reported of initial values (own rules).
use Rattle.std.specs.Prelude.{ℕ, ◌==◌, if◌then◌else◌, List, [], ◌++◌, flat_map, Option, Some, None, codes}
use Rattle.il_syntax.specs.declared.tree.Config.{Config}
use Rattle.il_syntax.specs.declared.tree.Declaration.{Declaration}
use Rattle.il_syntax.specs.declared.tree.Form.{Form}
use Rattle.il_syntax.specs.declared.tree.Form.TheVariants.{Scalar as OfScalar, Array as OfArray, Block as OfBlock}
use Rattle.il_syntax.specs.declared.tree.Initial.{Initial}
use Rattle.il_syntax.specs.declared.tree.Named.{Named}
use Rattle.il_syntax.specs.declared.tree.Unit.{Unit as ProgramUnit}
use Rattle.reasons_types.specs.TypeWords.{type_line, literal_line}

-- `V is BOOL`, `V is an array`, `V is an instance`, of a declared name (2.4.3)
abbrev pub declared_line : Form → Named → List ℕ
declared_line (OfScalar scalar) n = type_line n.name (Some scalar.elementary)
declared_line (OfArray bounds element) n = n.name ++ codes " is an array\n"
declared_line (OfBlock block) n = n.name ++ codes " is an instance\n"

-- the names of a declaration, and its initial value, where that follows so many bytes (2.4.3.2)
abbrev pub initial_lines : ℕ → Declaration → Option Initial → List ℕ
initial_lines offset d None = []
initial_lines offset d (Some initial) = if initial.place.offset == offset then flat_map (declared_line d.declared.form) d.names ++ literal_line initial.literal else []

-- of a declaration
abbrev pub declaration_lines : ℕ → Declaration → List ℕ
declaration_lines offset d = initial_lines offset d d.initial

-- of declarations
abbrev pub declarations_lines : ℕ → List Declaration → List ℕ
declarations_lines offset ds = flat_map (declaration_lines offset) ds

-- of a unit
abbrev pub unit_initials : ℕ → ProgramUnit → List ℕ
unit_initials offset unit =
    declarations_lines offset unit.inputs ++ (declarations_lines offset unit.outputs ++ (declarations_lines offset unit.variables ++ declarations_lines offset unit.externals))

-- of a configuration
abbrev pub initials_lines : Config → ℕ → List ℕ
initials_lines c offset = flat_map (unit_initials offset) c.units ++ declarations_lines offset c.globals
