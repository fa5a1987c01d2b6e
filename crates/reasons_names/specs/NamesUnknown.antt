-- What is reported of a name that is unknown where it is (own rules).
use Rattle.std.specs.Prelude.{ℕ, nat_eq, Bool, ◌||◌, if◌then◌else◌, List, [], ◌++◌, flat_map, Option, Some, None, is_some, codes}
use Rattle.std.specs.List.{starts_with, ends_with}
use Rattle.il_syntax.specs.declared.tree.Config.{Config}
use Rattle.il_syntax.specs.declared.tree.Unit.{Unit as ProgramUnit}
use Rattle.il_syntax.specs.declared.tree.UnitKind.{UnitKind}
use Rattle.il_syntax.specs.declared.tree.UnitKind.TheVariants.{Function, FunctionBlock, Program}
use Rattle.il_syntax.specs.declared.tree.Declaration.{Declaration}
use Rattle.il_syntax.specs.declared.tree.Named.{Named}
use Rattle.il_syntax.specs.declared.tree.Place.{Place}
use Rattle.il_syntax.specs.declared.tree.Form.{Form}
use Rattle.il_syntax.specs.declared.tree.Form.TheVariants.{Scalar as OfScalar, Array as OfArray, Block as OfBlock}
use Rattle.il_syntax.specs.declared.tree.Index.{Index}
use Rattle.il_syntax.specs.declared.tree.Index.TheVariants.{Number as NumberIndex, Variable as VariableIndex}
use Rattle.il_syntax.specs.declared.tree.Reference.{Reference}
use Rattle.il_syntax.specs.declared.tree.Reference.TheVariants.{Literal as OfLiteral, Variable as OfVariable, Element as OfElement, Member as OfMember}
use Rattle.il_syntax.specs.declared.tree.Operand.{Operand}
use Rattle.il_syntax.specs.declared.tree.Argument.{Argument}
use Rattle.il_syntax.specs.declared.tree.Argument.TheVariants.{Input, Output}
use Rattle.il_syntax.specs.declared.tree.Instruction.{Instruction}
use Rattle.il_syntax.specs.declared.tree.Instruction.TheVariants.{Load, Store as StoreInto, Not, Operate, Defer, Evaluate, Jump, Return, Call, Invoke}
use Rattle.il_statics.specs.Names.{Spelling, Meaning, MeansVariable, MeansUnit, MeansStandard, meaning, block_variables, is_predeclared, standard_function, function_named}
use Rattle.il_statics.specs.Declarations.{global_form, is_visible}
use Rattle.il_statics.specs.Declarations as rule
use Rattle.il_statics.specs.Types.{instance_block}
use Rattle.load_scope.specs.declared.entry.Binding.{Binding}
use Rattle.load_scope.specs.declared.entry.Binding.TheVariants as binding
use Rattle.load_scope.specs.declared.entry.VariableType.{VariableType}
use Rattle.load_scope.specs.declared.entry.VariableType.TheVariants as type
use Rattle.reasons_names.specs.declared.names_meant.Meant.{Meant}
use Rattle.reasons_names.specs.declared.names_meant.Meant.TheVariants.{Nothing, SingleVariable, ArrayVariable, Instance, OwnUnit, Standard}
use Rattle.reasons_names.specs.declared.names_meant.Access.{Access}
use Rattle.reasons_names.specs.declared.names_meant.Access.TheVariants.{Reads, Stores}
use Rattle.reasons_names.specs.NameSpots.{is_at}
use Rattle.reasons_names.specs.NamesNear.{Known, Nearest, nearest, ending}
use Rattle.reasons_names.specs.NamesKnown.{variables_near, instances_near, globals_near, functions_near, types_near}

-- WHAT A NAME MEANS

-- by the type of a variable
abbrev pub meant_by_form : Form → Meant
meant_by_form (OfScalar scalar) = SingleVariable
meant_by_form (OfArray bounds element) = ArrayVariable
meant_by_form (OfBlock name) = Instance

-- by what a name means
abbrev pub meant_by : Option Meaning → Meant
meant_by (Some (MeansVariable v)) = meant_by_form v.form
meant_by (Some (MeansUnit unit)) = OwnUnit
meant_by (Some MeansStandard) = Standard
meant_by None = Nothing

-- in a unit
abbrev pub meant : Config → ProgramUnit → Spelling → Meant
meant config unit name = meant_by (meaning config unit name)

-- the same of what the code has
abbrev pub type_meant : VariableType → Meant
type_meant (type.Scalar scalar) = SingleVariable
type_meant (type.Array bounds element) = ArrayVariable
type_meant (type.Instance block) = Instance

abbrev pub binding_meant : Option Binding → Meant
binding_meant (Some (binding.Variable v)) = type_meant v.declared
binding_meant (Some binding.Unit) = OwnUnit
binding_meant (Some binding.Standard) = Standard
binding_meant None = Nothing

-- LINES

-- `NAME is unknown here`, and a name that is near
unfoldable pub unknown_line : Spelling → Option Nearest → List ℕ
unknown_line name near = name ++ (codes " is unknown here" ++ ending near)

-- `NAME is a predeclared name that this unit does not see`
unfoldable pub unseen_line : Spelling → List ℕ
unseen_line name = name ++ codes " is a predeclared name that this unit does not see\n"

-- `programs alone see it ..`
unfoldable pub programs_line : List ℕ
programs_line = codes "programs alone see it: hand it in as an input, and store it in the program\n"

-- of a unit that is no program (2.5)
abbrev pub programs_by : UnitKind → List ℕ
programs_by (Function result written) = programs_line
programs_by FunctionBlock = programs_line
programs_by Program = []

-- a predeclared name that a unit does not see
abbrev pub unseen_text : ProgramUnit → Spelling → List ℕ
unseen_text unit name = unseen_line name ++ programs_by unit.kind

-- `NAME is no function`, and a name that is near
unfoldable pub no_function_line : Spelling → Option Nearest → List ℕ
no_function_line name near = name ++ (codes " is no function" ++ ending near)

-- a conversion from TIME or to it (2.5.1.5.1)
unfoldable pub is_of_time : Spelling → Bool
is_of_time name = starts_with nat_eq name (codes "TIME_TO_") || ends_with nat_eq name (codes "_TO_TIME")

-- `TIME has no conversions ..`
unfoldable pub time_line : List ℕ
time_line = codes "TIME has no conversions: compare it with a duration, as in GT T#3s\n"

abbrev pub time_lines : Spelling → List ℕ
time_lines name = if is_of_time name then time_line else []

-- `NAME is an instance, no scalar variable`
unfoldable pub instance_line : Spelling → List ℕ
instance_line name = name ++ codes " is an instance, no scalar variable\n"

-- `NAME is a unit, no variable`
unfoldable pub unit_line : Spelling → List ℕ
unit_line name = name ++ codes " is a unit, no variable\n"

-- `NAME is a standard function or block, no variable`
unfoldable pub standard_line : Spelling → List ℕ
standard_line name = name ++ codes " is a standard function or block, no variable\n"

-- `NAME is no instance of a function block`
unfoldable pub no_instance_line : Spelling → List ℕ
no_instance_line name = name ++ codes " is no instance of a function block\n"

-- what a word after an instance isn't
abbrev pub no_word : Access → List ℕ
no_word Reads = codes " has no output "
no_word Stores = codes " has no input "

-- `NAME has no output WORD`
unfoldable pub no_word_line : Access → Spelling → Spelling → List ℕ
no_word_line access name word = name ++ (no_word access ++ (word ++ codes "\n"))

-- a name among those that could have been meant
abbrev pub unknown_text : Spelling → List Known → List ℕ
unknown_text name known = unknown_line name (nearest name known)

-- NAMES IN INSTRUCTIONS

-- a name that means nothing in a unit: of the image where it is predeclared, since standard functions and blocks mean something everywhere
abbrev pub unknown_variable : Config → ProgramUnit → Spelling → List ℕ
unknown_variable config unit name = if is_predeclared config name then unseen_text unit name else unknown_text name (variables_near config unit)

-- a name that means nothing where an instance is: only instances could have been meant
abbrev pub unknown_instance : Config → ProgramUnit → Spelling → List ℕ
unknown_instance config unit name = if is_predeclared config name then unseen_line name else unknown_text name (instances_near unit)

-- where a scalar variable is: no instance, and nothing but a variable
abbrev pub scalar_by : Config → ProgramUnit → Spelling → Meant → List ℕ
scalar_by config unit name Nothing = unknown_variable config unit name
scalar_by config unit name SingleVariable = []
scalar_by config unit name ArrayVariable = []
scalar_by config unit name Instance = instance_line name
scalar_by config unit name OwnUnit = unit_line name
scalar_by config unit name Standard = standard_line name

abbrev pub scalar_text : Config → ProgramUnit → Spelling → List ℕ
scalar_text config unit name = scalar_by config unit name (meant config unit name)

-- before an index: a name that means nothing
abbrev pub meaning_by : Config → ProgramUnit → Spelling → Meant → List ℕ
meaning_by config unit name Nothing = unknown_variable config unit name
meaning_by config unit name SingleVariable = []
meaning_by config unit name ArrayVariable = []
meaning_by config unit name Instance = []
meaning_by config unit name OwnUnit = []
meaning_by config unit name Standard = []

abbrev pub meaning_text : Config → ProgramUnit → Spelling → List ℕ
meaning_text config unit name = meaning_by config unit name (meant config unit name)

-- after CAL: a name that means nothing
abbrev pub called_by : Config → ProgramUnit → Spelling → Meant → List ℕ
called_by config unit name Nothing = unknown_instance config unit name
called_by config unit name SingleVariable = []
called_by config unit name ArrayVariable = []
called_by config unit name Instance = []
called_by config unit name OwnUnit = []
called_by config unit name Standard = []

abbrev pub called_text : Config → ProgramUnit → Spelling → List ℕ
called_text config unit name = called_by config unit name (meant config unit name)

-- an index (2.4.1.2)
abbrev pub index_text : Config → ProgramUnit → Index → List ℕ
index_text config unit (NumberIndex n) = []
index_text config unit (VariableIndex name) = scalar_text config unit name

-- how the rules say whether an operand is read or stored into
abbrev pub rule_access : Access → rule.Access
rule_access Reads = rule.Reads
rule_access Stores = rule.Stores

-- a word after an instance (2.5.2.1)
abbrev pub word_text : Config → ProgramUnit → Access → Spelling → Spelling → List ℕ
word_text config unit access name word = if is_visible (rule_access access) (instance_block config unit name) word then [] else no_word_line access name word

-- before a dot: an instance
abbrev pub member_by : Config → ProgramUnit → Access → Spelling → Spelling → Meant → List ℕ
member_by config unit access name word Nothing = unknown_instance config unit name
member_by config unit access name word SingleVariable = no_instance_line name
member_by config unit access name word ArrayVariable = no_instance_line name
member_by config unit access name word Instance = word_text config unit access name word
member_by config unit access name word OwnUnit = no_instance_line name
member_by config unit access name word Standard = no_instance_line name

abbrev pub member_text : Config → ProgramUnit → Access → Spelling → Spelling → List ℕ
member_text config unit access name word = member_by config unit access name word (meant config unit name)

-- what an operand names (3.2.1)
abbrev pub reference_text : Config → ProgramUnit → Access → Reference → List ℕ
reference_text config unit access (OfLiteral literal) = []
reference_text config unit access (OfVariable name) = scalar_text config unit name
reference_text config unit access (OfElement name index) = meaning_text config unit name ++ index_text config unit index
reference_text config unit access (OfMember name word) = member_text config unit access name word

-- what is read of an operand
abbrev pub read_text : Config → ProgramUnit → Operand → List ℕ
read_text config unit operand = reference_text config unit Reads operand.reference

-- the operand of a short form, if there is one
abbrev pub short_form_text : Config → ProgramUnit → Option Operand → List ℕ
short_form_text config unit None = []
short_form_text config unit (Some operand) = read_text config unit operand

-- an argument of a CAL (3.2.3)
abbrev pub argument_text : Config → ProgramUnit → Argument → List ℕ
argument_text config unit (Input word operand) = read_text config unit operand
argument_text config unit (Output word target) = scalar_text config unit target.name

-- a name that no function has
abbrev pub no_function_text : Config → Spelling → List ℕ
no_function_text config name = no_function_line name (nearest name (functions_near config)) ++ time_lines name

-- a function's name (2.5.1)
unfoldable pub function_text : Config → Spelling → List ℕ
function_text config name =
    if is_some (standard_function name) then [] else (if is_some (function_named config name) then [] else no_function_text config name)

-- 21: the names of an instruction; labels are no such names (3.2.1)
abbrev pub instruction_text : Config → ProgramUnit → Instruction → List ℕ
instruction_text config unit (Load negated operand) = read_text config unit operand
instruction_text config unit (StoreInto store target) = reference_text config unit Stores target.reference
instruction_text config unit Not = []
instruction_text config unit (Operate operator operand) = read_text config unit operand
instruction_text config unit (Defer operator first) = short_form_text config unit first
instruction_text config unit Evaluate = []
instruction_text config unit (Jump condition label) = []
instruction_text config unit (Return condition) = []
instruction_text config unit (Call condition instance arguments) = called_text config unit instance.name ++ flat_map (argument_text config unit) arguments
instruction_text config unit (Invoke function operands) = function_text config function.name ++ flat_map (read_text config unit) operands

-- DECLARATIONS

-- a name that no block has (2.5.2.1)
abbrev pub block_text : Config → Spelling → List ℕ
block_text config name = if is_some (block_variables config name) then [] else unknown_text name (types_near config)

-- a type's name that is no block's (2.5.2.1)
abbrev pub form_text : Config → Form → List ℕ
form_text config (OfScalar scalar) = []
form_text config (OfArray bounds element) = []
form_text config (OfBlock name) = block_text config name

-- the type at a place
abbrev pub type_text : Config → Place → Declaration → List ℕ
type_text config place d = if is_at d.declared.place place then form_text config d.declared.form else []

-- an external name that no global has (2.4.3)
abbrev pub global_text : Config → Spelling → List ℕ
global_text config name = if is_some (global_form config name) then [] else unknown_text name (globals_near config)

-- the external name at a place
abbrev pub external_text : Config → Place → Named → List ℕ
external_text config place n = if is_at n.place place then global_text config n.name else []

-- the external names of a declaration
abbrev pub externals_text : Config → Place → Declaration → List ℕ
externals_text config place d = flat_map (external_text config place) d.names

-- the types of declarations
abbrev pub types_text : Config → Place → List Declaration → List ℕ
types_text config place declarations = flat_map (type_text config place) declarations

-- ALL

-- of a unit the types and the external names
abbrev pub unit_text : Config → Place → ProgramUnit → List ℕ
unit_text config place unit =
    types_text config place unit.inputs
    ++ (types_text config place unit.outputs
    ++ (types_text config place unit.variables
    ++ (types_text config place unit.externals
    ++ flat_map (externals_text config place) unit.externals)))

-- 21: what is reported of the declared names that are unknown at a place
unfoldable pub unknown_lines : Config → Place → List ℕ
unknown_lines config place = flat_map (unit_text config place) config.units ++ types_text config place config.globals
