-- What breaks the rules of declarations: names, written types, initial values, tasks.
use Rattle.std.specs.Prelude.{◌≡◌, ◌≢◌, ℕ, ◌≤◌, ℤ, pos, ◌≤ℤ◌, ◌-ℤ◌, int_le, int_lt, Bool, true, false, ◌&&◌, if◌then◌else◌, IsTrue, IsFalse, List, [], ◌∷◌, ◌++◌, map, Option, Some, None, is_some, Contains, flat_map}
use Rattle.il_syntax.specs.declared.tree.Config.{Config}
use Rattle.il_syntax.specs.declared.tree.Unit.{Unit as ProgramUnit}
use Rattle.il_syntax.specs.declared.tree.UnitKind.{UnitKind}
use Rattle.il_syntax.specs.declared.tree.UnitKind.TheVariants.{Function, FunctionBlock, Program}
use Rattle.il_syntax.specs.declared.tree.Body.{Body}
use Rattle.il_syntax.specs.declared.tree.Step.{Step}
use Rattle.il_syntax.specs.declared.tree.Task.{Task}
use Rattle.il_syntax.specs.declared.tree.ProgramLine.{ProgramLine}
use Rattle.il_syntax.specs.declared.tree.Size.{Size}
use Rattle.il_syntax.specs.declared.tree.Declaration.{Declaration}
use Rattle.il_syntax.specs.declared.tree.Named.{Named}
use Rattle.il_syntax.specs.declared.tree.Initial.{Initial}
use Rattle.il_syntax.specs.declared.tree.Place.{Place}
use Rattle.il_syntax.specs.declared.tree.WrittenType.{WrittenType}
use Rattle.il_syntax.specs.declared.tree.Form.{Form}
use Rattle.il_syntax.specs.declared.tree.Form.TheVariants.{Scalar as OfScalar, Array as OfArray, Block as OfBlock}
use Rattle.il_syntax.specs.declared.tree.Scalar.{Scalar}
use Rattle.il_syntax.specs.declared.tree.Subrange.{Subrange}
use Rattle.il_syntax.specs.declared.tree.Elementary.{Elementary}
use Rattle.il_syntax.specs.declared.tree.Elementary.TheVariants.{Bool as Boolean, Int, Time}
use Rattle.il_syntax.specs.declared.tree.Literal.{Literal}
use Rattle.il_syntax.specs.declared.tree.Literal.TheVariants.{Truth, Bare, Whole, Time as Duration}
use Rattle.il_syntax.specs.declared.tree.Index.{Index}
use Rattle.il_syntax.specs.declared.tree.Index.TheVariants.{Number as NumberIndex, Variable as VariableIndex}
use Rattle.il_syntax.specs.declared.tree.Reference.{Reference}
use Rattle.il_syntax.specs.declared.tree.Reference.TheVariants.{Literal as OfLiteral, Variable as OfVariable, Element as OfElement, Member as OfMember}
use Rattle.il_syntax.specs.declared.tree.Operand.{Operand}
use Rattle.il_syntax.specs.declared.tree.Argument.{Argument}
use Rattle.il_syntax.specs.declared.tree.Argument.TheVariants.{Input, Output}
use Rattle.il_syntax.specs.declared.tree.Instruction.{Instruction}
use Rattle.il_syntax.specs.declared.tree.Instruction.TheVariants.{Load, Store as StoreInto, Not, Operate, Defer, Evaluate, Jump, Return, Call, Invoke}
use Rattle.il_syntax.specs.ElementaryTypes.{limits, is_same_type, is_whole}
use Rattle.il_statics.specs.declared.names.Role.{Role}
use Rattle.il_statics.specs.Limits.{cars_limits, floors_limits, slots_limits}
use Rattle.il_statics.specs.Names.{Spelling, or_else, entry_of, standard_function, BlockVariables, block_variables, named_forms, is_predeclared, is_program, function_named, program_named, task_role, car_number, program_role, Meaning, MeansVariable, MeansUnit, MeansStandard, meaning}

-- ELEMENTARY TYPES AND LITERALS

-- the limits of a scalar type: its subrange's, otherwise its base's (2.3.3.1)
abbrev pub declared_limits : Scalar → Option Subrange
declared_limits scalar = or_else scalar.subrange (limits scalar.elementary)

-- whether a value lies within limits
abbrev pub is_within : Subrange → ℤ → Bool
is_within range value = int_le range.lower value && int_le value range.upper

-- whether there are limits and a value lies within them
abbrev pub is_within_any : Option Subrange → ℤ → Bool
is_within_any (Some range) value = is_within range value
is_within_any None value = false

-- whether a type has this value, so that a bare number can be a literal of it (2.2.1)
abbrev pub has_value : Elementary → ℤ → Bool
has_value elementary value = is_within_any (limits elementary) value

-- the numbers of the rules that a number breaks: none, or this one
abbrev pub unless : Bool → ℕ → List ℕ
unless true number = []
unless false number = number ∷ []

-- WRITTEN TYPES

-- which types a list of declarations admits (own rule)
pub data Admitted : Type 0 where
  ScalarsAlone ScalarsAndArrays AllForms : Admitted

-- a subrange is one of an integer type, within it and not empty (2.3.3.1)
abbrev pub subrange_numbers : Elementary → Option Subrange → List ℕ
subrange_numbers elementary None = []
subrange_numbers elementary (Some s) =
    if is_whole elementary then unless (has_value elementary s.lower && has_value elementary s.upper && int_le s.lower s.upper) 22 else 25 ∷ []

-- the bounds of an array are INT, in order, and of at most 256 elements (2.3.3.1; the limits are own)
abbrev pub bounds_numbers : Subrange → List ℕ
bounds_numbers bounds =
    unless (has_value Int bounds.lower && has_value Int bounds.upper && int_le bounds.lower bounds.upper && int_lt (bounds.upper -ℤ bounds.lower) (pos 256)) 22

-- whether arrays are admitted
abbrev pub admits_arrays : Admitted → Bool
admits_arrays ScalarsAlone = false
admits_arrays ScalarsAndArrays = true
admits_arrays AllForms = true

-- whether instances are admitted
abbrev pub admits_instances : Admitted → Bool
admits_instances ScalarsAlone = false
admits_instances ScalarsAndArrays = false
admits_instances AllForms = true

-- what a type's name breaks: it is a block's, where instances are admitted (2.5.2.1)
abbrev pub instance_numbers : Admitted → Option BlockVariables → List ℕ
instance_numbers admitted None = 21 ∷ []
instance_numbers admitted (Some block) = unless (admits_instances admitted) 25

-- what a written type breaks (2.3.3.1, 2.4.3)
unfoldable pub type_numbers : Config → Admitted → Form → List ℕ
type_numbers config admitted (OfScalar scalar) = subrange_numbers scalar.elementary scalar.subrange
type_numbers config admitted (OfArray bounds element) = unless (admits_arrays admitted) 25 ++ bounds_numbers bounds ++ subrange_numbers element.elementary element.subrange
type_numbers config admitted (OfBlock name) = instance_numbers admitted (block_variables config name)

-- the types that a list of declarations writes
abbrev pub types_in : Admitted → List Declaration → List (Admitted × WrittenType)
types_in admitted declarations = map (λ d. (admitted, d.declared)) declarations

-- what the variables of a unit's VAR list may be (own rule)
abbrev pub admitted_variables : UnitKind → Admitted
admitted_variables (Function scalar place) = ScalarsAlone
admitted_variables FunctionBlock = AllForms
admitted_variables Program = AllForms

-- the type that a function's heading writes (2.5.1.3)
abbrev pub result_types : UnitKind → List (Admitted × WrittenType)
result_types (Function scalar place) = (ScalarsAlone, record { place = place; form = OfScalar scalar }) ∷ []
result_types FunctionBlock = []
result_types Program = []

-- the types that a unit writes
abbrev pub unit_types : ProgramUnit → List (Admitted × WrittenType)
unit_types unit =
    result_types unit.kind
    ++ types_in ScalarsAlone unit.inputs
    ++ types_in ScalarsAlone unit.outputs
    ++ types_in (admitted_variables unit.kind) unit.variables
    ++ types_in ScalarsAndArrays unit.externals

-- the types that a configuration writes, each with what may be there
abbrev pub written_types : Config → List (Admitted × WrittenType)
written_types config = flat_map unit_types config.units ++ types_in ScalarsAndArrays config.globals

-- a type that breaks the rule of this number, at its first word
abbrev pub IsTypeBroken : Config → ℕ → Place → Type 0
IsTypeBroken config number place =
    (t : Admitted × WrittenType) × Contains (written_types config) t × Contains (type_numbers config t.0 t.1.form) number × (place ≡ t.1.place)

-- INITIAL VALUES

-- the type written before or shown by a literal; a bare number has none (2.2)
abbrev pub written_type : Literal → Option Elementary
written_type (Truth b) = Some Boolean
written_type (Bare n) = None
written_type (Whole elementary n) = Some elementary
written_type (Duration n) = Some Time

-- whether a literal with this type written can be a value of a type
abbrev pub is_of_type : Elementary → Option Elementary → Bool
is_of_type elementary (Some written) = is_same_type elementary written
is_of_type elementary None = is_whole elementary

-- whether a literal's value lies within limits
abbrev pub literal_lies_in : Option Subrange → Literal → Bool
literal_lies_in range (Truth b) = true
literal_lies_in range (Bare n) = is_within_any range n
literal_lies_in range (Whole elementary n) = is_within_any range n
literal_lies_in range (Duration n) = is_within_any range n

-- what an initial value breaks: it is of the declared scalar type and lies in it (2.4.3.2)
abbrev pub initial_numbers : Form → Literal → List ℕ
initial_numbers (OfScalar scalar) literal =
    if is_of_type scalar.elementary (written_type literal) then unless (literal_lies_in (declared_limits scalar) literal) 23 else 25 ∷ []
initial_numbers (OfArray bounds element) literal = 25 ∷ []
initial_numbers (OfBlock name) literal = 25 ∷ []

-- the declarations of a unit
abbrev pub unit_declarations : ProgramUnit → List Declaration
unit_declarations unit = unit.inputs ++ unit.outputs ++ unit.variables ++ unit.externals

-- all declarations of a configuration
abbrev pub all_declarations : Config → List Declaration
all_declarations config = flat_map unit_declarations config.units ++ config.globals

-- an initial value that breaks the rule of this number, at the literal
abbrev pub IsInitialBroken : Config → ℕ → Place → Type 0
IsInitialBroken config number place =
    (d : Declaration) × (initial : Initial) × Contains (all_declarations config) d × (d.initial ≡ Some initial) × Contains (initial_numbers d.declared.form initial.literal) number × (place ≡ initial.place)

-- NAMES IN INSTRUCTIONS

-- whether an operand is read or stored into
pub data Access : Type 0 where
  Reads Stores : Access

-- a variable of this type where a scalar one is (2.4.3, own rule)
abbrev pub scalar_form_numbers : Form → List ℕ
scalar_form_numbers (OfScalar scalar) = []
scalar_form_numbers (OfArray bounds element) = 25 ∷ []
scalar_form_numbers (OfBlock name) = 21 ∷ []

-- a name where a scalar variable is: no array without an index, nothing but a variable (2.4.3, own rule)
abbrev pub scalar_numbers : Option Meaning → List ℕ
scalar_numbers (Some (MeansVariable v)) = scalar_form_numbers v.form
scalar_numbers (Some (MeansUnit u)) = 21 ∷ []
scalar_numbers (Some MeansStandard) = 21 ∷ []
scalar_numbers None = 21 ∷ []

-- a variable of this type before an index (2.4.1.2)
abbrev pub array_form_numbers : Form → List ℕ
array_form_numbers (OfScalar scalar) = 25 ∷ []
array_form_numbers (OfArray bounds element) = []
array_form_numbers (OfBlock name) = 25 ∷ []

-- a name before an index: an array's (2.4.1.2)
abbrev pub array_numbers : Option Meaning → List ℕ
array_numbers (Some (MeansVariable v)) = array_form_numbers v.form
array_numbers (Some (MeansUnit u)) = 25 ∷ []
array_numbers (Some MeansStandard) = 25 ∷ []
array_numbers None = 21 ∷ []

-- an index: a number, or the name of a scalar variable (2.4.1.2)
abbrev pub index_name_numbers : Config → ProgramUnit → Index → List ℕ
index_name_numbers config unit (NumberIndex n) = []
index_name_numbers config unit (VariableIndex name) = scalar_numbers (meaning config unit name)

-- a word after a block's instance: an output, or an input where it is stored into (2.5.2.1, own rule)
abbrev pub is_visible : Access → Option BlockVariables → Spelling → Bool
is_visible access None word = false
is_visible Reads (Some block) word = is_some (entry_of block.outputs word)
is_visible Stores (Some block) word = if is_some (entry_of block.outputs word) then true else is_some (entry_of block.inputs word)

-- a variable of this type before a dot (2.5.2.1)
abbrev pub member_form_numbers : Config → Access → Spelling → Form → List ℕ
member_form_numbers config access word (OfScalar scalar) = 21 ∷ []
member_form_numbers config access word (OfArray bounds element) = 21 ∷ []
member_form_numbers config access word (OfBlock name) = unless (is_visible access (block_variables config name) word) 21

-- a name before a dot: an instance's, with such a word (2.5.2.1)
abbrev pub member_numbers : Config → Access → Spelling → Option Meaning → List ℕ
member_numbers config access word (Some (MeansVariable v)) = member_form_numbers config access word v.form
member_numbers config access word (Some (MeansUnit u)) = 21 ∷ []
member_numbers config access word (Some MeansStandard) = 21 ∷ []
member_numbers config access word None = 21 ∷ []

-- what the names of an operand break (3.2.1)
abbrev pub reference_numbers : Config → ProgramUnit → Access → Reference → List ℕ
reference_numbers config unit access (OfLiteral literal) = []
reference_numbers config unit access (OfVariable name) = scalar_numbers (meaning config unit name)
reference_numbers config unit access (OfElement name index) = array_numbers (meaning config unit name) ++ index_name_numbers config unit index
reference_numbers config unit access (OfMember name word) = member_numbers config access word (meaning config unit name)

-- a variable of this type after CAL (3.2.3)
abbrev pub called_form_numbers : Form → List ℕ
called_form_numbers (OfScalar scalar) = 25 ∷ []
called_form_numbers (OfArray bounds element) = 25 ∷ []
called_form_numbers (OfBlock name) = []

-- what the name after CAL breaks: it is an instance's (3.2.3)
abbrev pub called_numbers : Option Meaning → List ℕ
called_numbers (Some (MeansVariable v)) = called_form_numbers v.form
called_numbers (Some (MeansUnit u)) = 25 ∷ []
called_numbers (Some MeansStandard) = 25 ∷ []
called_numbers None = 21 ∷ []

-- what the names of an argument break: an output's target is a scalar variable (3.2.3)
abbrev pub argument_name_numbers : Config → ProgramUnit → Argument → List ℕ
argument_name_numbers config unit (Input word operand) = reference_numbers config unit Reads operand.reference
argument_name_numbers config unit (Output word target) = scalar_numbers (meaning config unit target.name)

-- the operand of a short form, if there is one
abbrev pub short_form_name_numbers : Config → ProgramUnit → Option Operand → List ℕ
short_form_name_numbers config unit None = []
short_form_name_numbers config unit (Some operand) = reference_numbers config unit Reads operand.reference

-- what the name of a function breaks: it is a standard one's or an own one's (2.5.1)
abbrev pub function_name_numbers : Config → Spelling → List ℕ
function_name_numbers config name = if is_some (standard_function name) then [] else unless (is_some (function_named config name)) 21

-- what the names of a function's call break
abbrev pub invoke_name_numbers : Config → ProgramUnit → Spelling → List Operand → List ℕ
invoke_name_numbers config unit name operands = function_name_numbers config name ++ flat_map (λ o. reference_numbers config unit Reads o.reference) operands

-- what the names of an instruction break; labels are no such names (3.2.1)
unfoldable pub name_numbers : Config → ProgramUnit → Instruction → List ℕ
name_numbers config unit (Load negated operand) = reference_numbers config unit Reads operand.reference
name_numbers config unit (StoreInto store target) = reference_numbers config unit Stores target.reference
name_numbers config unit Not = []
name_numbers config unit (Operate operator operand) = reference_numbers config unit Reads operand.reference
name_numbers config unit (Defer operator first) = short_form_name_numbers config unit first
name_numbers config unit Evaluate = []
name_numbers config unit (Jump condition label) = []
name_numbers config unit (Return condition) = []
name_numbers config unit (Call condition instance arguments) =
    called_numbers (meaning config unit instance.name) ++ flat_map (argument_name_numbers config unit) arguments
name_numbers config unit (Invoke function operands) = invoke_name_numbers config unit function.name operands

-- an instruction whose names break the rule of this number, at its operator
abbrev pub IsNameBroken : Config → ℕ → Place → Type 0
IsNameBroken config number place =
    (unit : ProgramUnit) × (step : Step) × Contains config.units unit × Contains unit.body.steps step × Contains (name_numbers config unit step.instruction) number × (place ≡ step.place)

-- 20: DECLARED AGAIN

-- x is in the list after another of the same name
abbrev pub IsAgain : {A : Type 0} → (A → Spelling) → List A → A → Type 0
IsAgain {A = A} name items x = (before : List A) × (after : List A) × (items ≡ before ++ x ∷ after) × Contains (map name before) (name x)

-- the names that declarations give
abbrev pub names_in : List Declaration → List Named
names_in declarations = flat_map (λ d. d.names) declarations

-- the names that a unit declares, in the order of the text
abbrev pub unit_names : ProgramUnit → List Named
unit_names unit = names_in (unit_declarations unit)

-- the labels of a body, in the order of the text (3.2.1)
abbrev pub labels_of : Body → List Named
labels_of body = flat_map (λ s. s.labels) body.steps ++ body.last_labels

-- the names of all units
abbrev pub names_of_units : Config → List Spelling
names_of_units config = map (λ u. u.name.name) config.units

-- 20: a name is declared that another declaration of its name space has, or that is predeclared (2.4.3, 2.5, 2.7; own rule)
pub data IsDuplicate (config : Config) (place : Place) : Type 0 where
  -- a unit with a predeclared name, at its heading
  predeclared_unit : (unit : ProgramUnit) → Contains config.units unit → IsTrue (is_predeclared config unit.name.name) → place ≡ unit.place → IsDuplicate config place
  -- a unit with an earlier unit's name, at its heading
  second_unit : (unit : ProgramUnit) → IsAgain (λ u. u.name.name) config.units unit → place ≡ unit.place → IsDuplicate config place
  -- a unit's variable with a predeclared name
  predeclared_variable : (unit : ProgramUnit) (n : Named) → Contains config.units unit → Contains (unit_names unit) n → IsTrue (is_predeclared config n.name) → place ≡ n.place → IsDuplicate config place
  -- a unit's variable with the name of a unit, wherever that is
  variable_as_unit : (unit : ProgramUnit) (n : Named) → Contains config.units unit → Contains (unit_names unit) n → Contains (names_of_units config) n.name → place ≡ n.place → IsDuplicate config place
  -- a unit's variable with an earlier one's name
  second_variable : (unit : ProgramUnit) (n : Named) → Contains config.units unit → IsAgain (λ m. m.name) (unit_names unit) n → place ≡ n.place → IsDuplicate config place
  -- a label with an earlier label's name, at the label itself
  second_label : (unit : ProgramUnit) (n : Named) → Contains config.units unit → IsAgain (λ m. m.name) (labels_of unit.body) n → place ≡ n.place → IsDuplicate config place
  -- a global with a predeclared name
  predeclared_global : (n : Named) → Contains (names_in config.globals) n → IsTrue (is_predeclared config n.name) → place ≡ n.place → IsDuplicate config place
  -- a global with the name of a unit
  global_as_unit : (n : Named) → Contains (names_in config.globals) n → Contains (names_of_units config) n.name → place ≡ n.place → IsDuplicate config place
  -- a global with an earlier one's name
  second_global : (n : Named) → IsAgain (λ m. m.name) (names_in config.globals) n → place ≡ n.place → IsDuplicate config place
  -- a task with an earlier one's name, at its TASK line
  second_task : (task : Task) → IsAgain (λ t. t.name.name) config.tasks task → place ≡ task.place → IsDuplicate config place
  -- a PROGRAM line with an earlier one's name
  second_program_line : (line : ProgramLine) → IsAgain (λ l. l.name.name) config.programs line → place ≡ line.place → IsDuplicate config place

-- 21: UNKNOWN

-- an external name in the list that declares it (2.4.3)
pub record IsExternal (config : Config) (declaration : Declaration) (n : Named) : Type 0 where
  pub unit : ProgramUnit
  pub written : Contains config.units unit
  pub listed : Contains unit.externals declaration
  pub named : Contains declaration.names n

-- the type of a global, by its name: that of the first with it
abbrev pub global_form : Config → Spelling → Option Form
global_form config name = entry_of (named_forms config.globals) name

-- 21: a name means nothing that its place takes, where no other number says so (own rule)
pub data IsUnknown (config : Config) (place : Place) : Type 0 where
  -- a type's name that is no block's
  unknown_type : IsTypeBroken config 21 place → IsUnknown config place
  -- an external that is no global, at its name
  unknown_global : (d : Declaration) (n : Named) → IsExternal config d n → global_form config n.name ≡ None → place ≡ n.place → IsUnknown config place
  -- a name in an instruction
  unknown_name : IsNameBroken config 21 place → IsUnknown config place

-- 22: the limits of a subrange or of an array's bounds are none (2.3.3.1)
abbrev pub HasEmptyRange : Config → Place → Type 0
HasEmptyRange config place = IsTypeBroken config 22 place

-- 23: OUTSIDE ITS RANGE

-- the sizes of the group with their limits (own rule)
abbrev pub sizes_of : Config → List (Size × Subrange)
sizes_of config = (config.cars, cars_limits) ∷ (config.floors, floors_limits) ∷ (config.slots, slots_limits) ∷ []

-- 23: an initial value or a size lies outside its range (2.4.3.2; the sizes' limits are own)
pub data IsInitialOutside (config : Config) (place : Place) : Type 0 where
  initial_outside : IsInitialBroken config 23 place → IsInitialOutside config place
  -- at the size's number
  size_outside : (s : Size × Subrange) → Contains (sizes_of config) s → IsFalse (is_within s.1 s.0.value) → place ≡ s.0.place → IsInitialOutside config place

-- 24: TASKS

-- the names of the tasks that TASK lines declare
abbrev pub names_of_tasks : Config → List Spelling
names_of_tasks config = map (λ t. t.name.name) config.tasks

-- 24: the tasks are not CAR1 to CARn, all of them, and perhaps GROUP, each with one PROGRAM line whose program is of its role, or a program is unused (2.7.2; own rule)
pub data IsBadTask (config : Config) (place : Place) : Type 0 where
  -- a TASK line of no task of the group
  foreign_task : (task : Task) → Contains config.tasks task → task_role config.cars.value task.name.name ≡ None → place ≡ task.place → IsBadTask config place
  -- a PROGRAM line of a task without a TASK line
  unknown_task : (line : ProgramLine) → Contains config.programs line → ¬ Contains (names_of_tasks config) line.task.name → place ≡ line.place → IsBadTask config place
  -- a second PROGRAM line of a task
  second_line : (line : ProgramLine) → IsAgain (λ l. l.task.name) config.programs line → place ≡ line.place → IsBadTask config place
  -- a PROGRAM line of no program
  unknown_program : (line : ProgramLine) → Contains config.programs line → program_named config line.program.name ≡ None → place ≡ line.place → IsBadTask config place
  -- a PROGRAM line that gives a program to a task of the other role
  other_role : (line : ProgramLine) (role : Role) → Contains config.programs line → task_role config.cars.value line.task.name ≡ Some role → program_role config line.program.name config.programs ≢ Some role → place ≡ line.place → IsBadTask config place
  -- a car without a TASK line, at END_RESOURCE
  missing_task : (k : ℕ) → 1 ≤ k → pos k ≤ℤ config.cars.value → ((task : Task) → Contains config.tasks task → car_number task.name.name ≢ Some k) → place ≡ config.end_resource → IsBadTask config place
  -- a task without a PROGRAM line, at END_RESOURCE
  missing_line : (task : Task) → Contains config.tasks task → ¬ Contains (map (λ l. l.task.name) config.programs) task.name.name → place ≡ config.end_resource → IsBadTask config place
  -- a program that no PROGRAM line names, at its heading
  unused_program : (unit : ProgramUnit) → Contains config.units unit → IsTrue (is_program unit) → ¬ Contains (map (λ l. l.program.name) config.programs) unit.name.name → place ≡ unit.place → IsBadTask config place

-- 25: a type is not what its place asks for (2.4.3, 2.4.3.2, 3.2.3; own rule)
pub data HasOtherType (config : Config) (place : Place) : Type 0 where
  -- a type where it may not be, or a subrange of BOOL or TIME
  type_misplaced : IsTypeBroken config 25 place → HasOtherType config place
  -- an initial value of another kind or written type, or of an array or instance
  initial_of_other_type : IsInitialBroken config 25 place → HasOtherType config place
  -- an external whose type is not its global's, at the type
  external_differs : (d : Declaration) (n : Named) (form : Form) → IsExternal config d n → global_form config n.name ≡ Some form → d.declared.form ≢ form → place ≡ d.declared.place → HasOtherType config place
  -- CAL of no instance, an index on no array, an array without an index
  name_of_other_type : IsNameBroken config 25 place → HasOtherType config place
