-- What names mean: predeclared names, image names, and the variables of units.
use Rattle.std.specs.Prelude.{ℕ, ◌+◌, ◌-◌, ◌*◌, ◌==◌, ℤ, pos, negsuc, int_le, Bool, true, false, ◌&&◌, ◌||◌, if◌then◌else◌, List, [], ◌∷◌, ◌++◌, map, take, drop, Option, Some, None, is_some, option_map, option_and_then, find, flat_map, codes, bytes_eq}
use Rattle.std.specs.List.{list_any}
use Rattle.std.specs.Char.{is_ascii_digit}
use Rattle.il_syntax.specs.declared.tree.Config.{Config}
use Rattle.il_syntax.specs.declared.tree.Unit.{Unit as ProgramUnit}
use Rattle.il_syntax.specs.declared.tree.UnitKind.{UnitKind}
use Rattle.il_syntax.specs.declared.tree.UnitKind.TheVariants.{Function, FunctionBlock, Program}
use Rattle.il_syntax.specs.declared.tree.ProgramLine.{ProgramLine}
use Rattle.il_syntax.specs.declared.tree.Declaration.{Declaration}
use Rattle.il_syntax.specs.declared.tree.Form.{Form}
use Rattle.il_syntax.specs.declared.tree.Form.TheVariants.{Scalar as OfScalar, Array as OfArray}
use Rattle.il_syntax.specs.declared.tree.Scalar.{Scalar}
use Rattle.il_syntax.specs.declared.tree.Elementary.{Elementary}
use Rattle.il_syntax.specs.declared.tree.Elementary.TheVariants.{Bool as Boolean, Sint, Int, Dint, Usint, Uint, Udint, Time}
use Rattle.il_syntax.specs.ElementaryTypes.{plain}
use Rattle.il_statics.specs.declared.names.StandardFunction.{StandardFunction}
use Rattle.il_statics.specs.declared.names.StandardFunction.TheVariants.{Absolute, Minimum, Maximum, Limited, Selected, Converted}
use Rattle.il_statics.specs.declared.names.StandardBlock.{StandardBlock}
use Rattle.il_statics.specs.declared.names.StandardBlock.TheVariants.{Sr, Rs, RTrig, FTrig, Ctu, Ctd, Ctud, Tp, Ton, Tof}
use Rattle.il_statics.specs.declared.names.Origin.{Origin}
use Rattle.il_statics.specs.declared.names.Origin.TheVariants.{Input as AsInput, Output as AsOutput, Local as AsVariable, External as AsExternal, FunctionResult as AsResult, ReadImage as AsReadImage, WrittenImage as AsWrittenImage}
use Rattle.il_statics.specs.declared.names.Audience.{Audience}
use Rattle.il_statics.specs.declared.names.Audience.TheVariants.{Everybody, CarPrograms, GroupPrograms}
use Rattle.il_statics.specs.declared.names.Role.{Role}
use Rattle.il_statics.specs.declared.names.Role.TheVariants.{Car as CarRole, Group as GroupRole}

-- a name, as its bytes in capital letters (2.1.2)
abbrev pub Spelling : Type 0
Spelling = List ℕ

-- the first that is there
abbrev pub or_else : {A : Type 0} → Option A → Option A → Option A
or_else (Some x) other = Some x
or_else None other = other

-- whether a name is one of these
abbrev pub is_one_of : List Spelling → Spelling → Bool
is_one_of names name = list_any (λ n. bytes_eq n name) names

-- the entry of a table under a name
abbrev pub entry_of : {A : Type 0} → List (Spelling × A) → Spelling → Option A
entry_of table name = option_map (λ e. e.1) (find (λ e. bytes_eq e.0 name) table)

-- the six integer types with their words (2.3.1)
abbrev pub whole_types : List (Spelling × Elementary)
whole_types =
    (codes "SINT", Sint) ∷ (codes "INT", Int) ∷ (codes "DINT", Dint) ∷ (codes "USINT", Usint) ∷ (codes "UINT", Uint) ∷ (codes "UDINT", Udint) ∷ []

-- X_TO_Y, between two different integer types (2.5.1.5.1)
abbrev pub conversion_between : Spelling × Elementary → Spelling × Elementary → List (Spelling × StandardFunction)
conversion_between from to = if bytes_eq from.0 to.0 then [] else (from.0 ++ codes "_TO_" ++ to.0, Converted from.1 to.1) ∷ []

-- all conversions (2.5.1.5.1)
abbrev pub conversions : List (Spelling × StandardFunction)
conversions = flat_map (λ from. flat_map (conversion_between from) whole_types) whole_types

-- the standard functions by name (2.5.1.5)
abbrev pub standard_functions : List (Spelling × StandardFunction)
standard_functions =
    (codes "ABS", Absolute) ∷ (codes "MIN", Minimum) ∷ (codes "MAX", Maximum) ∷ (codes "LIMIT", Limited) ∷ (codes "SEL", Selected) ∷ conversions

-- the standard function of a name
unfoldable pub standard_function : Spelling → Option StandardFunction
standard_function = entry_of standard_functions

-- the arguments after the first, which is the current result (3.2.3)
abbrev pub further_arguments : StandardFunction → ℕ
further_arguments Absolute = 0
further_arguments Minimum = 1
further_arguments Maximum = 1
further_arguments Limited = 2
further_arguments Selected = 2
further_arguments (Converted from to) = 0

-- the variables of a block in their written order; a caller sees the inputs and outputs (2.5.2)
pub record BlockVariables : Type 0 where
  pub inputs : List (Spelling × Form)
  pub outputs : List (Spelling × Form)
  pub inner : List (Spelling × Form)

-- the standard blocks by name (2.5.2.3)
abbrev pub standard_blocks : List (Spelling × StandardBlock)
standard_blocks =
    (codes "SR", Sr) ∷ (codes "RS", Rs) ∷ (codes "R_TRIG", RTrig) ∷ (codes "F_TRIG", FTrig) ∷ (codes "CTU", Ctu)
    ∷ (codes "CTD", Ctd) ∷ (codes "CTUD", Ctud) ∷ (codes "TP", Tp) ∷ (codes "TON", Ton) ∷ (codes "TOF", Tof) ∷ []

-- the standard block of a name
unfoldable pub standard_block : Spelling → Option StandardBlock
standard_block = entry_of standard_blocks

-- the variables of a standard block, each with its elementary type; those of `inner` nothing outside it sees (own rule)
pub record WordLists : Type 0 where
  pub inputs : List (Spelling × Elementary)
  pub outputs : List (Spelling × Elementary)
  pub inner : List (Spelling × Elementary)

-- words of one elementary type
abbrev pub words : Elementary → List Spelling → List (Spelling × Elementary)
words elementary names = map (λ n. (n, elementary)) names

-- the words of a standard block (2.5.2.3)
abbrev pub standard_words : StandardBlock → WordLists
standard_words Sr = record { inputs = words Boolean (codes "S1" ∷ codes "R" ∷ []); outputs = words Boolean (codes "Q1" ∷ []); inner = [] }
standard_words Rs = record { inputs = words Boolean (codes "S" ∷ codes "R1" ∷ []); outputs = words Boolean (codes "Q1" ∷ []); inner = [] }
standard_words RTrig = record { inputs = words Boolean (codes "CLK" ∷ []); outputs = words Boolean (codes "Q" ∷ []); inner = words Boolean (codes "M" ∷ []) }
standard_words FTrig = record { inputs = words Boolean (codes "CLK" ∷ []); outputs = words Boolean (codes "Q" ∷ []); inner = words Boolean (codes "M" ∷ []) }
standard_words Ctu = record { inputs = words Boolean (codes "CU" ∷ codes "R" ∷ []) ++ words Int (codes "PV" ∷ []); outputs = words Boolean (codes "Q" ∷ []) ++ words Int (codes "CV" ∷ []); inner = words Boolean (codes "M" ∷ []) }
standard_words Ctd = record { inputs = words Boolean (codes "CD" ∷ codes "LD" ∷ []) ++ words Int (codes "PV" ∷ []); outputs = words Boolean (codes "Q" ∷ []) ++ words Int (codes "CV" ∷ []); inner = words Boolean (codes "M" ∷ []) }
standard_words Ctud = record { inputs = words Boolean (codes "CU" ∷ codes "CD" ∷ codes "R" ∷ codes "LD" ∷ []) ++ words Int (codes "PV" ∷ []); outputs = words Boolean (codes "QU" ∷ codes "QD" ∷ []) ++ words Int (codes "CV" ∷ []); inner = words Boolean (codes "MU" ∷ codes "MD" ∷ []) }
standard_words Tp = record { inputs = words Boolean (codes "IN" ∷ []) ++ words Time (codes "PT" ∷ []); outputs = words Boolean (codes "Q" ∷ []) ++ words Time (codes "ET" ∷ []); inner = words Boolean (codes "RUN" ∷ codes "M" ∷ []) ++ words Time (codes "LAST" ∷ []) }
standard_words Ton = record { inputs = words Boolean (codes "IN" ∷ []) ++ words Time (codes "PT" ∷ []); outputs = words Boolean (codes "Q" ∷ []) ++ words Time (codes "ET" ∷ []); inner = words Boolean (codes "RUN" ∷ []) ++ words Time (codes "LAST" ∷ []) }
standard_words Tof = record { inputs = words Boolean (codes "IN" ∷ []) ++ words Time (codes "PT" ∷ []); outputs = words Boolean (codes "Q" ∷ []) ++ words Time (codes "ET" ∷ []); inner = words Boolean (codes "RUN" ∷ []) ++ words Time (codes "LAST" ∷ []) }

-- a variable of an elementary type
abbrev pub word_form : Elementary → Form
word_form elementary = OfScalar (plain elementary)

-- words, each with its type
abbrev pub with_forms : List (Spelling × Elementary) → List (Spelling × Form)
with_forms table = map (λ w. (w.0, word_form w.1)) table

-- the inputs of a standard block (2.5.2.3)
abbrev pub standard_inputs : StandardBlock → List (Spelling × Form)
standard_inputs block = with_forms (standard_words block).inputs

-- the outputs of a standard block (2.5.2.3)
abbrev pub standard_outputs : StandardBlock → List (Spelling × Form)
standard_outputs block = with_forms (standard_words block).outputs

-- the variables of a standard block that nothing outside it sees (own rule)
abbrev pub standard_inner : StandardBlock → List (Spelling × Form)
standard_inner block = with_forms (standard_words block).inner

-- the variables of a standard block (2.5.2.3)
abbrev pub standard_variables : StandardBlock → BlockVariables
standard_variables block = record { inputs = standard_inputs block; outputs = standard_outputs block; inner = standard_inner block }

-- a variable that a name means
pub record Variable : Type 0 where
  pub name : Spelling
  pub form : Form
  pub origin : Origin

-- an image name (own rule)
pub record ImageName : Type 0 where
  pub variable : Variable
  pub audience : Audience

-- INT within these limits
abbrev pub within : ℤ → ℤ → Scalar
within lower upper = record { elementary = Int; subrange = Some (record { lower = lower; upper = upper }) }

-- ARRAY [1..count] of this element
abbrev pub row_of : ℤ → Scalar → Form
row_of count element = OfArray (record { lower = pos 1; upper = count }) element

-- an image name that is read
abbrev pub image_read : Spelling → Audience → Form → ImageName
image_read name audience form = record { variable = record { name = name; form = form; origin = AsReadImage }; audience = audience }

-- an image name that is written
abbrev pub image_written : Spelling → Audience → Form → ImageName
image_written name audience form = record { variable = record { name = name; form = form; origin = AsWrittenImage }; audience = audience }

-- the image names of a group with so many cars, floors and slots (own rule)
abbrev pub image_of : ℤ → ℤ → ℤ → List ImageName
image_of cars floors slots =
    image_read (codes "CARS") Everybody (OfScalar (within cars cars))
    ∷ image_read (codes "FLOORS") Everybody (OfScalar (within floors floors))
    ∷ image_read (codes "SLOTS") Everybody (OfScalar (within slots slots))
    ∷ image_read (codes "NOW") Everybody (OfScalar (plain Time))
    ∷ image_read (codes "RUNLIMIT") Everybody (OfScalar (within (pos 0) cars))
    ∷ image_read (codes "FIRE") Everybody (OfScalar (plain Boolean))
    ∷ image_read (codes "CARNO") CarPrograms (OfScalar (within (pos 1) cars))
    ∷ image_read (codes "POS") CarPrograms (OfScalar (within (pos 1) floors))
    ∷ image_read (codes "LEVEL") CarPrograms (OfScalar (plain Boolean))
    ∷ image_read (codes "TOP") CarPrograms (OfScalar (plain Boolean))
    ∷ image_read (codes "BOTTOM") CarPrograms (OfScalar (plain Boolean))
    ∷ image_read (codes "LOCKED") CarPrograms (OfScalar (plain Boolean))
    ∷ image_read (codes "OPENED") CarPrograms (OfScalar (plain Boolean))
    ∷ image_read (codes "CPOS") GroupPrograms (row_of cars (within (pos 1) floors))
    ∷ image_read (codes "CMOTOR") GroupPrograms (row_of cars (within (negsuc 0) (pos 1)))
    ∷ image_read (codes "CALLWAITS") Everybody (row_of slots (plain Boolean))
    ∷ image_read (codes "CALLFROM") Everybody (row_of slots (within (pos 0) floors))
    ∷ image_read (codes "CALLTO") Everybody (row_of slots (within (pos 0) floors))
    ∷ image_read (codes "CALLCAR") Everybody (row_of slots (within (pos 0) cars))
    ∷ image_written (codes "MOTOR") CarPrograms (OfScalar (within (negsuc 0) (pos 1)))
    ∷ image_written (codes "OPEN") CarPrograms (OfScalar (plain Boolean))
    ∷ image_written (codes "SERVE") CarPrograms (OfScalar (within (pos 0) slots))
    ∷ image_written (codes "ASSIGN") GroupPrograms (row_of slots (within (pos 0) cars))
    ∷ []

-- the image name of this spelling
unfoldable pub image_name : Config → Spelling → Option ImageName
image_name config name = find (λ i. bytes_eq i.variable.name name) (image_of config.cars.value config.floors.value config.slots.value)

-- the names that no text declares again (own rule)
abbrev pub is_predeclared : Config → Spelling → Bool
is_predeclared config name = is_some (image_name config name) || is_some (standard_function name) || is_some (standard_block name)

-- the unit of a name: the first with it; a unit with a predeclared name is none (2.5)
abbrev pub unit_named : Config → Spelling → Option ProgramUnit
unit_named config name = if is_predeclared config name then None else find (λ u. bytes_eq u.name.name name) config.units

-- whether a kind is a function's (2.5.1)
abbrev pub is_function_kind : UnitKind → Bool
is_function_kind (Function scalar place) = true
is_function_kind FunctionBlock = false
is_function_kind Program = false

-- whether a kind is a function block's (2.5.2)
abbrev pub is_function_block_kind : UnitKind → Bool
is_function_block_kind (Function scalar place) = false
is_function_block_kind FunctionBlock = true
is_function_block_kind Program = false

-- whether a kind is a program's (2.5.3)
abbrev pub is_program_kind : UnitKind → Bool
is_program_kind (Function scalar place) = false
is_program_kind FunctionBlock = false
is_program_kind Program = true

-- whether a unit is a function (2.5.1)
abbrev pub is_function : ProgramUnit → Bool
is_function unit = is_function_kind unit.kind

-- whether a unit is a function block (2.5.2)
abbrev pub is_function_block : ProgramUnit → Bool
is_function_block unit = is_function_block_kind unit.kind

-- whether a unit is a program (2.5.3)
abbrev pub is_program : ProgramUnit → Bool
is_program unit = is_program_kind unit.kind

-- the own function of a name (2.5.1)
abbrev pub function_named : Config → Spelling → Option ProgramUnit
function_named config name = option_and_then (λ u. if is_function u then Some u else None) (unit_named config name)

-- the own function block of a name (2.5.2)
abbrev pub function_block_named : Config → Spelling → Option ProgramUnit
function_block_named config name = option_and_then (λ u. if is_function_block u then Some u else None) (unit_named config name)

-- the program of a name (2.5.3)
abbrev pub program_named : Config → Spelling → Option ProgramUnit
program_named config name = option_and_then (λ u. if is_program u then Some u else None) (unit_named config name)

-- the variables of declarations, each name with the declared type (2.4.3)
abbrev pub named_forms : List Declaration → List (Spelling × Form)
named_forms declarations = flat_map (λ d. map (λ n. (n.name, d.declared.form)) d.names) declarations

-- the variables of an own block
abbrev pub own_block_variables : ProgramUnit → BlockVariables
own_block_variables unit = record { inputs = named_forms unit.inputs; outputs = named_forms unit.outputs; inner = named_forms unit.variables }

-- the variables of the block of a name, standard or own; none where the name is no block's (2.5.2)
unfoldable pub block_variables : Config → Spelling → Option BlockVariables
block_variables config name = or_else (option_map standard_variables (standard_block name)) (option_map own_block_variables (function_block_named config name))

-- variables of one list of a unit
abbrev pub with_origin : Origin → List Declaration → List Variable
with_origin origin declarations = map (λ v. record { name = v.0; form = v.1; origin = origin }) (named_forms declarations)

-- a function's variable of its own name, which is its result (2.5.1)
abbrev pub result_of : UnitKind → Spelling → List Variable
result_of (Function scalar place) name = record { name = name; form = OfScalar scalar; origin = AsResult } ∷ []
result_of FunctionBlock name = []
result_of Program name = []

-- the variables that a unit declares (2.4.3)
abbrev pub variables_of : ProgramUnit → List Variable
variables_of unit =
    result_of unit.kind unit.name.name
    ++ with_origin AsInput unit.inputs
    ++ with_origin AsOutput unit.outputs
    ++ with_origin AsVariable unit.variables
    ++ with_origin AsExternal unit.externals

-- the variable of a unit under a name: the first with it
abbrev pub own_variable : ProgramUnit → Spelling → Option Variable
own_variable unit name = find (λ v. bytes_eq v.name name) (variables_of unit)

-- the value of decimal digits after those already read; none where another byte is among them
abbrev pub decimal_value : ℕ → Spelling → Option ℕ
decimal_value total [] = Some total
decimal_value total (b ∷ bs) = if is_ascii_digit b then decimal_value (total * 10 + (b - 48)) bs else None

-- a car's number, without a leading zero
abbrev pub car_digits : Spelling → Option ℕ
car_digits [] = None
car_digits (b ∷ bs) = if b == 48 then None else decimal_value 0 (b ∷ bs)

-- the number k of a task name CARk (own rule)
abbrev pub car_number : Spelling → Option ℕ
car_number name = if bytes_eq (take 3 name) (codes "CAR") then car_digits (drop 3 name) else None

-- the role of a task name in a group of so many cars; none where it names no task of the group (own rule)
abbrev pub task_role : ℤ → Spelling → Option Role
task_role cars name = if bytes_eq name (codes "GROUP") then Some GroupRole else option_and_then (λ k. if int_le (pos k) cars then Some CarRole else None) (car_number name)

-- the role that a PROGRAM line gives to the program of a name
abbrev pub role_from : Config → Spelling → ProgramLine → Option Role
role_from config name line = if bytes_eq line.program.name name then task_role config.cars.value line.task.name else None

-- the role of a program: that of the first PROGRAM line that gives it one (own rule)
abbrev pub program_role : Config → Spelling → List ProgramLine → Option Role
program_role config name [] = None
program_role config name (line ∷ lines) = or_else (role_from config name line) (program_role config name lines)

-- whether programs of a role see what is meant for an audience; without a role they see all (own rule)
abbrev pub is_seen_by : Option Role → Audience → Bool
is_seen_by role Everybody = true
is_seen_by None CarPrograms = true
is_seen_by None GroupPrograms = true
is_seen_by (Some CarRole) CarPrograms = true
is_seen_by (Some CarRole) GroupPrograms = false
is_seen_by (Some GroupRole) CarPrograms = false
is_seen_by (Some GroupRole) GroupPrograms = true

-- whether a unit sees an image name: programs alone do, each those of its role (own rule)
abbrev pub sees : Config → ProgramUnit → ImageName → Bool
sees config unit image = is_program unit && is_seen_by (program_role config unit.name.name config.programs) image.audience

-- what a name can mean
pub data Meaning : Type 0 where
  MeansVariable : Variable → Meaning
  MeansUnit : ProgramUnit → Meaning
  -- a standard function or block
  MeansStandard : Meaning

-- what an image name means in a unit
abbrev pub image_meaning : Config → ProgramUnit → ImageName → Option Meaning
image_meaning config unit image = if sees config unit image then Some (MeansVariable image.variable) else None

-- what a name means that is neither a variable of the unit nor an image name
abbrev pub global_meaning : Config → Spelling → Option Meaning
global_meaning config name = or_else (option_map MeansUnit (unit_named config name)) (if is_predeclared config name then Some MeansStandard else None)

-- what a name means that is no variable of the unit
abbrev pub outer_meaning : Config → ProgramUnit → Spelling → Option ImageName → Option Meaning
outer_meaning config unit name (Some image) = image_meaning config unit image
outer_meaning config unit name None = global_meaning config name

-- what a name means in the body of a unit; none where it is unknown there (2.4.3)
unfoldable pub meaning : Config → ProgramUnit → Spelling → Option Meaning
meaning config unit name = or_else (option_map MeansVariable (own_variable unit name)) (outer_meaning config unit name (image_name config name))

-- the variable that a name means
abbrev pub meant_variable : Option Meaning → Option Variable
meant_variable (Some (MeansVariable v)) = Some v
meant_variable (Some (MeansUnit u)) = None
meant_variable (Some MeansStandard) = None
meant_variable None = None

-- the variable that a name means in a unit
abbrev pub variable_named : Config → ProgramUnit → Spelling → Option Variable
variable_named config unit name = meant_variable (meaning config unit name)

-- the type of the variable that a name means in a unit
abbrev pub form_named : Config → ProgramUnit → Spelling → Option Form
form_named config unit name = option_map (λ v. v.form) (variable_named config unit name)
