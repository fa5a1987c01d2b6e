-- Warnings: what a configuration declares and does not use, and what has no effect (own rules).
use Rattle.std.specs.Prelude.{ℕ, Bool, true, false, ◌&&◌, ◌||◌, if◌then◌else◌, List, [], ◌∷◌, ◌++◌, Option, Some, None, flat_map, bytes_eq, codes, decimal, is_some}
use Rattle.std.specs.List.{list_any}
use Rattle.std.specs.Ordering.{int_eq}
use Rattle.il_syntax.specs.declared.tree.Config.{Config}
use Rattle.il_syntax.specs.declared.tree.Unit.{Unit as ProgramUnit}
use Rattle.il_syntax.specs.declared.tree.UnitKind.{UnitKind}
use Rattle.il_syntax.specs.declared.tree.UnitKind.TheVariants.{Function, FunctionBlock, Program}
use Rattle.il_syntax.specs.declared.tree.Declaration.{Declaration}
use Rattle.il_syntax.specs.declared.tree.Form.{Form}
use Rattle.il_syntax.specs.declared.tree.Form.TheVariants.{Scalar as OfScalar, Array as OfArray, Block as OfBlock}
use Rattle.il_syntax.specs.declared.tree.ProgramLine.{ProgramLine}
use Rattle.il_syntax.specs.declared.tree.Step.{Step}
use Rattle.il_syntax.specs.declared.tree.Task.{Task}
use Rattle.il_statics.specs.Limits.{cars_limits}
use Rattle.il_statics.specs.Names.{Spelling, is_program}
use Rattle.load_scope.specs.Cars.{car_of}
use Rattle.show_names.specs.Names.{DeclaredName, declared_names}
use Rattle.show_names.specs.Uses.{is_used}
use Rattle.show_names.specs.Xref.{uses_global}
use Rattle.show_names.specs.declared.uses.Manner.TheVariants.{Read as IsRead, Written as IsWritten, Called as IsCalled}
use Rattle.show_names.specs.declared.never.Never.{Never}
use Rattle.show_names.specs.declared.never.Never.TheVariants.{Read, Written, Used, Called}
use Rattle.show_names.specs.declared.never.Origin.{Origin}
use Rattle.show_names.specs.declared.never.Origin.TheVariants.{Input, Output, Variable, External}

-- WHAT A NAME IS NEVER

-- of what is called, or declared as an instance
abbrev pub called_never : Bool → Option Never
called_never true = None
called_never false = Some Called

-- of a variable or a global, by whether it has an initial value, whether it is read, and whether it is written: an initial
-- value that is read and never written is a constant
abbrev pub variable_never : Bool → Bool → Bool → Option Never
variable_never has_initial true true = None
variable_never has_initial true false = if has_initial then None else Some Written
variable_never has_initial false true = Some Read
variable_never has_initial false false = Some Used

-- of an output, which goes to the caller: an initial value that is never written tells the caller nothing
abbrev pub output_never : Bool → Bool → Option Never
output_never read true = None
output_never true false = Some Written
output_never false false = Some Used

-- of a name that is no instance, by the list that declares it, and whether it has an initial value: an input comes from the
-- caller, and an external is written and read elsewhere too
abbrev pub never_of : Origin → Bool → Bool → Bool → Option Never
never_of Input has_initial read written = if read then None else Some Read
never_of Output has_initial read written = output_never read written
never_of Variable has_initial read written = variable_never has_initial read written
never_of External has_initial read written = if read || written then None else Some Used

-- of a declared name, by the steps of its unit
abbrev pub name_never : Origin → List Step → DeclaredName → Option Never
name_never origin steps n =
    if n.is_instance then called_never (is_used IsCalled n.name steps) else never_of origin n.has_initial (is_used IsRead n.name steps) (is_used IsWritten n.name steps)

-- of a global, by all units that list it
abbrev pub global_never : List ProgramUnit → DeclaredName → Option Never
global_never units n = variable_never n.has_initial (list_any (uses_global IsRead n.name) units) (list_any (uses_global IsWritten n.name) units)

-- the word of it
abbrev pub never_word : Never → List ℕ
never_word Read = codes "read"
never_word Written = codes "written"
never_word Used = codes "used"
never_word Called = codes "called"

-- `line 2: N is never read`
unfoldable pub never_line : ℕ → Spelling → Never → List ℕ
never_line line name never = codes "line " ++ (decimal line ++ (codes ": " ++ (name ++ (codes " is never " ++ (never_word never ++ codes "\n")))))

-- the same, if there is something to say
abbrev pub never_text : ℕ → Spelling → Option Never → List ℕ
never_text line name None = []
never_text line name (Some never) = never_line line name never

-- UNITS

-- whether a body calls a function
abbrev pub is_called : Config → Spelling → Bool
is_called config name = list_any (λ (u : ProgramUnit). is_used IsCalled name u.body.steps) config.units

-- whether a type is the function block of a name
abbrev pub is_block_of : Spelling → Form → Bool
is_block_of name (OfScalar scalar) = false
is_block_of name (OfArray bounds element) = false
is_block_of name (OfBlock block) = bytes_eq block name

-- whether declarations have an instance of a function block
abbrev pub have_instance : Spelling → List Declaration → Bool
have_instance name declarations = list_any (λ (d : Declaration). is_block_of name d.declared.form) declarations

-- whether a unit declares an instance of a function block
abbrev pub has_instance : Config → Spelling → Bool
has_instance config name = list_any (λ (u : ProgramUnit). have_instance name u.variables) config.units

-- whether a unit is called, or declared as an instance, as its kind asks for; a program that no PROGRAM line names is refused
abbrev pub is_needed : Config → UnitKind → Spelling → Bool
is_needed config (Function scalar place) name = is_called config name
is_needed config FunctionBlock name = has_instance config name
is_needed config Program name = true

-- whether a task is a car's
unfoldable pub is_car_task : Spelling → Bool
is_car_task name = is_some (car_of cars_limits.upper name)

-- whether a PROGRAM line gives a program to a car's task
abbrev pub drives_car : List ProgramLine → Spelling → Bool
drives_car lines name = list_any (λ (l : ProgramLine). bytes_eq l.program.name name && is_car_task l.task.name) lines

-- `line 1: COUNTS never stores MOTOR`
unfoldable pub unstored_line : ProgramUnit → Spelling → List ℕ
unstored_line unit name = codes "line " ++ (decimal unit.place.line ++ (codes ": " ++ (unit.name.name ++ (codes " never stores " ++ (name ++ codes "\n")))))

-- the same, where a unit stores no such output
abbrev pub unstored_text : ProgramUnit → Spelling → List ℕ
unstored_text unit name = if is_used IsWritten name unit.body.steps then [] else unstored_line unit name

-- what the program of a car does not store
abbrev pub outputs_text : Config → ProgramUnit → List ℕ
outputs_text config unit =
    if is_program unit && drives_car config.programs unit.name.name then unstored_text unit (codes "MOTOR") ++ unstored_text unit (codes "OPEN") else []

-- a declared name
abbrev pub name_text : Origin → List Step → DeclaredName → List ℕ
name_text origin steps n = never_text n.line n.name (name_never origin steps n)

-- the names that declarations give
abbrev pub names_text : Origin → List Step → List Declaration → List ℕ
names_text origin steps declarations = flat_map (name_text origin steps) (declared_names declarations)

-- a unit, its inputs, outputs, variables and externals, and what it does not store
abbrev pub unit_text : Config → ProgramUnit → List ℕ
unit_text config unit =
    never_text unit.place.line unit.name.name (called_never (is_needed config unit.kind unit.name.name))
    ++ (names_text Input unit.body.steps unit.inputs
    ++ (names_text Output unit.body.steps unit.outputs
    ++ (names_text Variable unit.body.steps unit.variables
    ++ (names_text External unit.body.steps unit.externals ++ outputs_text config unit))))

-- GLOBALS AND TASKS

-- a global
abbrev pub global_text : List ProgramUnit → DeclaredName → List ℕ
global_text units n = never_text n.line n.name (global_never units n)

-- whether two tasks have the same interval and the same priority
abbrev pub are_alike : Task → Task → Bool
are_alike task other = int_eq task.interval other.interval && int_eq task.priority other.priority

-- `line 33: INTERVAL and PRIORITY of CAR2 have no effect, each task runs once a round`
unfoldable pub task_line : Task → List ℕ
task_line task = codes "line " ++ (decimal task.place.line ++ (codes ": INTERVAL and PRIORITY of " ++ (task.name.name ++ codes " have no effect, each task runs once a round\n")))

-- the same, where a task is unlike the first
abbrev pub task_text : Task → Task → List ℕ
task_text first task = if are_alike first task then [] else task_line task

-- the tasks
abbrev pub tasks_text : List Task → List ℕ
tasks_text [] = []
tasks_text (first ∷ tasks) = flat_map (task_text first) (first ∷ tasks)

-- the whole text
abbrev pub warnings_text : Config → List ℕ
warnings_text config =
    flat_map (unit_text config) config.units
    ++ (flat_map (global_text config.units) (declared_names config.globals) ++ tasks_text config.tasks)
