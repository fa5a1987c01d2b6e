-- What tasks and PROGRAM lines break (2.7.2; roles are own rules).
use Rattle.std.specs.Prelude.{◌≡◌, ℕ, Bool, true, false, not, ◌||◌, IsTrue, List, map, Option, Some, None, is_some, option_map, Contains}
use Rattle.il_syntax.specs.declared.tree.Config.{Config}
use Rattle.il_syntax.specs.declared.tree.Unit.{Unit as ProgramUnit}
use Rattle.il_syntax.specs.declared.tree.Task.{Task}
use Rattle.il_syntax.specs.declared.tree.ProgramLine.{ProgramLine}
use Rattle.il_syntax.specs.declared.tree.Place.{Place}
use Rattle.base_maps.specs.NameMap.{NameMap, get}
use Rattle.il_statics.specs.Names as rule
use Rattle.il_statics.specs.Names.{Spelling, is_one_of, is_program, program_named, program_role, task_role}
use Rattle.il_statics.specs.Declarations.{names_of_tasks}
use Rattle.il_statics.specs.Least.{When, Either}
use Rattle.il_statics.specs.declared.names.Role.{Role}
use Rattle.il_statics.specs.declared.names.Role.TheVariants.{Car, Group}

-- a table has these names
abbrev pub IsSet : {X : Type 0} → List Spelling → NameMap X → Type 0
IsSet names set = (name : Spelling) → is_some (get set name) ≡ is_one_of names name

-- a task is none of the group's, or has no PROGRAM line
abbrev pub TaskBreaks : Config → Task → ℕ → Place → Type 0
TaskBreaks config task =
    Either (When (task_role config.cars.value task.name.name ≡ None) 24 task.place) (When (¬ Contains (map (λ l. l.task.name) config.programs) task.name.name) 24 config.end_resource)

-- a PROGRAM line gives a program to a task of the other role
abbrev pub HasOtherRole : Config → ProgramLine → Type 0
HasOtherRole config line = (role : Role) × (task_role config.cars.value line.task.name ≡ Some role) × (program_role config line.program.name config.programs ≡ Some role → ⊥)

-- a PROGRAM line has no TASK line, names no program, or one of the other role
pub data BreaksLine (config : Config) (line : ProgramLine) : Type 0 where
  unknown_task : ¬ Contains (names_of_tasks config) line.task.name → BreaksLine config line
  unknown_program : program_named config line.program.name ≡ None → BreaksLine config line
  other_role_given : HasOtherRole config line → BreaksLine config line

-- a program is not among these
abbrev pub IsUnusedOf : List Spelling → ProgramUnit → Type 0
IsUnusedOf programs unit = IsTrue (is_program unit) × (¬ Contains programs unit.name.name)

-- whether a task has a role, and the program not that
abbrev pub other_role : Option Role → Option Role → Bool
other_role None program = false
other_role (Some Car) (Some Car) = false
other_role (Some Car) (Some Group) = true
other_role (Some Car) None = true
other_role (Some Group) (Some Group) = false
other_role (Some Group) (Some Car) = true
other_role (Some Group) None = true

-- the same of a PROGRAM line
abbrev pub has_other_role : Config → ProgramLine → Bool
has_other_role config line = other_role (task_role config.cars.value line.task.name) (program_role config line.program.name config.programs)

-- whether a PROGRAM line breaks a rule
abbrev pub is_wrong_line : Config → ProgramLine → Bool
is_wrong_line config line = not (is_one_of (names_of_tasks config) line.task.name) || not (is_some (program_named config line.program.name)) || has_other_role config line
