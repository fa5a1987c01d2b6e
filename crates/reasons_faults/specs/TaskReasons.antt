-- What is reported of tasks, PROGRAM lines and programs (24), of sizes (23), and of a jump back (35) (own rules).
use Rattle.std.specs.Prelude.{ℕ, ◌==◌, ◌&&◌, not, if◌then◌else◌, List, [], ◌∷◌, ◌++◌, map, flat_map, Option, Some, None, is_some, bytes_eq, codes, decimal}
use Rattle.il_syntax.specs.declared.tree.Config.{Config}
use Rattle.il_syntax.specs.declared.tree.Place.{Place}
use Rattle.il_syntax.specs.declared.tree.ProgramLine.{ProgramLine}
use Rattle.il_syntax.specs.declared.tree.Size.{Size}
use Rattle.il_syntax.specs.declared.tree.Task.{Task}
use Rattle.il_syntax.specs.declared.tree.Unit.{Unit as ProgramUnit}
use Rattle.il_statics.specs.declared.names.Role.{Role}
use Rattle.il_statics.specs.declared.names.Role.TheVariants.{Car, Group}
use Rattle.il_statics.specs.Names.{Spelling, is_one_of, is_program, program_role, task_role}
use Rattle.load_scope.specs.Views.{program_number}
use Rattle.il_statics.specs.Declarations.{names_of_tasks}

-- LINES

-- `NAME is no task of this group`
unfoldable pub foreign_line : Spelling → List ℕ
foreign_line name = name ++ codes " is no task of this group: its tasks are CAR1 up to CARS, and perhaps GROUP\n"

-- `NAME has no TASK line`
unfoldable pub no_task_line : Spelling → List ℕ
no_task_line name = name ++ codes " has no TASK line\n"

-- `NAME has no PROGRAM line`
unfoldable pub no_program_line : Spelling → List ℕ
no_program_line name = name ++ codes " has no PROGRAM line\n"

-- `NAME has a PROGRAM line already, in line N`
unfoldable pub second_line : Spelling → ℕ → List ℕ
second_line name line = name ++ (codes " has a PROGRAM line already, in line " ++ (decimal line ++ codes "\n"))

-- `NAME is no program`
unfoldable pub no_such_line : Spelling → List ℕ
no_such_line name = name ++ codes " is no program\n"

-- a program that runs for GROUP, or for a car
unfoldable pub group_line : Spelling → List ℕ
group_line name = name ++ codes " is the program of GROUP, so it is that of no car\n"

unfoldable pub car_line : Spelling → List ℕ
car_line name = name ++ codes " is the program of a car, so it is not that of GROUP\n"

-- `NAME is a program that no PROGRAM line names`
unfoldable pub unused_line : Spelling → List ℕ
unused_line name = name ++ codes " is a program that no PROGRAM line names\n"

-- 24: TASKS

-- a TASK line: its task is none of the group's
abbrev pub foreign_by : Spelling → Option Role → List ℕ
foreign_by name None = foreign_line name
foreign_by name (Some role) = []

abbrev pub foreign_lines : Config → ℕ → Task → List ℕ
foreign_lines c offset t = if t.place.offset == offset then foreign_by t.name.name (task_role c.cars.value t.name.name) else []

-- at END_RESOURCE a task without a PROGRAM line
abbrev pub idle_lines : Config → ℕ → Task → List ℕ
idle_lines c offset t = if c.end_resource.offset == offset then (if is_one_of (map (λ (l : ProgramLine). l.task.name) c.programs) t.name.name then [] else no_program_line t.name.name) else []

abbrev pub task_lines : Config → ℕ → Task → List ℕ
task_lines c offset t = foreign_lines c offset t ++ idle_lines c offset t

-- a PROGRAM line: its task has no TASK line
abbrev pub unknown_task_lines : Config → ProgramLine → List ℕ
unknown_task_lines c l = if is_one_of (names_of_tasks c) l.task.name then [] else no_task_line l.task.name

-- the first PROGRAM line of a task
abbrev pub first_place : List ProgramLine → Spelling → Option Place
first_place [] name = None
first_place (l ∷ lines) name = if bytes_eq l.task.name name then Some l.place else first_place lines name

-- there is an earlier one
abbrev pub second_by : Spelling → ℕ → Option Place → List ℕ
second_by name offset None = []
second_by name offset (Some first) = if first.offset == offset then [] else second_line name first.line

abbrev pub second_lines : Config → ProgramLine → List ℕ
second_lines c l = second_by l.task.name l.place.offset (first_place c.programs l.task.name)

-- its program is none
abbrev pub no_such_by : Spelling → Option ℕ → List ℕ
no_such_by name None = no_such_line name
no_such_by name (Some number) = []

abbrev pub no_such_lines : Config → ProgramLine → List ℕ
no_such_lines c l = no_such_by l.program.name (program_number c l.program.name)

-- its task and its program are of different roles
abbrev pub role_by : Spelling → Option Role → Option Role → List ℕ
role_by name None program = []
role_by name (Some task) None = []
role_by name (Some Car) (Some Car) = []
role_by name (Some Car) (Some Group) = group_line name
role_by name (Some Group) (Some Car) = car_line name
role_by name (Some Group) (Some Group) = []

abbrev pub role_lines : Config → ProgramLine → List ℕ
role_lines c l = role_by l.program.name (task_role c.cars.value l.task.name) (program_role c l.program.name c.programs)

-- all of a PROGRAM line
abbrev pub wrong_lines : Config → ProgramLine → List ℕ
wrong_lines c l = unknown_task_lines c l ++ (second_lines c l ++ (no_such_lines c l ++ role_lines c l))

abbrev pub program_lines : Config → ℕ → ProgramLine → List ℕ
program_lines c offset l = if l.place.offset == offset then wrong_lines c l else []

-- the names of the tasks that cars can have
unfoldable pub car_words : List Spelling
car_words = codes "CAR1" ∷ codes "CAR2" ∷ codes "CAR3" ∷ codes "CAR4" ∷ codes "CAR5" ∷ codes "CAR6" ∷ codes "CAR7" ∷ codes "CAR8" ∷ []

-- a car of the group without a TASK line
abbrev pub missing_car : Config → Spelling → List ℕ
missing_car c name = if is_some (task_role c.cars.value name) && not (is_one_of (names_of_tasks c) name) then no_task_line name else []

-- at END_RESOURCE each of them
abbrev pub missing_lines : Config → ℕ → List ℕ
missing_lines c offset = if c.end_resource.offset == offset then flat_map (missing_car c) car_words else []

-- a program that no PROGRAM line names, at its heading
abbrev pub unused_lines : Config → ℕ → ProgramUnit → List ℕ
unused_lines c offset u =
    if u.place.offset == offset then (if is_program u && not (is_one_of (map (λ (l : ProgramLine). l.program.name) c.programs) u.name.name) then unused_line u.name.name else []) else []

-- all at a place
abbrev pub bad_task_lines : Config → ℕ → List ℕ
bad_task_lines c offset =
    flat_map (task_lines c offset) c.tasks ++ (flat_map (program_lines c offset) c.programs ++ (missing_lines c offset ++ flat_map (unused_lines c offset) c.units))

-- 23: SIZES

-- the limits of a size whose number is at a place
abbrev pub size_lines : List ℕ → ℕ → Size → List ℕ
size_lines line offset s = if s.place.offset == offset then line else []

abbrev pub sizes_lines : Config → ℕ → List ℕ
sizes_lines c offset =
    size_lines (codes "CARS is from 1 to 8\n") offset c.cars ++ (size_lines (codes "FLOORS is from 2 to 16\n") offset c.floors ++ size_lines (codes "SLOTS is from 1 to 64\n") offset c.slots)

-- 35: A JUMP BACK

unfoldable pub backward_line : List ℕ
backward_line = codes "a label comes after each jump to it: there are no loops\n"
