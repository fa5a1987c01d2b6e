-- What a verified configuration shows: its tasks, and what its units cost (own rules).
use Rattle.std.specs.Prelude.{◌≡◌, ℕ, zero, suc, ◌+◌, ◌-◌, Bool, ◌&&◌, List, [], ◌∷◌, ℤ, Option, Some, find, option_map, option_and_then, nat_le, bytes_eq, refl}
use Rattle.std.specs.List.{filter_map}
use Rattle.std.specs.Coded.{Coded, code_by, coded×, coded_list, coded_ℕ, coded_ℤ}
use Rattle.il_syntax.specs.declared.tree.Unit.{Unit as Organized}
use Rattle.il_syntax.specs.declared.tree.Task.{Task}
use Rattle.il_syntax.specs.declared.tree.ProgramLine.{ProgramLine}
use Rattle.load_budgets.specs.Costs.{UnitCost}
use Rattle.scan_task.specs.declared.verified.UnitInfo.{UnitInfo}
use Rattle.scan_task.specs.declared.verified.TaskInfo.{TaskInfo}
use Rattle.base_maps.specs.NameMap.{Text}
use Rattle.il_semantics.specs.Paths.{IsLongest}
use Rattle.group_spec.specs.Limits.{most_cars}
use Rattle.group_spec.specs.Snapshot.{task_name, program_of}
use Rattle.group_laws.specs.Tasks.{IsTaskOf}
use Rattle.scan_task.specs.Scanning.{Program}

-- UNITS

-- a unit, the greatest cost of its control paths, and the lines of one of that cost (own rule)
pub record UnitLine : Type 0 where
  pub name : Text
  pub cost : ℕ
  pub path : List ℕ

-- its code
abbrev pub unit_line_code : Coded UnitLine
unit_line_code =
    code_by (Text × (ℕ × List ℕ)) (coded× (coded_list coded_ℕ) (coded× coded_ℕ (coded_list coded_ℕ))) (λ l. (l.name, (l.cost, l.path)))
    (λ c. record { name = c.0; cost = c.1.0; path = c.1.1 }) (λ _. refl)

-- a unit with its cost (own rule)
abbrev pub unit_line : Organized → UnitCost → UnitLine
unit_line u c = record { name = u.name.name; cost = c.cost; path = c.path }

-- each unit with its cost, in the order of the text, to the end of the shorter list (own rule)
abbrev pub unit_lines : List Organized → List UnitCost → List UnitLine
unit_lines [] costs = []
unit_lines (u ∷ us) [] = []
unit_lines (u ∷ us) (c ∷ cs) = unit_line u c ∷ unit_lines us cs

-- each unit with its cost and its path, to the end of the shortest list (own rule)
abbrev pub lines_with : List Organized → List ℕ → List (List ℕ) → List UnitLine
lines_with [] costs paths = []
lines_with (u ∷ us) [] paths = []
lines_with (u ∷ us) (c ∷ cs) [] = []
lines_with (u ∷ us) (c ∷ cs) (p ∷ ps) = record { name = u.name.name; cost = c; path = p } ∷ lines_with us cs ps

-- what is shown of a unit (own rule)
abbrev pub unit_shown : UnitInfo → UnitLine
unit_shown u = record { name = u.name.now; cost = u.cost; path = u.path.now }

-- TASKS

-- a task, the name on its PROGRAM line, and the greatest number of instructions of a scan (own rule)
pub record TaskLine : Type 0 where
  pub name : Text
  pub interval : ℤ
  pub priority : ℤ
  pub program : Text
  pub budget : ℕ

-- its code
abbrev pub task_line_code : Coded TaskLine
task_line_code =
    code_by (Text × (ℤ × (ℤ × (Text × ℕ)))) (coded× (coded_list coded_ℕ) (coded× coded_ℤ (coded× coded_ℤ (coded× (coded_list coded_ℕ) coded_ℕ))))
    (λ l. (l.name, (l.interval, (l.priority, (l.program, l.budget)))))
    (λ c. record { name = c.0; interval = c.1.0; priority = c.1.1.0; program = c.1.1.1.0; budget = c.1.1.1.1 }) (λ _. refl)

-- whether a name is that of a task: GROUP is 0, CARk is k, from 1 on (own rule)
abbrev pub is_task_name : Text → ℕ → Bool
is_task_name name number = nat_le number most_cars && bytes_eq name (task_name number)

-- the first TASK line of a task (own rule)
abbrev pub task_of : List Task → ℕ → Option Task
task_of tasks number = find (λ t. is_task_name t.name.name number) tasks

-- the first PROGRAM line that names a task (own rule)
abbrev pub program_line_of : List ProgramLine → ℕ → Option ProgramLine
program_line_of lines number = find (λ l. is_task_name l.task.name number) lines

-- the first unit of a name, with its cost (own rule)
abbrev pub unit_of : List UnitLine → Text → Option UnitLine
unit_of units name = find (λ u. bytes_eq u.name name) units

-- a task as its TASK line, its PROGRAM line and that line's unit give it (own rule)
abbrev pub task_by : Task → ProgramLine → UnitLine → TaskLine
task_by t l u = record { name = t.name.name; interval = t.interval; priority = t.priority; program = l.name.name; budget = u.cost }

-- the task of a number, where its TASK line, its PROGRAM line and that line's unit are there (own rule)
unfoldable pub task_among : List Task → List ProgramLine → List UnitLine → ℕ → Option TaskLine
task_among tasks lines units number =
    option_and_then (λ t. option_and_then (λ l. option_map (task_by t l) (unit_of units l.program.name)) (program_line_of lines number)) (task_of tasks number)

-- the same of a verified configuration (own rule)
abbrev pub task_line : Program → ℕ → Option TaskLine
task_line p number = task_among p.config.tasks p.config.programs (unit_lines p.config.units p.costs) number

-- the tasks of some numbers, those that are there (own rule)
abbrev pub tasks_of : Program → List ℕ → List TaskLine
tasks_of p numbers = filter_map (task_line p) numbers

-- The last so many of all tasks: CAR1 comes first, and GROUP last (own rule).
abbrev pub last_tasks : ℕ → List ℕ
last_tasks zero = []
last_tasks (suc zero) = 0 ∷ []
last_tasks (suc (suc k)) = (most_cars - k) ∷ last_tasks (suc k)

-- all tasks that there may be, in that order
abbrev pub task_order : List ℕ
task_order = last_tasks (1 + most_cars)

-- the tasks in that order, those that are there (own rule)
abbrev pub task_lines : Program → List TaskLine
task_lines p = tasks_of p task_order

-- what is shown of a task (own rule)
abbrev pub task_shown : TaskInfo → TaskLine
task_shown t = record { name = t.name.now; interval = t.interval; priority = t.priority; program = t.program.now; budget = t.budget }

-- The budget that is printed of a task is the greatest cost of a control path of its program.
abbrev pub PrintsBudgets : Program → Type 0
PrintsBudgets p = (task : ℕ) (line : TaskLine) (u : Organized) → task_line p task ≡ Some line → program_of p.config task ≡ Some u → IsLongest p.config u line.budget

-- Each task of the group is among those that are listed.
abbrev pub ListsTasks : Program → Type 0
ListsTasks p = (task : ℕ) (u : Organized) → IsTaskOf p.config task u → (line : TaskLine) × (task_line p task ≡ Some line)
