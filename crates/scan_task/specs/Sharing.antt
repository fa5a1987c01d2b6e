-- What a task shares of the globals (own rules).
use Rattle.std.specs.Prelude.{◌≡◌, ℕ, zero, suc, ◌+◌, ◌-◌, ◌*◌, ◌<◌, ◌==◌, ◌||◌, Bool, is_some, if◌then◌else◌, List, [], ◌∷◌, map, filter, flat_map, take, drop, length, slice_get, Option, Some}
use Rattle.il_syntax.specs.declared.tree.Config.{Config}
use Rattle.il_syntax.specs.declared.tree.Step.{Step}
use Rattle.il_syntax.specs.declared.tree.Unit.{Unit as ProgramUnit}
use Rattle.base_maps.specs.NameMap.{Text}
use Rattle.il_semantics.specs.State.{Values}
use Rattle.il_semantics.specs.Meaning.{entities}
use Rattle.il_semantics.specs.Scan.{program_of as line_program}
use Rattle.load_scope.specs.StoredNames.{is_stored}
use Rattle.load_slots.specs.declared.flat.Cell.{Cell}
use Rattle.load_slots.specs.Cells.{entity_cells, instance_cells}
use Rattle.load_slots.specs.Flattened.{place_or_zero}
use Rattle.load_slots.specs.Layout.{Rows, Fits, view}
use Rattle.load_slots.specs.Paths.{slot_at}
use Rattle.load_slots.specs.Program.{program_cells, global_cells}
use Rattle.load_slots.specs.Whole.{number_in}
use Rattle.group_spec.specs.declared.image.Sizes.{Sizes}
use Rattle.group_spec.specs.Limits.{most_cars}
use Rattle.group_laws.specs.Tasks.{IsTaskOf}
use Rattle.scan_task.specs.declared.sharing.Transfer.{Transfer}
use Rattle.scan_task.specs.declared.plans.TaskPlan.{TaskPlan}
use Rattle.scan_image.specs.Image.{with_slot}
use Rattle.scan_image.specs.declared.image.TheConstants.{CAR_VALUES}
use Rattle.scan_task.specs.Starting.{shared_value}

-- GLOBALS

-- the globals that rows hold
abbrev pub globals_in : Config → Rows → Values
globals_in c r = view (global_cells c) r

-- a row for each slot of the globals
abbrev pub FitsGlobals : Config → Rows → Type 0
FitsGlobals c r = Fits (global_cells c) r

-- EXTERNALS

-- the slots of the externals of a program, as it lists them
abbrev pub external_cells : Config → ProgramUnit → List Cell
external_cells c u = entity_cells (instance_cells zero c) [] (entities u.externals)

-- how many slots of the image a task sees; they follow the externals
abbrev pub image_count : Sizes → ℕ → ℕ
image_count z zero = 6 + 4 * z.slots + (2 * z.cars + z.slots)
image_count z (suc k) = 6 + 4 * z.slots + CAR_VALUES

-- the cells after the first ones and before the last ones
abbrev pub between : ℕ → ℕ → List Cell → List Cell
between first last cells = take (length (drop first cells) - last) (drop first cells)

-- the slot that a cell's variable has among others; 0 where it has none
abbrev pub slot_in : List Cell → Cell → ℕ
slot_in cells x = place_or_zero (slot_at cells x.path)

-- STORES

-- the name of the variable of a path: what comes before the index
abbrev pub base_name : Text → Text
base_name [] = []
base_name (b ∷ bs) = if b == 91 then [] else b ∷ base_name bs

-- whether a body stores into the variable of a cell
abbrev pub stores_cell : List Step → Cell → Bool
stores_cell steps x = is_stored steps (base_name x.path)

-- from the slot that a variable has in a task to the one that it has among the globals
abbrev pub transfer : List Cell → List Cell → Cell → Transfer
transfer cells globals x = record { from = slot_in cells x; to = slot_in globals x }

-- the transfers of what a body stores into, of some variables
abbrev pub transfers : List Step → List Cell → List Cell → List Cell → List Transfer
transfers steps cells globals xs = map (transfer cells globals) (filter (stores_cell steps) xs)

-- rows that take values from those of a task's cells
abbrev pub taken : Rows → Rows → List Cell → List Transfer → Rows
taken r from cells [] = r
taken r from cells (t ∷ ts) = taken (with_slot r t.to (shared_value cells from t.from)) from cells ts

-- TASKS AS THEY RUN

-- What is known of a task as it runs: its PROGRAM line, its program's number, and the slots of what it shares of the globals.
pub record IsPlan (c : Config) (u : ProgramUnit) (s : TaskPlan) : Type 0 where
  pub within : s.line < length c.programs
  pub line : line_program c (slice_get c.programs s.line) ≡ Some u
  pub stands : slice_get c.units s.unit ≡ Some u
  pub first : s.unit ≡ number_in c.units u.name.name
  pub listed : s.listed ≡ map (slot_in (global_cells c)) (external_cells c u)
  pub written : s.written ≡ transfers u.body.steps (program_cells c u) (global_cells c) (external_cells c u)

-- of a task that is there
abbrev pub IsPlanOf : Config → ℕ → Option TaskPlan → Type 0
IsPlanOf c task o = (u : ProgramUnit) → IsTaskOf c task u → (s : TaskPlan) × (o ≡ Some s) × IsPlan c u s

-- those of the tasks, by their numbers
pub record ArePlans (c : Config) (plans : List (Option TaskPlan)) : Type 0 where
  pub count : length plans ≡ 1 + most_cars
  pub each : (task : ℕ) (o : Option TaskPlan) → slice_get plans task ≡ Some o → IsPlanOf c task o
