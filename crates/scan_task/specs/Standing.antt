-- Where a store's scan is, and whole scans, as the definitions see them (own rules).
use Rattle.std.specs.Prelude.{◌≡◌, ℕ, ◌≤◌, List, [], All, length, Option, Some, None, refl}
use Rattle.std.specs.Coded.{Coded, code_by, coded×, coded_ℕ}
use Rattle.il_syntax.specs.declared.tree.Config.{Config}
use Rattle.il_syntax.specs.contracts.tree.Config as config
use Rattle.il_syntax.specs.declared.tree.Unit.{Unit as ProgramUnit}
use Rattle.base_maps.specs.NameMap.{empty}
use Rattle.il_semantics.specs.State.{Values, State}
use Rattle.il_semantics.specs.Ranges.{HoldGlobals}
use Rattle.il_semantics.specs.Scan.{Reaches, opening_variables, restricted}
use Rattle.load_slots.specs.Layout.{Rows}
use Rattle.group_spec.specs.declared.calls.Slot.{Slot}
use Rattle.group_spec.specs.declared.image.Image.{Image}
use Rattle.group_spec.specs.Calls.{SlotInRange}
use Rattle.group_spec.specs.Image.{sizes_of, FieldsInRange}
use Rattle.group_spec.specs.Snapshot.{Beginning, program_of, scan_begins}
use Rattle.group_spec.specs.World.{snapshot_of, opening_group}
use Rattle.group_spec.specs.WorldCodes.{state_code}
use Rattle.scan_task.specs.Scanning.{IsRunnable, HasTask, FitsOwn, OwnsDeclared, variables_in}
use Rattle.scan_task.specs.Sharing.{globals_in, FitsGlobals}
use Rattle.scan_task.specs.declared.store.Begin.{Begin}

-- a scan of a task of a configuration, and where it is
pub record Standing : Type 0 where
  pub config : Config
  pub task : ℕ
  pub state : State

-- its code
abbrev pub standing_code : Coded Standing
standing_code =
    code_by (Config × (ℕ × State)) (coded× config.the_row.coded (coded× coded_ℕ state_code)) (λ s. (s.config, (s.task, s.state))) (λ c. record { config = c.0; task = c.1.0; state = c.1.1 }) (λ _. refl)

-- it is of this task of this configuration
abbrev pub IsOf : Config → ℕ → Standing → Type 0
IsOf c task s = (s.config ≡ c) × (s.task ≡ task)

-- it is where a scan begins, with some variables and in some snapshot
pub record IsAtStart (s : Standing) : Type 0 where
  pub beginning : Beginning
  pub begins : s.state ≡ scan_begins s.config s.task beginning

-- a state still has these values of a task's variables
abbrev pub StillHas : Values → State → Type 0
StillHas variables s = restricted variables s.values ≡ variables

-- BEGINNINGS

-- the variables with which a task opens; none where there is no such task
abbrev pub opening_variables_by : Config → Option ProgramUnit → Values
opening_variables_by c None = empty
opening_variables_by c (Some u) = opening_variables c u

-- what a task's scan begins with in the opening world
abbrev pub opening_beginning : Config → ℕ → Beginning
opening_beginning c task = record { variables = opening_variables_by c (program_of c task); snapshot = snapshot_of (opening_group c) }

-- what a scan begins with: a task's variables, and the image, call slots and globals that it sees
abbrev pub beginning_with : Config → ℕ → Rows → Image → List Slot → Rows → Beginning
beginning_with c task variables image slots globals = record { variables = variables_in c task variables; snapshot = record { image = image; slots = slots; globals = globals_in c globals } }

-- what is lent to a scan's start
abbrev pub beginning_in : Config → ℕ → Begin → Beginning
beginning_in c task b = beginning_with c task b.variables.now b.image.now b.calls.now.slots b.globals.now

-- it fits the task, and lies in its ranges
pub record IsBeginning (c : Config) (task : ℕ) (b : Begin) : Type 0 where
  pub variables : FitsOwn c task b.variables.now
  pub own : OwnsDeclared c task (variables_in c task b.variables.now)
  pub globals : FitsGlobals c b.globals.now
  pub shared : HoldGlobals c (globals_in c b.globals.now)
  pub fields : FieldsInRange (sizes_of c) b.image.now.fields
  pub outputs : length b.image.now.outputs ≡ (sizes_of c).cars
  pub slots : length b.calls.now.slots ≡ (sizes_of c).slots
  pub each : (last : ℕ) × All (SlotInRange (sizes_of c) last) b.calls.now.slots

-- WHOLE SCANS

-- a scan that was run to its end: where it began, and where it ended
pub record Finished : Type 0 where
  pub config : Config
  pub task : ℕ
  pub first : State
  pub last : State

-- its code
abbrev pub finished_code : Coded Finished
finished_code =
    code_by (Config × (ℕ × (State × State))) (coded× config.the_row.coded (coded× coded_ℕ (coded× state_code state_code))) (λ f. (f.config, (f.task, (f.first, f.last))))
    (λ c. record { config = c.0; task = c.1.0; first = c.1.1.0; last = c.1.1.1 }) (λ _. refl)

-- where it is at its end
abbrev pub at_its_end : Finished → Standing
at_its_end f = record { config = f.config; task = f.task; state = f.last }

-- It is the scan of its task from a beginning to its end.
pub record IsScan (f : Finished) : Type 0 where
  pub runnable : IsRunnable f.config
  pub there : HasTask f.config f.task
  pub begins : IsAtStart record { config = f.config; task = f.task; state = f.first }
  pub count : ℕ
  pub some : 1 ≤ count
  pub reaches : Reaches f.config count f.first f.last
  pub ended : f.last.frames ≡ []

-- Task, program, variables and snapshot of the scan are those of a store at a scan's start. Where a scan begins there are just the
-- values of its variables and of its snapshot, a frame at the first place and no result.
pub record BeganAs (f : Finished) (s : Standing) : Type 0 where
  pub same_program : f.config ≡ s.config
  pub same_task : f.task ≡ s.task
  pub same_values : f.first ≡ s.state
