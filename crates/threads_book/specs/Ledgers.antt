-- What a book keeps, as the world beside its journal, and which fault it answers (own rules).
use Rattle.std.specs.Prelude.{◌≡◌, ℕ, ◌≤◌, Bool, true, false, List, [], ◌∷◌, length, Option, Some, None, Result, Ok, Err, is_some, slice_get, ◌==◌, if◌then◌else◌, vec_capacity}
use Rattle.il_syntax.specs.declared.tree.Config.{Config}
use Rattle.il_semantics.specs.State.{State}
use Rattle.scan_task.specs.Scanning.{IsRunnable}
use Rattle.scan_task.specs.Standing.{Standing, Finished, IsAtStart}
use Rattle.group_spec.specs.declared.image.Fields.{Fields}
use Rattle.group_spec.specs.Image.{sizes_of, fields_in_range}
use Rattle.group_spec.specs.Snapshot.{scan_begins}
use Rattle.group_spec.specs.World.{World, TaskState, flat, scan_at, task_at, beginning_of}
use Rattle.group_world.specs.Groups.{world_by, StoresFit}
use Rattle.group_journal.specs.declared.fault.StationFault.{StationFault}
use Rattle.group_journal.specs.declared.fault.StationFault.TheVariants.{FieldOutOfRange, JournalFull, NotOpen, AlreadyOpen}
use Rattle.group_journal.specs.Pages.{Page, Kept}
use Rattle.threads_book.specs.declared.ledger.Ledger.{Ledger}

-- the world of a ledger: no call is on the desk or in the hand
abbrev pub world_of : Ledger → World
world_of l = world_by l.core.group l.stores.items [] []

-- the world beside its journal
abbrev pub page_of : Ledger → Page
page_of l = record { config = l.program.value.config; capacity = l.capacity; journal = l.journal.items; world = world_of l }

-- What holds of every ledger: there is a store for each task, the open scan of each task is at its start, and its journal leads
-- to its world.
pub record IsLedger (l : Ledger) : Type 0 where
  pub runnable : IsRunnable l.program.value.config
  pub same : l.core.config ≡ l.program.value.config
  pub stores : StoresFit l.program.value.config l.core.group.tasks l.stores.items
  pub starts : (t : ℕ) (scan : State) (s : Standing) → scan_at (world_of l) t ≡ Some scan → flat (slice_get l.stores.items t) ≡ Some s → IsAtStart s
  pub kept : Kept (page_of l)
  pub reserved : l.capacity ≤ vec_capacity l.journal

-- FAULTS

-- the fault of an answer that gives back what was handed in
abbrev pub fault_of : {A B : Type 0} → Result A (StationFault × B) → Option StationFault
fault_of (Ok x) = None
fault_of (Err r) = Some r.0

-- the fault of another answer
abbrev pub fault_in : {A : Type 0} → Result A StationFault → Option StationFault
fault_in (Ok x) = None
fault_in (Err f) = Some f

-- 70 exactly where the journal is full
abbrev pub full_fault : Page → Option StationFault
full_fault b = if length b.journal == b.capacity then Some JournalFull else None

-- 72 where a scan of the task is open, and otherwise 70 where the journal is full
abbrev pub start_fault : Page → ℕ → Option StationFault
start_fault b t = if is_some (scan_at b.world t) then Some AlreadyOpen else full_fault b

-- 60 where a field is out of its range, and otherwise 70 where the journal is full
abbrev pub refresh_fault : Page → Fields → Option StationFault
refresh_fault b fields = if fields_in_range (sizes_of b.config) fields then full_fault b else Some FieldOutOfRange

-- WHAT IS OPEN

-- what is open of this task is this scan, by value: its program, its task, and what it began with
pub record IsOpenHere (b : Page) (task : ℕ) (f : Finished) : Type 0 where
  pub same_program : f.config ≡ b.config
  pub same_task : f.task ≡ task
  pub same_values : scan_at b.world task ≡ Some f.first

-- a scan begins with the task's variables and the snapshot as they are now
abbrev pub SnappedNow : Page → ℕ → State → Type 0
SnappedNow b t scan = (task : TaskState) × (task_at b.world.group t ≡ Some task) × (scan ≡ scan_begins b.config t (beginning_of b.world.group task))
