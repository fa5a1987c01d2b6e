-- A group of a configuration, and where its scans are (own rules).
use Rattle.std.specs.Prelude.{◌≡◌, ℕ, ◌≤◌, Bool, false, List, [], ◌∷◌, map, length, slice_get, if◌then◌else◌, Option, Some, None, is_some, refl}
use Rattle.std.specs.Coded.{Coded, code_by, coded×}
use Rattle.il_syntax.specs.declared.tree.Config.{Config}
use Rattle.il_syntax.specs.contracts.tree.Config as config
use Rattle.il_semantics.specs.State.{State, Values}
use Rattle.il_semantics.specs.Scan.{Reaches}
use Rattle.scan_task.specs.Standing.{Standing, IsOf, StillHas}
use Rattle.group_spec.specs.Calls.{ticket_of}
use Rattle.group_spec.specs.Snapshot.{scan_begins}
use Rattle.group_spec.specs.World.{World, Group, TaskState, flat, task_at, beginning_of, committed_group}
use Rattle.group_spec.specs.WorldCodes.{group_code}
use Rattle.group_spec.specs.declared.calls.Call.{Call}
use Rattle.group_spec.specs.declared.report.Report.{Report}

-- what the tasks of a configuration share, and the tasks
pub record GroupOf : Type 0 where
  pub config : Config
  pub group : Group

-- its code
abbrev pub group_of_code : Coded GroupOf
group_of_code = code_by (Config × Group) (coded× config.the_row.coded group_code) (λ k. (k.config, k.group)) (λ c. record { config = c.0; group = c.1 }) (λ _. refl)

-- whether a task holds the tickets of an open scan
abbrev pub holds_tickets : Option TaskState → Bool
holds_tickets None = false
holds_tickets (Some task) = is_some task.tickets

-- whether a scan of the task is open
abbrev pub is_open_in : Group → ℕ → Bool
is_open_in g t = holds_tickets (task_at g t)

-- SCANS

-- where the scan of a task is: it is open while the task has the tickets that it saw
abbrev pub scan_by : Option TaskState → Option Standing → Option State
scan_by None o = None
scan_by (Some task) None = None
scan_by (Some task) (Some s) = if is_some task.tickets then Some s.state else None

-- the scans of the tasks, by their stores
abbrev pub scans_by : List (Option TaskState) → List (Option Standing) → List (Option State)
scans_by [] stores = []
scans_by (t ∷ tasks) [] = []
scans_by (t ∷ tasks) (s ∷ stores) = scan_by t s ∷ scans_by tasks stores

-- the world of a group, by its stores and its calls
abbrev pub world_by : Group → List (Option Standing) → List Call → List Call → World
world_by g stores desk hand = record { group = g; scans = scans_by g.tasks stores; desk = desk; hand = hand }

-- there is a store for each task, of a scan of it
pub record StoresFit (c : Config) (tasks : List (Option TaskState)) (stores : List (Option Standing)) : Type 0 where
  pub as_many : length stores ≡ length tasks
  pub there : (t : ℕ) → is_some (flat (slice_get stores t)) ≡ is_some (flat (slice_get tasks t))
  pub each : (t : ℕ) (s : Standing) → flat (slice_get stores t) ≡ Some s → IsOf c t s

-- each task between scans has its variables still in its store, so that its next scan finds them there
abbrev pub KeepVariables : List (Option TaskState) → List (Option Standing) → Type 0
KeepVariables tasks stores = (t : ℕ) (x : TaskState) (s : Standing) → flat (slice_get tasks t) ≡ Some x → flat (slice_get stores t) ≡ Some s → x.tickets ≡ None → StillHas x.variables s.state

-- a store has the variables of a task (own rule)
abbrev pub HasVariables : Group → ℕ → Standing → Type 0
HasVariables g t s = (x : TaskState) → task_at g t ≡ Some x → StillHas x.variables s.state

-- COMMITS

-- what the commit of an open scan of a task leaves, whose scan left these values
abbrev pub CommitsOpen : Config → ℕ → Group → Values → Group → Report → Type 0
CommitsOpen c t before values after report =
    (x : TaskState) (tickets : List (Option ℕ)) → task_at before t ≡ Some x → x.tickets ≡ Some tickets → committed_group c before t x tickets values ≡ (after, report)

-- WHOLE SCANS

-- a whole scan of a task: its start, so many instructions to its end, where this store is, and its commit, under the tickets that the slots
-- have all along
pub record ScansWhole (c : Config) (t : ℕ) (g : Group) (x : TaskState) (last : Standing) (after : Group) (report : Report) : Type 0 where
  pub of : IsOf c t last
  pub count : ℕ
  pub some : 1 ≤ count
  pub steps : Reaches c count (scan_begins c t (beginning_of g x)) last.state
  pub ended : last.state.frames ≡ []
  pub commits : committed_group c g t x (map ticket_of g.calls.slots) last.state.values ≡ (after, report)
