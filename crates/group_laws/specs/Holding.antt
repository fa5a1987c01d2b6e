-- What every world of a run keeps (own rules).
use Rattle.std.specs.Prelude.{◌≡◌, ℕ, zero, suc, ◌≤◌, List, [], ◌∷◌, All, map, length, replicate, Option, Some, None, Ok}
use Rattle.il_syntax.specs.declared.tree.Config.{Config}
use Rattle.il_syntax.specs.declared.tree.Unit.{Unit as ProgramUnit}
use Rattle.il_semantics.specs.State.{State}
use Rattle.il_semantics.specs.Scan.{Reaches}
use Rattle.group_spec.specs.declared.event.Event.{Event}
use Rattle.group_spec.specs.Replies.{Reply}
use Rattle.group_spec.specs.Image.{sizes_of, Obeys, opening_outputs}
use Rattle.group_spec.specs.declared.image.Sizes.{Sizes}
use Rattle.group_spec.specs.declared.calls.Call.{Call}
use Rattle.group_spec.specs.declared.calls.Slot.{Slot}
use Rattle.group_spec.specs.Hands.{IsInOrder}
use Rattle.group_spec.specs.Calls.{Calls, IsCall, ticket_of, greatest_ticket}
use Rattle.group_spec.specs.Snapshot.{program_of, scan_begins}
use Rattle.group_spec.specs.World.{World, Group, TaskState, Next, counted, beginning_of, task_at, scan_at, InRanges}
use Rattle.group_laws.specs.Tasks.{IsTaskOf, budget_of}
use Rattle.il_semantics.specs.Ranges.{HoldsTask}

-- the ticket of the slot at an index, if it is under one (own rule)
abbrev pub ticket_at : List Slot → ℕ → Option ℕ
ticket_at [] k = None
ticket_at (slot ∷ slots) zero = ticket_of slot
ticket_at (slot ∷ slots) (suc k) = ticket_at slots k

-- no ticket beyond the greatest was given, and no two slots are under one ticket (own rule)
pub record TicketsHold (calls : Calls) : Type 0 where
  pub last : calls.last_ticket ≤ greatest_ticket
  pub distinct : (i j n : ℕ) → ticket_at calls.slots i ≡ Some n → ticket_at calls.slots j ≡ Some n → i ≡ j

-- a set of calls of the group, in the order of (from, to)
pub record IsSetOf (sizes : Sizes) (set : List Call) : Type 0 where
  pub each : All (IsCall sizes) set
  pub in_order : IsInOrder set

-- An open scan of a task: it was begun by the task's variables in a group in its ranges, has made so many steps since, and
-- the task has the tickets of that group's slots (own rule).
pub record IsOpen (c : Config) (t n : ℕ) (task : TaskState) (s : State) : Type 0 where
  pub group : Group
  pub ranges : InRanges c group
  pub reaches : Reaches c n (scan_begins c t (beginning_of group task)) s
  pub tickets : task.tickets ≡ Some (map ticket_of group.calls.slots)

-- a scan that is open, or none (own rule)
abbrev pub MayBeOpen : Config → ℕ → ℕ → TaskState → Option State → Type 0
MayBeOpen c t n task None = task.tickets ≡ None
MayBeOpen c t n task (Some s) = IsOpen c t n task s

-- A task: its program, its variables, and its scan (2.7.2).
pub record TaskHolds (c : Config) (t n : ℕ) (task : TaskState) (scan : Option State) : Type 0 where
  pub unit : ProgramUnit
  pub is : IsTaskOf c t unit
  pub variables : HoldsTask c unit task.variables
  pub scanning : MayBeOpen c t n task scan

-- a number of a task, or of none; then the group has no such task, and there is no scan (own rule)
abbrev pub SeatHolds : Config → ℕ → ℕ → Option TaskState → Option State → Type 0
SeatHolds c t n None None = t ≤ (sizes_of c).cars → program_of c t ≡ None
SeatHolds c t n None (Some s) = ⊥
SeatHolds c t n (Some task) scan = TaskHolds c t n task scan

-- A world, where each task has made so many steps since its last start (own rule).
pub record WorldHolds (c : Config) (steps : ℕ → ℕ) (w : World) : Type 0 where
  pub ranges : InRanges c w.group
  pub tickets : TicketsHold w.group.calls
  pub obeys : Obeys w.group.image
  pub tasks : length w.group.tasks ≡ suc (sizes_of c).cars
  pub scans : length w.scans ≡ suc (sizes_of c).cars
  pub each : (t : ℕ) → SeatHolds c t (steps t) (task_at w.group t) (scan_at w t)
  pub within : (t : ℕ) → steps t ≤ budget_of c t
  pub desk : IsSetOf (sizes_of c) w.desk
  pub hand : IsSetOf (sizes_of c) w.hand

-- A world between scans, from which runs may go on: it holds, and no scan is open (own rule).
pub record RestsWell (c : Config) (w : World) : Type 0 where
  pub holds : WorldHolds c (λ _. 0) w
  pub closed : (t : ℕ) → scan_at w t ≡ None

-- a world with every motor still and no open command, and else as it was: after a stop (own rule)
abbrev pub at_rest : World → World
at_rest w = record w { group = record w.group { image = record { fields = w.group.image.fields; outputs = replicate (length w.group.image.fields.cars) opening_outputs } } }

-- An event happens, and leads to a world that holds again (own rule).
pub record Leads (c : Config) (steps : ℕ → ℕ) (e : Event) (next : Next) : Type 0 where
  pub after : World
  pub reply : Reply
  pub is : next ≡ Ok (after, reply)
  pub holds : WorldHolds c (λ t. counted t (steps t) e reply) after
