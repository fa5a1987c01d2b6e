-- The law of all runs, and laws of runs (own rules).
use Rattle.std.specs.Prelude.{◌≡◌, ◌⊎◌, ℕ, ◌≤◌, true, false, List, [], ◌∷◌, ◌++◌, length, Some, None, Ok, IsOk}
use Rattle.il_syntax.specs.declared.tree.Config.{Config}
use Rattle.il_syntax.specs.declared.tree.Unit.{Unit as ProgramUnit}
use Rattle.il_semantics.specs.State.{State}
use Rattle.il_semantics.specs.Step.{step, Next}
use Rattle.il_semantics.specs.Scan.{Reaches, has_ended}
use Rattle.il_semantics.specs.Ranges.{HoldsTask}
use Rattle.group_spec.specs.declared.event.Event.{Event}
use Rattle.group_spec.specs.declared.event.Event.TheVariants.{Start, Instruction, Refresh}
use Rattle.group_spec.specs.Replies.{Reply}
use Rattle.group_spec.specs.declared.event.EventFault.{EventFault}
use Rattle.group_spec.specs.Replies.{Started, Refreshed, Refused}
use Rattle.group_spec.specs.declared.image.Fields.{Fields}
use Rattle.group_spec.specs.Image.{sizes_of, Obeys}
use Rattle.group_spec.specs.Snapshot.{scan_begins}
use Rattle.group_spec.specs.World.{World, TaskState, happens, run, and_then, opening, answered, beginning_of, task_at, scan_at, InRanges, ChangesScanOnly}
use Rattle.group_laws.specs.Tasks.{IsTaskOf, budget_of, IsSized}
use Rattle.group_laws.specs.Scans.{ScansWell, OpensWell}
use Rattle.group_laws.specs.Holding.{TicketsHold, IsSetOf, WorldHolds, RestsWell, at_rest, Leads}

-- THE LAW OF ALL RUNS

-- none of these events is a Start of the task that was answered Started (own rule)
abbrev pub HasNoStart : ℕ → List Event → List Reply → Type 0
HasNoStart t [] replies = Unit {0}
HasNoStart t (e ∷ events) [] = ⊥
HasNoStart t (e ∷ events) (r ∷ replies) = ¬ ((e ≡ Start t) × (r ≡ Started)) × HasNoStart t events replies

-- The scan's start: the task's last Start that was answered Started ends a prefix of the events, and the scan began with the
-- task's variables and the group as the world before that Start had them. It has made as many steps as were answered since (own rule).
pub record IsStarted (c : Config) (base : World) (events : List Event) (replies : List Reply) (t : ℕ) (scan : State) : Type 0 where
  pub before_it : List Event
  pub behind_it : List Event
  pub is : events ≡ before_it ++ Start t ∷ behind_it
  pub answers : List Reply
  pub since : List Reply
  pub replies_are : replies ≡ answers ++ Started ∷ since
  pub last : HasNoStart t behind_it since
  pub before : World
  pub reached : run c base [] before_it ≡ Ok (before, answers)
  pub task : TaskState
  pub there : task_at before.group t ≡ Some task
  pub reaches : Reaches c (answered t 0 events replies) (scan_begins c t (beginning_of before.group task)) scan

-- What is so for a world to which a run of events leads from another, with these replies (own rule).
pub record WorldWellFrom (c : Config) (base : World) (events : List Event) (answers : List Reply) (w : World) : Type 0 where
  -- the image lies in its ranges, and obeys the interlock
  pub ranges : InRanges c w.group
  pub obeys : Obeys w.group.image
  -- each task of the group is there, with each of its variables in its declared set
  pub tasks : (t : ℕ) (u : ProgramUnit) → IsTaskOf c t u → (task : TaskState) × (task_at w.group t ≡ Some task) × HoldsTask c u task.variables
  -- since its last start it made no more steps than its budget
  pub within : (t : ℕ) → answered t 0 events answers ≤ budget_of c t
  -- an open scan was reached from its start in as many
  pub started : (t : ℕ) (scan : State) → scan_at w t ≡ Some scan → IsStarted c base events answers t scan
  -- with as many as the budget it has ended
  pub ends : (t : ℕ) (scan : State) → scan_at w t ≡ Some scan → answered t 0 events answers ≡ budget_of c t → has_ended scan ≡ true
  -- and before its end it has a next state: no trap is an outcome, and it doesn't stick
  pub goes_on : (t : ℕ) (scan : State) → scan_at w t ≡ Some scan → has_ended scan ≡ false → (next : State) × (step c scan ≡ Next next)
  -- each event was answered once
  pub replies : length answers ≡ length events
  -- no two slots are under one ticket
  pub tickets : TicketsHold w.group.calls
  -- desk and hand are sets of calls of the group
  pub desk : IsSetOf (sizes_of c) w.desk
  pub hand : IsSetOf (sizes_of c) w.hand

-- the same of a run from the opening (own rule)
abbrev pub WorldWell : Config → List Event → List Reply → World → Type 0
WorldWell c events answers w = WorldWellFrom c (opening c) events answers w

-- Of every list of events, in any order and with any numbers in them: its run from a world goes to its end, and the world there is well (own rule).
pub record RunsWellFrom (c : Config) (base : World) : Type 0 where
  pub steady : (events : List Event) → IsOk (run c base [] events)
  pub well : (events : List Event) (w : World) (replies : List Reply) → run c base [] events ≡ Ok (w, replies) → WorldWellFrom c base events replies w

-- Of every list of events, in any order and with any numbers in them: its run from the opening goes to its end, and the world there is well. So do those from every
-- other world that rests (own rule).
pub record RunsWell (c : Config) : Type 0 where
  pub steady : (events : List Event) → IsOk (run c (opening c) [] events)
  pub well : (events : List Event) (w : World) (replies : List Reply) → run c (opening c) [] events ≡ Ok (w, replies) → WorldWell c events replies w
  pub resumed : (base : World) → RestsWell c base → RunsWellFrom c base

-- a program whose opening and scans are well runs well (own rule)
abbrev pub SoundRunsWell : Type 0
SoundRunsWell = (c : Config) → OpensWell c → ScansWell c → RunsWell c

-- ONE EVENT

-- the opening world holds, and rests (own rule)
abbrev pub OpeningHolds : Type 0
OpeningHolds = (c : Config) → OpensWell c → RestsWell c (opening c)

-- each event leads from a world that holds to one that holds (own rule)
abbrev pub EventKeeps : Type 0
EventKeeps = (c : Config) → IsSized c → ScansWell c → (steps : ℕ → ℕ) (w : World) (e : Event) → WorldHolds c steps w → Leads c steps e (happens c w e)

-- an event that is refused changes nothing (own rule)
abbrev pub RefusalChangesNothing : Type 0
RefusalChangesNothing = (c : Config) (w v : World) (e : Event) (fault : EventFault) → happens c w e ≡ Ok (v, Refused fault) → v ≡ w

-- an Instruction of one task leaves the image and every other task as they were (own rule)
abbrev pub InstructionChangesItsScan : Type 0
InstructionChangesItsScan = (c : Config) (w v : World) (t : ℕ) (reply : Reply) → happens c w (Instruction t) ≡ Ok (v, reply) → ChangesScanOnly t w v

-- THE FIELDS OF THE IMAGE

-- the fields after an event: those of a refresh that is taken, and else those before it (own rule)
abbrev pub fields_behind : Fields → Event → Reply → Fields
fields_behind before (Refresh fields) (Refreshed report) = fields
fields_behind before event reply = before

-- only a refresh that is taken changes the fields of the image, and it makes them its own (own rule)
abbrev pub RefreshChangesFields : Type 0
RefreshChangesFields = (c : Config) (w v : World) (e : Event) (reply : Reply) → happens c w e ≡ Ok (v, reply) → v.group.image.fields ≡ fields_behind w.group.image.fields e reply

-- none of these events is a refresh (own rule)
abbrev pub HasNoRefresh : List Event → Type 0
HasNoRefresh [] = Unit {0}
HasNoRefresh (Refresh fields ∷ events) = ⊥
HasNoRefresh (e ∷ events) = HasNoRefresh events

-- a run over events of which none is a refresh leaves the fields as they were (own rule)
abbrev pub RunsKeepFields : Type 0
RunsKeepFields = (c : Config) (w v : World) (earlier replies : List Reply) (es : List Event) → HasNoRefresh es → run c w earlier es ≡ Ok (v, replies) → v.group.image.fields ≡ w.group.image.fields

-- RUNS THAT FOLLOW ONE ANOTHER

-- a run over two lists is a run over the first and then one over the second (own rule)
abbrev pub RunAppends : Type 0
RunAppends = (c : Config) (w : World) (replies : List Reply) (es fs : List Event) → run c w replies (es ++ fs) ≡ and_then (run c w replies es) (λ n. run c n.0 n.1 fs)

-- earlier replies come before those of the run, and change nothing else (own rule)
abbrev pub RepliesFollow : Type 0
RepliesFollow = (c : Config) (w : World) (replies : List Reply) (es : List Event) → run c w replies es ≡ and_then (run c w [] es) (λ n. Ok (n.0, replies ++ n.1))

-- a world from which runs begin: the opening, or one that rests (own rule)
abbrev pub Begins : Config → World → Type 0
Begins c base = (base ≡ opening c) ⊎ RestsWell c base

-- a world to which some run leads from where runs begin (own rule)
pub record IsReached (c : Config) (w : World) : Type 0 where
  pub base : World
  pub begins : Begins c base
  pub events : List Event
  pub replies : List Reply
  pub is : run c base [] events ≡ Ok (w, replies)

-- a run from a world that is reached leads to one that is reached (own rule)
abbrev pub ReachedGoesOn : Type 0
ReachedGoesOn = (c : Config) (w v : World) (earlier replies : List Reply) (es : List Event) → IsReached c w → run c w earlier es ≡ Ok (v, replies) → IsReached c v

-- a world that is reached rests where no scan is open (own rule)
abbrev pub ReachedRests : Type 0
ReachedRests = (c : Config) → OpensWell c → ScansWell c → (w : World) → IsReached c w → ((t : ℕ) → scan_at w t ≡ None) → RestsWell c w

-- a world that rests does so with its outputs at rest (own rule)
abbrev pub RestsAtRest : Type 0
RestsAtRest = (c : Config) (w : World) → RestsWell c w → RestsWell c (at_rest w)

-- a world that is reached holds, where the opening and all scans are well (own rule)
abbrev pub ReachedHolds : Type 0
ReachedHolds = (c : Config) → OpensWell c → ScansWell c → (w : World) → IsReached c w → (steps : ℕ → ℕ) × WorldHolds c steps w
