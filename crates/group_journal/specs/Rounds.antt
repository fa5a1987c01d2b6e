-- Rounds of a group on its plant, and what a trace's events mean (own rules).
use Rattle.std.specs.Prelude.{◌≡◌, ℕ, zero, suc, ◌+◌, List, [], ◌∷◌, ◌++◌, map, flat_map, filter, length, replicate, Ok}
use Rattle.il_syntax.specs.declared.tree.Config.{Config}
use Rattle.group_spec.specs.declared.calls.Call.{Call}
use Rattle.group_spec.specs.declared.event.Event.{Event}
use Rattle.group_spec.specs.declared.event.Event.TheVariants.{Start, Instruction, Commit, Refresh, Press, Gather}
use Rattle.group_spec.specs.declared.event.EventFault.{EventFault}
use Rattle.group_spec.specs.declared.journal.Entry.{Entry}
use Rattle.group_spec.specs.declared.journal.Entry.TheVariants as entry
use Rattle.group_spec.specs.declared.report.EnteredCall.{EnteredCall}
use Rattle.group_spec.specs.declared.report.Report.{Report}
use Rattle.group_spec.specs.declared.trace.TraceEvent.{TraceEvent}
use Rattle.group_spec.specs.declared.trace.TraceEvent.TheVariants as traced
use Rattle.group_spec.specs.Image.{sizes_of}
use Rattle.group_spec.specs.Plant.{PlantState, opening_plant, plant_after, fields_of_plant}
use Rattle.group_spec.specs.Replies.{Reply, Started, More, End, Committed, Refreshed, Refused}
use Rattle.group_spec.specs.Snapshot.{has_task}
use Rattle.group_spec.specs.World.{World, happens, run, opening}
use Rattle.group_plant.specs.declared.switches.Switches.{Switches}
use Rattle.group_plant.specs.Switches.{under}
use Rattle.group_journal.specs.Journal.{AreAccepted}

-- EVENTS THAT ARE TAKEN

-- the events happen one after the other, none of them is refused, and they lead from a world to another
pub record Happen (c : Config) (w : World) (events : List Event) (v : World) : Type 0 where
  pub replies : List Reply
  pub runs : run c w [] events ≡ Ok (v, replies)
  pub accepted : AreAccepted replies

-- the replies to so many instructions, of which the last ends the scan
abbrev pub ending : ℕ → List Reply
ending zero = []
ending (suc zero) = End ∷ []
ending (suc (suc n)) = More ∷ ending (suc n)

-- the instructions that bring the open scan of a task to its end
pub record Finishes (c : Config) (t : ℕ) (w v : World) : Type 0 where
  pub instructions : ℕ
  pub steps : run c w [] (replicate instructions (Instruction t)) ≡ Ok (v, ending instructions)

-- those and the commit
pub record FinishesAndCommits (c : Config) (t : ℕ) (w v : World) : Type 0 where
  pub at_end : World
  pub finish : Finishes c t w at_end
  pub report : Report
  pub commit : happens c at_end (Commit t) ≡ Ok (v, Committed report)

-- a whole scan of a task: its start, its instructions to the end, and its commit
pub record Scans (c : Config) (t : ℕ) (w v : World) : Type 0 where
  pub started : World
  pub start : happens c w (Start t) ≡ Ok (started, Started)
  pub rest : FinishesAndCommits c t started v

-- ROUNDS

-- the numbers from one on, so many of them
abbrev pub counting_from : ℕ → ℕ → List ℕ
counting_from first zero = []
counting_from first (suc count) = first ∷ counting_from (first + 1) count

-- the floors, rising
abbrev pub floors_rising : Config → List ℕ
floors_rising c = counting_from 1 (sizes_of c).floors

-- the tasks that the configuration has, in the order in which a round runs them: CAR1 to CARn, and then GROUP
abbrev pub tasks_in_order : Config → List ℕ
tasks_in_order c = filter (has_task c) (counting_from 1 (sizes_of c).cars ++ 0 ∷ [])

-- a scan of each of some tasks, one after the other
abbrev pub ScanEach : Config → List ℕ → World → World → Type 0
ScanEach c [] w v = w ≡ v
ScanEach c (t ∷ tasks) w v = (m : World) × Scans c t w m × ScanEach c tasks m v

-- the entries of a task's scan
abbrev pub scan_entries : ℕ → List Entry
scan_entries t = entry.Start t ∷ entry.Commit t ∷ []

-- the calls that a refresh entered
abbrev pub entered_calls_of : Report → List Call
entered_calls_of report = map (λ (d : EnteredCall). d.call) report.entered

-- the events on the desk before a refresh: these calls are pressed, and each floor is gathered, rising
abbrev pub desk_events : Config → List Call → List Event
desk_events c calls = map Press calls ++ map Gather (floors_rising c)

-- One round: its calls are pressed and each floor is gathered; the building sets FIRE and RUNLIMIT; the plant goes one step under the
-- outputs of the image, and the image is refreshed with what it then reports; then each task runs one scan. Its journal has the refresh, with the calls that it
-- entered, and a start and a commit of each task.
pub record IsRound (c : Config) (calls : List Call) (switches : Switches) (plant next : PlantState) (w v : World) (entries : List Entry) : Type 0 where
  pub gathered : World
  pub desk : Happen c w (desk_events c calls) gathered
  pub plant_step : next ≡ plant_after (under switches plant) gathered.group.image.outputs
  pub refreshed : World
  pub report : Report
  pub refresh : happens c gathered (Refresh (fields_of_plant next)) ≡ Ok (refreshed, Refreshed report)
  pub scans : ScanEach c (tasks_in_order c) refreshed v
  pub journal : entries ≡ entry.Refresh (fields_of_plant next) (entered_calls_of report) ∷ flat_map scan_entries (tasks_in_order c)

-- So many rounds from the opening: the plant and the world after them, and the entries of their journal. The calls that are pressed
-- in a round and what is then set go by its number, from 1 on.
abbrev pub Rounds : Config → (ℕ → List Call) → (ℕ → Switches) → ℕ → PlantState → World → List Entry → Type 0
Rounds c calls switches zero plant w entries = (plant ≡ opening_plant (sizes_of c).cars (sizes_of c).floors) × (w ≡ opening c) × (entries ≡ [])
Rounds c calls switches (suc n) plant w entries =
    (before : PlantState) × (u : World) × (earlier last : List Entry) × Rounds c calls switches n before u earlier × IsRound c (calls (suc n)) (switches (suc n)) before plant u w last × (entries ≡ earlier ++ last)

-- the same group, with no call on the desk or in the hand
abbrev pub cleared : World → World
cleared w = record { group = w.group; scans = w.scans; desk = []; hand = [] }

-- A TRACE'S EVENTS

-- an event of a trace is taken; a commit means the rest of the scan too
abbrev pub Takes : Config → World → TraceEvent → World → Type 0
Takes c w (traced.Start t) v = Happen c w (Start t ∷ []) v
Takes c w (traced.Commit t) v = FinishesAndCommits c t w v
Takes c w (traced.Press call) v = Happen c w (Press call ∷ []) v
Takes c w (traced.Gather floor) v = Happen c w (Gather floor ∷ []) v
Takes c w (traced.Refresh fields) v = Happen c w (Refresh fields ∷ []) v

-- a trace's events are taken, one after the other
abbrev pub TakesAll : Config → World → List TraceEvent → World → Type 0
TakesAll c w [] v = w ≡ v
TakesAll c w (e ∷ events) v = (m : World) × Takes c w e m × TakesAll c m events v

-- an event of a trace is refused; a commit where there is no instruction to run
abbrev pub Refuses : Config → World → TraceEvent → EventFault → Type 0
Refuses c w (traced.Start t) fault = happens c w (Start t) ≡ Ok (w, Refused fault)
Refuses c w (traced.Commit t) fault = happens c w (Instruction t) ≡ Ok (w, Refused fault)
Refuses c w (traced.Press call) fault = happens c w (Press call) ≡ Ok (w, Refused fault)
Refuses c w (traced.Gather floor) fault = happens c w (Gather floor) ≡ Ok (w, Refused fault)
Refuses c w (traced.Refresh fields) fault = happens c w (Refresh fields) ≡ Ok (w, Refused fault)

-- the first event that is refused: those before it are taken
pub record IsRefusedAt (c : Config) (w : World) (events : List TraceEvent) (index : ℕ) (fault : EventFault) : Type 0 where
  pub first : List TraceEvent
  pub event : TraceEvent
  pub rest : List TraceEvent
  pub are : events ≡ first ++ event ∷ rest
  pub behind : index ≡ length first
  pub before : World
  pub taken : TakesAll c w first before
  pub refused : Refuses c before event fault
