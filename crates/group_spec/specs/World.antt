-- The world of a group, one step for each event, and its runs (own rules).
use Rattle.std.specs.Prelude.{◌≡◌, ◌≢◌, ℕ, zero, suc, ◌+◌, Bool, true, false, ◌&&◌, List, [], ◌∷◌, ◌++◌, All, map, length, replicate, slice_get, slice_set, Option, Some, None, Result, Ok, Err, ◌==◌, if◌then◌else◌}
use Rattle.il_syntax.specs.declared.tree.Config.{Config}
use Rattle.il_syntax.specs.declared.tree.Unit.{Unit as Organized}
use Rattle.group_spec.specs.declared.image.Fields.{Fields}
use Rattle.group_spec.specs.declared.image.Image.{Image}
use Rattle.group_spec.specs.declared.calls.Call.{Call}
use Rattle.group_spec.specs.declared.image.Wishes.{Wishes}
use Rattle.group_spec.specs.declared.calls.Answer.{Answer}
use Rattle.group_spec.specs.declared.calls.Answer.TheVariants.{Stale}
use Rattle.group_spec.specs.declared.report.Answered.{Answered}
use Rattle.group_spec.specs.declared.report.Report.{Report}
use Rattle.group_spec.specs.declared.event.Event.{Event}
use Rattle.group_spec.specs.declared.event.Event.TheVariants.{Start, Instruction, Commit, Refresh, Press, Gather}
use Rattle.group_spec.specs.Replies.{Reply}
use Rattle.group_spec.specs.declared.event.EventFault.{EventFault}
use Rattle.group_spec.specs.declared.event.EventFault.TheVariants.{FieldOutOfRange, NoOpenScan, AlreadyOpen, NotAtEnd, NoSuchActor, SameFloor}
use Rattle.group_spec.specs.Replies.{Started, More, End, Committed, Refreshed, New, Already, Gathered, Held, Refused}
use Rattle.il_semantics.specs.State.{Values, State}
use Rattle.il_semantics.specs.Step.{Trap, Outcome, Next as Goes, Trapped, Stuck, step as scan_step}
use Rattle.il_semantics.specs.Scan.{opening_variables, opening_globals, restricted, has_ended}
use Rattle.il_semantics.specs.Ranges.{HoldGlobals}
use Rattle.group_spec.specs.Image.{sizes_of, is_floor, FieldsInRange, fields_in_range, opening_image}
use Rattle.group_spec.specs.Settle.{settled_car, with_outputs, AllSettled, settled_all, denials_of}
use Rattle.group_spec.specs.Hands.{has_call, with_call, with_calls, has_from, calls_from, calls_not_from, mask_of}
use Rattle.group_spec.specs.Calls.{Calls, opening_calls, SlotInRange, ticket_of, Entered, enter_all, tell, serve}
use Rattle.group_spec.specs.Snapshot.{program_of, Snapshot, Beginning, scan_begins, wishes_of, assigned, written_globals}

-- a task: its variables, and the tickets of the slots in the snapshot of its open scan, if it has one
pub record TaskState : Type 0 where
  pub variables : Values
  pub tickets : Option (List (Option ℕ))

-- what all tasks share, and the tasks: GROUP first, then CAR1 and so on; none where there is no such task
pub record Group : Type 0 where
  pub image : Image
  pub calls : Calls
  pub globals : Values
  pub tasks : List (Option TaskState)

-- the group, where the open scan of each task is, the calls on the desk and those in the hand
pub record World : Type 0 where
  pub group : Group
  pub scans : List (Option State)
  pub desk : List Call
  pub hand : List Call

-- why a run can go no further: a scan met a trap, or has no next state though it has not ended
pub data Halt : Type 0 where
  Traps : Trap → Halt
  Sticks : Halt

-- where a world and its reply are, or why there is none
abbrev pub Next : Type 0
Next = Result (World × Reply) Halt

-- The opening world.
abbrev pub opening_task : Config → Option Organized → Option TaskState
opening_task p None = None
opening_task p (Some u) = Some (record { variables = opening_variables p u; tickets = None })

-- so many tasks as they open, from this number on (own rule)
abbrev pub opening_tasks_from : Config → ℕ → ℕ → List (Option TaskState)
opening_tasks_from p t zero = []
opening_tasks_from p t (suc count) = opening_task p (program_of p t) ∷ opening_tasks_from p (t + 1) count

-- how the group opens (own rule)
abbrev pub opening_group : Config → Group
opening_group p =
    record {
      image = opening_image (sizes_of p);
      calls = opening_calls (sizes_of p);
      globals = opening_globals p;
      tasks = opening_tasks_from p 0 (suc (sizes_of p).cars);
    }

-- the opening world: no scan is open, and no call waits (own rule)
unfoldable pub opening : Config → World
opening p = record { group = opening_group p; scans = replicate (suc (sizes_of p).cars) None; desk = []; hand = [] }

-- an option in an option, as one
abbrev pub flat : {A : Type 0} → Option (Option A) → Option A
flat None = None
flat (Some None) = None
flat (Some (Some x)) = Some x

-- the task of a number, if the configuration has it (own rule)
abbrev pub task_at : Group → ℕ → Option TaskState
task_at g t = flat (slice_get g.tasks t)

-- the open scan of a task, if it has one (own rule)
abbrev pub scan_at : World → ℕ → Option State
scan_at w t = flat (slice_get w.scans t)

-- an event that is refused changes nothing (own rule)
abbrev pub refuses : World → EventFault → Next
refuses w fault = Ok (w, Refused fault)

-- Start: copies the image, the slots with their tickets, the globals and the task's variables.
abbrev pub snapshot_of : Group → Snapshot
snapshot_of g = record { image = g.image; slots = g.calls.slots; globals = g.globals }

-- what the next scan of a task begins with (own rule)
abbrev pub beginning_of : Group → TaskState → Beginning
beginning_of g task = record { variables = task.variables; snapshot = snapshot_of g }

-- the group once a task has started: the task holds the tickets that it saw (own rule)
abbrev pub started_group : Group → ℕ → TaskState → Group
started_group g t task =
    record g { tasks = slice_set g.tasks t (Some (record { variables = task.variables; tickets = Some (map ticket_of g.calls.slots) })) }

-- Start where no scan is open, and 62 where one is (own rule)
abbrev pub starts_from : Config → World → ℕ → TaskState → Option State → Next
starts_from p w t task (Some s) = refuses w AlreadyOpen
starts_from p w t task None =
    Ok (record w { group = started_group w.group t task; scans = slice_set w.scans t (Some (scan_begins p t (beginning_of w.group task))) }, Started)

-- Start, and 64 where there is no such task (own rule)
abbrev pub starts : Config → World → ℕ → Option TaskState → Next
starts p w t None = refuses w NoSuchActor
starts p w t (Some task) = starts_from p w t task (scan_at w t)

-- Instruction: one step of the task's own scan.
abbrev pub reply_to : State → Reply
reply_to s = if has_ended s then End else More

-- what a step of a scan leaves of the world, or why the run halts (own rule)
abbrev pub stepped : World → ℕ → Outcome → Next
stepped w t (Trapped trap) = Err (Traps trap)
stepped w t Stuck = Err Sticks
stepped w t (Goes s) = Ok (record w { scans = slice_set w.scans t (Some s) }, reply_to s)

-- Instruction after the end of the scan, 61, or before it (own rule)
abbrev pub instructs_scan : Config → World → ℕ → State → Bool → Next
instructs_scan p w t scan true = refuses w NoOpenScan
instructs_scan p w t scan false = stepped w t (scan_step p scan)

-- Instruction without an open scan, 61, or within one (own rule)
abbrev pub instructs_in : Config → World → ℕ → Option State → Next
instructs_in p w t None = refuses w NoOpenScan
instructs_in p w t (Some scan) = instructs_scan p w t scan (has_ended scan)

-- Instruction, and 64 where there is no such task (own rule)
abbrev pub instructs : Config → World → ℕ → Option TaskState → Next
instructs p w t None = refuses w NoSuchActor
instructs p w t (Some task) = instructs_in p w t (scan_at w t)

-- Commit: writes back the variables and the globals that the program writes; a car's outputs are settled and it may serve, the group tells.
abbrev pub tell_with : Calls → ℕ → ℕ → Option ℕ → Calls × Answer
tell_with calls slot car None = (calls, Stale)
tell_with calls slot car (Some ticket) = tell calls slot ticket car

-- what a car serves: the slot of its wish, under the ticket that its scan saw (own rule)
abbrev pub serve_with : Calls → ℕ → ℕ → Option ℕ → Calls × Answer
serve_with calls slot car None = (calls, Stale)
serve_with calls slot car (Some ticket) = serve calls slot ticket car

-- each ASSIGN that isn't 0 is a tell, in the order of the slots, under the ticket of the snapshot
abbrev pub tell_all : Calls → List Answered → ℕ → List (Option ℕ) → List ℕ → Calls × List Answered
tell_all calls answers slot [] cars = (calls, answers)
tell_all calls answers slot (ticket ∷ tickets) [] = (calls, answers)
tell_all calls answers slot (ticket ∷ tickets) (zero ∷ cars) = tell_all calls answers (slot + 1) tickets cars
tell_all calls answers slot (ticket ∷ tickets) (suc car ∷ cars) =
    let told = tell_with calls slot (suc car) ticket in
    tell_all told.0 (answers ++ record { slot = slot; ticket = ticket; car = suc car; answer = told.1 } ∷ []) (slot + 1) tickets cars

-- a SERVE that isn't 0 is a serve, under the ticket of the snapshot
abbrev pub serve_wish : Calls → ℕ → List (Option ℕ) → ℕ → Calls × List Answered
serve_wish calls car tickets zero = (calls, [])
serve_wish calls car tickets (suc slot) =
    let ticket = flat (slice_get tickets slot) in
    let served = serve_with calls (suc slot) car ticket in
    (served.0, record { slot = suc slot; ticket = ticket; car = car; answer = served.1 } ∷ [])

-- the task between scans, with what the scan left of its variables
abbrev pub closed_tasks : Group → ℕ → TaskState → Values → List (Option TaskState)
closed_tasks g t task values = slice_set g.tasks t (Some (record { variables = restricted task.variables values; tickets = None }))

-- a commit of the group: its assignments are told, and its variables and globals are kept (own rule)
abbrev pub group_commits : Config → Group → TaskState → List (Option ℕ) → Values → Group × Report
group_commits p g task tickets values =
    let told = tell_all g.calls [] 1 tickets (assigned (length tickets) values) in (
      record {
        image = g.image;
        calls = told.0;
        globals = written_globals (program_of p 0) g.globals values;
        tasks = closed_tasks g 0 task values;
      },
      record { outputs = g.image.outputs; denials = []; answers = told.1; entered = [] },
    )

-- a commit of a car: its outputs are settled, its serve is done, and its variables and globals are kept (own rule)
abbrev pub car_commits : Config → Group → ℕ → TaskState → List (Option ℕ) → Values → Wishes → Group × Report
car_commits p g car task tickets values wishes =
    let settled = settled_car g.image car wishes.motor wishes.opens in
    let outputs = with_outputs g.image.outputs car settled.outputs in
    let served = serve_wish g.calls car tickets wishes.serve in (
      record {
        image = record { fields = g.image.fields; outputs = outputs };
        calls = served.0;
        globals = written_globals (program_of p car) g.globals values;
        tasks = closed_tasks g car task values;
      },
      record { outputs = outputs; denials = denials_of car settled.denials; answers = served.1; entered = [] },
    )

-- a commit of a task, by its role (own rule)
unfoldable pub committed_group : Config → Group → ℕ → TaskState → List (Option ℕ) → Values → Group × Report
committed_group p g zero task tickets values = group_commits p g task tickets values
committed_group p g (suc k) task tickets values = car_commits p g (suc k) task tickets values (wishes_of values)

-- the tickets that a scan saw; none without a scan (own rule)
abbrev pub tickets_or_none : Option (List (Option ℕ)) → List (Option ℕ)
tickets_or_none None = []
tickets_or_none (Some tickets) = tickets

-- Commit before the end of the scan, 63, or after it (own rule)
abbrev pub commits_ended : Config → World → ℕ → TaskState → State → Bool → Next
commits_ended p w t task scan false = refuses w NotAtEnd
commits_ended p w t task scan true =
    let committed = committed_group p w.group t task (tickets_or_none task.tickets) scan.values in
    Ok (record w { group = committed.0; scans = slice_set w.scans t None }, Committed committed.1)

-- Commit without an open scan, 61, or with one (own rule)
abbrev pub commits_scan : Config → World → ℕ → TaskState → Option State → Next
commits_scan p w t task None = refuses w NoOpenScan
commits_scan p w t task (Some scan) = commits_ended p w t task scan (has_ended scan)

-- Commit, and 64 where there is no such task (own rule)
abbrev pub commits : Config → World → ℕ → Option TaskState → Next
commits p w t None = refuses w NoSuchActor
commits p w t (Some task) = commits_scan p w t task (scan_at w t)

-- Refresh: the outputs are settled under the new fields, and then the calls of the hand enter.
abbrev pub refreshed_as : Group → Fields → AllSettled → Entered → Group × Report
refreshed_as g fields settled entered = (
  record { image = record { fields = fields; outputs = settled.outputs }; calls = entered.calls; globals = g.globals; tasks = g.tasks },
  record { outputs = settled.outputs; denials = settled.denials; answers = []; entered = entered.done },
)

-- the calls of the hand enter the slots of the group (own rule)
abbrev pub entered_from : Group → List Call → Entered
entered_from g hand = enter_all g.calls [] hand

-- a refresh of the group (own rule)
unfoldable pub refreshed_group : Group → Fields → List Call → Group × Report
refreshed_group g fields hand = refreshed_as g fields (settled_all g.image.outputs fields) (entered_from g hand)

-- Refresh, and 60 where the fields are out of range (own rule)
abbrev pub refreshes : World → Fields → Bool → Next
refreshes w fields false = refuses w FieldOutOfRange
refreshes w fields true =
    let refreshed = refreshed_group w.group fields w.hand in
    Ok (record { group = refreshed.0; scans = w.scans; desk = w.desk; hand = (entered_from w.group w.hand).hand }, Refreshed refreshed.1)

-- Press: the call is put on the desk.
abbrev pub presses_new : World → Call → Bool → Next
presses_new w call true = Ok (w, Already)
presses_new w call false = Ok (record w { desk = with_call w.desk call }, New)

-- Press from a floor to itself, 65, or to another (own rule)
abbrev pub presses_floors : World → Call → Bool → Next
presses_floors w call true = refuses w SameFloor
presses_floors w call false = presses_new w call (has_call w.desk call)

-- Press, and 64 where there is no such floor (own rule)
abbrev pub presses : World → Call → Bool → Next
presses w call false = refuses w NoSuchActor
presses w call true = presses_floors w call (call.from == call.to)

-- Gather: the calls from a floor go from the desk to the hand, where the hand has none from there.
abbrev pub gathers_from : World → ℕ → Bool → Next
gathers_from w floor true = Ok (w, Held)
gathers_from w floor false =
    let moved = calls_from floor w.desk in
    Ok (record w { desk = calls_not_from floor w.desk; hand = with_calls w.hand moved }, Gathered (mask_of moved))

-- Gather, and 64 where there is no such floor (own rule)
abbrev pub gathers : World → ℕ → Bool → Next
gathers w floor false = refuses w NoSuchActor
gathers w floor true = gathers_from w floor (has_from w.hand floor)

-- one step for each event
unfoldable pub happens : Config → World → Event → Next
happens p w (Start t) = starts p w t (task_at w.group t)
happens p w (Instruction t) = instructs p w t (task_at w.group t)
happens p w (Commit t) = commits p w t (task_at w.group t)
happens p w (Refresh fields) = refreshes w fields (fields_in_range (sizes_of p) fields)
happens p w (Press call) = presses w call (is_floor (sizes_of p) call.from && is_floor (sizes_of p) call.to)
happens p w (Gather floor) = gathers w floor (is_floor (sizes_of p) floor)

-- going on where there is a result
abbrev pub and_then : {A B : Type 0} → Result A Halt → (A → Result B Halt) → Result B Halt
and_then (Err halt) go = Err halt
and_then (Ok x) go = go x

-- a run over a list of events, after the replies so far
abbrev pub run : Config → World → List Reply → List Event → Result (World × List Reply) Halt
run p w replies [] = Ok (w, replies)
run p w replies (e ∷ events) = and_then (happens p w e) (λ n. run p n.0 (replies ++ n.1 ∷ []) events)

-- What holds of every world of a run.
-- the image lies in its ranges: the fields, the slots and the globals (the outputs do by their types)
pub record InRanges (p : Config) (g : Group) : Type 0 where
  pub fields : FieldsInRange (sizes_of p) g.image.fields
  pub outputs : length g.image.outputs ≡ (sizes_of p).cars
  pub slots : length g.calls.slots ≡ (sizes_of p).slots
  pub each_slot : All (SlotInRange (sizes_of p) g.calls.last_ticket) g.calls.slots
  pub globals : HoldGlobals p g.globals

-- an event of one task leaves the group and every other task's scan as they were
pub record ChangesScanOnly (t : ℕ) (w v : World) : Type 0 where
  pub group : v.group ≡ w.group
  pub desk : v.desk ≡ w.desk
  pub hand : v.hand ≡ w.hand
  pub others : (other : ℕ) → other ≢ t → slice_get v.scans other ≡ slice_get w.scans other

-- how many Instructions of a task were answered More or End since its last Start
abbrev pub counted : ℕ → ℕ → Event → Reply → ℕ
counted t count (Start u) Started = if t == u then 0 else count
counted t count (Instruction u) More = if t == u then count + 1 else count
counted t count (Instruction u) End = if t == u then count + 1 else count
counted t count event reply = count

-- the same over a whole run
abbrev pub answered : ℕ → ℕ → List Event → List Reply → ℕ
answered t count [] replies = count
answered t count (e ∷ events) [] = count
answered t count (e ∷ events) (r ∷ replies) = answered t (counted t count e r) events replies
