-- What the tasks share, as rows and as the group of the definitions, and replies (own rules).
use Rattle.std.specs.Prelude.{◌≡◌, ℕ, zero, suc, ◌+◌, Bool, false, List, [], ◌∷◌, ◌++◌, length, slice_get, slice_set, Option, Some, None, is_some}
use Rattle.il_syntax.specs.declared.tree.Config.{Config}
use Rattle.il_semantics.specs.State.{Values}
use Rattle.il_semantics.specs.Scan.{restricted}
use Rattle.scan_task.specs.Scanning.{IsRunnable, OwnsDeclared, FitsOwn, variables_in}
use Rattle.scan_task.specs.Sharing.{globals_in, FitsGlobals}
use Rattle.load_slots.specs.Layout.{Rows}
use Rattle.group_spec.specs.Image.{sizes_of, Obeys}
use Rattle.group_spec.specs.World.{Group, TaskState, flat, serve_with, tell_all, committed_group, InRanges}
use Rattle.group_spec.specs.Settle.{settled_car, with_outputs, denials_of}
use Rattle.group_spec.specs.Snapshot.{assigned}
use Rattle.group_spec.specs.declared.image.Motor.{Motor}
use Rattle.group_spec.specs.declared.image.Image.{Image}
use Rattle.group_spec.specs.declared.calls.Slot.{Slot}
use Rattle.group_spec.specs.declared.calls.Slot.TheVariants.{Free, Waiting, Told}
use Rattle.group_spec.specs.Calls.{Calls}
use Rattle.group_spec.specs.Replies.{Reply, Started, More, End, Committed, Refreshed, New, Already, Gathered, Held, Refused}
use Rattle.group_spec.specs.declared.report.Answered.{Answered}
use Rattle.group_spec.specs.declared.report.Report.{Report}
use Rattle.group_spec.specs.declared.event.Reply.{Reply as Answer}
use Rattle.group_spec.specs.declared.event.Reply.TheVariants as answer
use Rattle.group_spec.specs.declared.event.Event.{Event}
use Rattle.group_spec.specs.declared.event.Event.TheVariants.{Start, Instruction, Commit, Refresh}
use Rattle.group_laws.specs.Holding.{TicketsHold}
use Rattle.group_world.specs.declared.shared.Shared.{Shared}
use Rattle.group_world.specs.declared.shared.TaskMemory.{TaskMemory}

-- the replies so far, and how many there is room for in all
pub record Answers : Type 0 where
  pub items : List Reply
  pub room : ℕ
  pub reports : ℕ
  pub report_room : ℕ

-- REPLIES

-- a reply, and the replies to come, where the reports of those with one are told in their order
abbrev pub replies_of : List Answer → List Report → List Reply
replies_of [] reports = []
replies_of (answer.Committed ∷ answers) [] = []
replies_of (answer.Committed ∷ answers) (r ∷ reports) = Committed r ∷ replies_of answers reports
replies_of (answer.Refreshed ∷ answers) [] = []
replies_of (answer.Refreshed ∷ answers) (r ∷ reports) = Refreshed r ∷ replies_of answers reports
replies_of (answer.Started ∷ answers) reports = Started ∷ replies_of answers reports
replies_of (answer.More ∷ answers) reports = More ∷ replies_of answers reports
replies_of (answer.End ∷ answers) reports = End ∷ replies_of answers reports
replies_of (answer.New ∷ answers) reports = New ∷ replies_of answers reports
replies_of (answer.Already ∷ answers) reports = Already ∷ replies_of answers reports
replies_of (answer.Gathered mask ∷ answers) reports = Gathered mask ∷ replies_of answers reports
replies_of (answer.Held ∷ answers) reports = Held ∷ replies_of answers reports
replies_of (answer.Refused fault ∷ answers) reports = Refused fault ∷ replies_of answers reports

-- how many reports are beside an answer
abbrev pub reports_by : Answer → ℕ
reports_by answer.Committed = 1
reports_by answer.Refreshed = 1
reports_by _ = 0

abbrev pub reports_of : List Answer → ℕ
reports_of [] = 0
reports_of (a ∷ answers) = reports_by a + reports_of answers

-- a report for each answer that has one, and no more
abbrev pub AreReports : List Answer → List Report → Type 0
AreReports answers reports = length reports ≡ reports_of answers

-- the answer that a reply is, and the report that it has
abbrev pub answer_of : Reply → Answer
answer_of Started = answer.Started
answer_of More = answer.More
answer_of End = answer.End
answer_of (Committed r) = answer.Committed
answer_of (Refreshed r) = answer.Refreshed
answer_of New = answer.New
answer_of Already = answer.Already
answer_of (Gathered mask) = answer.Gathered mask
answer_of Held = answer.Held
answer_of (Refused fault) = answer.Refused fault

abbrev pub report_of : Reply → List Report
report_of (Committed r) = r ∷ []
report_of (Refreshed r) = r ∷ []
report_of _ = []

-- how many reports an event may have
abbrev pub may_report : Event → ℕ
may_report (Commit t) = 1
may_report (Refresh fields) = 1
may_report _ = 0

abbrev pub reporting : List Event → ℕ
reporting [] = 0
reporting (e ∷ events) = may_report e + reporting events

-- TASKS

-- what the task of a number keeps, if it is there
abbrev pub memory_at : Shared → ℕ → Option TaskMemory
memory_at k t = flat (slice_get k.memories.items t)

-- whether a scan of the task is open
abbrev pub open_by : Option TaskMemory → Bool
open_by None = false
open_by (Some s) = is_some s.tickets

-- a task with its variables by name
abbrev pub task_in : Config → ℕ → TaskMemory → TaskState
task_in c t s = record { variables = variables_in c t s.variables; tickets = s.tickets }

abbrev pub task_by : Config → ℕ → Option TaskMemory → Option TaskState
task_by c t None = None
task_by c t (Some s) = Some (task_in c t s)

-- the tasks, of which the first has this number
abbrev pub tasks_in : Config → ℕ → List (Option TaskMemory) → List (Option TaskState)
tasks_in c t [] = []
tasks_in c t (s ∷ memories) = task_by c t s ∷ tasks_in c (t + 1) memories

-- the group of the definitions, by its parts
abbrev pub group_by : Config → Image → Calls → Values → List (Option TaskMemory) → Group
group_by c image calls globals memories = record { image = image; calls = calls; globals = globals; tasks = tasks_in c 0 memories }

abbrev pub group_in : Config → Shared → Group
group_in c k = group_by c k.image k.calls (globals_in c k.globals) k.memories.items

-- WHAT HOLDS OF IT

-- rows have a value of its declared set for each variable of a task
abbrev pub FitDeclared : Config → ℕ → Rows → Type 0
FitDeclared c t r = FitsOwn c t r × OwnsDeclared c t (variables_in c t r)

-- those of each task that is there
abbrev pub MemoriesFit : Config → Shared → Type 0
MemoriesFit c k = (t : ℕ) (s : TaskMemory) → memory_at k t ≡ Some s → FitDeclared c t s.variables

-- the rows of what the tasks share fit: those of each task, and those of the globals
pub record SharedFits (c : Config) (k : Shared) : Type 0 where
  pub memories : MemoriesFit c k
  pub globals : FitsGlobals c k.globals

-- the tasks once one has another variables and tickets
abbrev pub with_memory : Shared → ℕ → Rows → Option (List (Option ℕ)) → List (Option TaskMemory)
with_memory k t v tickets = slice_set k.memories.items t (Some (record { variables = v; tickets = tickets }))

-- what holds of what the tasks share: the rows fit, all lies in its ranges, the image obeys the interlock, and an open scan saw the ticket
-- of each slot
pub record HoldsShared (c : Config) (k : Shared) : Type 0 where
  pub runnable : IsRunnable c
  pub fits : SharedFits c k
  pub ranges : InRanges c (group_in c k)
  pub obeys : Obeys k.image
  pub tickets : TicketsHold k.calls
  pub many : length k.memories.items ≡ suc (sizes_of c).cars
  pub saw : (t : ℕ) (s : TaskMemory) (tickets : List (Option ℕ)) → memory_at k t ≡ Some s → s.tickets ≡ Some tickets → length tickets ≡ (sizes_of c).slots

-- COMMITS

-- a task whose scan is open, with the ticket of each slot
pub record HasOpenScan (c : Config) (k : Shared) (t : ℕ) : Type 0 where
  pub memory : TaskMemory
  pub there : memory_at k t ≡ Some memory
  pub tickets : List (Option ℕ)
  pub saw : memory.tickets ≡ Some tickets
  pub each : length tickets ≡ (sizes_of c).slots

-- what the commit of a task leaves, whose scan left these values: the definitions' group and report; the task is between scans, and the rows fit
pub record Commits (c : Config) (t : ℕ) (before : Shared) (values : Values) (after : Shared) (report : Report) : Type 0 where
  pub group : (s : TaskMemory) (tickets : List (Option ℕ)) → memory_at before t ≡ Some s → s.tickets ≡ Some tickets → committed_group c (group_in c before) t (task_in c t s) tickets values ≡ (group_in c after, report)
  pub closed : (v : Rows) × (after.memories.items ≡ with_memory before t v None)
  pub fits : SharedFits c after

-- the same under these tickets
pub record CommitsUnder (c : Config) (t : ℕ) (before : Shared) (tickets : List (Option ℕ)) (values : Values) (after : Shared) (report : Report) : Type 0 where
  pub group : (s : TaskMemory) → memory_at before t ≡ Some s → committed_group c (group_in c before) t (task_in c t s) tickets values ≡ (group_in c after, report)
  pub closed : (v : Rows) × (after.memories.items ≡ with_memory before t v None)
  pub fits : SharedFits c after

-- a task is between scans, with what a scan that left these values left of its variables
abbrev pub ClosesWith : Config → ℕ → TaskMemory → Values → Option TaskMemory → Type 0
ClosesWith c t s values after =
    (v : Rows) × (after ≡ Some (record { variables = v; tickets = None })) × FitsOwn c t v × OwnsDeclared c t (variables_in c t v) × (variables_in c t v ≡ restricted (variables_in c t s.variables) values)

-- the same among the tasks, of which the others stay
abbrev pub ClosesAmong : Config → ℕ → Shared → TaskMemory → Values → Shared → Type 0
ClosesAmong c t before s values after =
    (v : Rows) × (after.memories.items ≡ with_memory before t v None) × (variables_in c t v ≡ restricted (variables_in c t s.variables) values)

-- these calls and answers come of it when GROUP's values tell each call that they assign, under these tickets
abbrev pub TellsTo : Calls → List (Option ℕ) → Values → Calls → List Answered → Type 0
TellsTo calls tickets values after answers = tell_all calls [] 1 tickets (assigned (length tickets) values) ≡ (after, answers)

-- GROUP's commit, once its calls are told
abbrev pub CommitsTold : Config → Shared → List Answered → Values → Shared → Report → Type 0
CommitsTold c before answers values after report =
    (calls : Calls) (tickets : List (Option ℕ)) → TellsTo calls tickets values before.calls answers → CommitsUnder c 0 (record before { calls = calls }) tickets values after report

-- what is reported of a car whose outputs are settled, with these answers
abbrev pub settled_report : Image → ℕ → Motor → Bool → List Answered → Report
settled_report image car motor opens answers =
    let settled = settled_car image car motor opens in
    record { outputs = with_outputs image.outputs car settled.outputs; denials = denials_of car settled.denials; answers = answers; entered = [] }

-- the ticket of the slot of a wish, among these; 0 wishes none
abbrev pub wished_ticket : List (Option ℕ) → ℕ → Option ℕ
wished_ticket tickets zero = None
wished_ticket tickets (suc slot) = flat (slice_get tickets slot)

-- what a car serves, under the ticket of the slot of its wish
abbrev pub serve_under : Calls → ℕ → ℕ → Option ℕ → Calls × List Answered
serve_under calls car zero ticket = (calls, [])
serve_under calls car (suc slot) ticket =
    let served = serve_with calls (suc slot) car ticket in
    (served.0, record { slot = suc slot; ticket = ticket; car = car; answer = served.1 } ∷ [])

-- how many slots are free
abbrev pub free_count : List Slot → ℕ
free_count [] = 0
free_count (Free ∷ slots) = suc (free_count slots)
free_count (Waiting ticket call ∷ slots) = free_count slots
free_count (Told ticket call car ∷ slots) = free_count slots

-- RUNS TO THE END OF A SCAN

-- so many instructions of a task
abbrev pub instructions : ℕ → ℕ → List Event
instructions t zero = []
instructions t (suc n) = Instruction t ∷ instructions t n

-- the replies to so many, of which the last ends the scan
abbrev pub up_to_end : ℕ → List Reply
up_to_end zero = []
up_to_end (suc zero) = End ∷ []
up_to_end (suc (suc n)) = More ∷ up_to_end (suc n)

-- the events of a whole scan of a task, with so many instructions
abbrev pub scan_events : ℕ → ℕ → List Event
scan_events t n = Start t ∷ (instructions t n ++ Commit t ∷ [])
