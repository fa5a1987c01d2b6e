-- The entries of rounds are a journal: of the same group, with no call on the desk or in the hand.
use Rattle.std.proofs.Common.{◌≡◌, ℕ, zero, suc, ◌+◌, ◌≤◌, Bool, true, false, ◌&&◌, ◌==◌, List, [], ◌∷◌, ◌++◌, map, flat_map, length, replicate, Option, Some, None, Result, Ok, Err, refl, sym, ap, ◌∙◌, subst, arith, if◌then◌else◌, All, eq-eqb}
use Rattle.std.proofs.lemmas.List.Elements.{All-head, All-tail}
use Rattle.il_syntax.specs.declared.tree.Config.{Config}
use Rattle.il_semantics.specs.State.{State}
use Rattle.il_semantics.specs.Step.{Outcome, Next as Goes, Trapped, Stuck, step as scan_step}
use Rattle.il_semantics.specs.Scan.{has_ended}
use Rattle.group_spec.specs.declared.image.Sizes.{Sizes}
use Rattle.group_spec.specs.declared.image.Fields.{Fields}
use Rattle.group_spec.specs.declared.calls.Call.{Call}
use Rattle.group_spec.specs.declared.report.Report.{Report}
use Rattle.group_spec.specs.declared.event.Event.{Event}
use Rattle.group_spec.specs.declared.event.Event.TheVariants.{Start, Instruction, Commit, Refresh, Press, Gather}
use Rattle.group_spec.specs.Image.{sizes_of, is_floor, fields_in_range}
use Rattle.group_spec.specs.Calls.{IsCall}
use Rattle.group_spec.specs.Hands.{has_call, has_from}
use Rattle.group_spec.specs.Plant.{PlantState, fields_of_plant}
use Rattle.group_spec.specs.Replies.{Reply, Started, Committed, Refreshed}
use Rattle.group_spec.specs.World.{World, Group, Halt, TaskState, Next, task_at, scan_at, opening, happens, run, and_then, starts, starts_from, instructs, instructs_in, instructs_scan, stepped, commits, commits_scan, commits_ended, refreshes, refreshed_group, presses, presses_floors, presses_new, gathers, gathers_from, counted, answered}
use Rattle.group_laws.specs.Accepted.{IsSound}
use Rattle.group_laws.specs.Runs.{IsReached}
use Rattle.group_laws.specs.Tasks.{budget_of}
use Rattle.group_laws.proofs.Accepted.{accepted_runs_well}
use Rattle.group_laws.proofs.Following.{appends, follow, before, goes_on}
use Rattle.group_laws.proofs.Histories.{event_is_run, from_base, reached_well}
use Rattle.group_spec.specs.declared.journal.Entry.{Entry}
use Rattle.group_spec.specs.declared.journal.Entry.TheVariants as entry
use Rattle.group_plant.specs.declared.switches.Switches.{Switches}
use Rattle.group_journal.specs.Journal.{Enters, AreAccepted, AllCalls, Runs, IsJournalOf, calls_entering}
use Rattle.group_journal.specs.Rounds.{Happen, ending, FinishesAndCommits, Scans, ScanEach, scan_entries, entered_calls_of, desk_events, floors_rising, tasks_in_order, IsRound, Rounds, cleared}
use Rattle.group_journal.proofs.Entering.{start_enters, refresh_is_step}
use Rattle.group_journal.proofs.Handing.{accepted_append}
use Rattle.group_journal.proofs.Journals.{Led, same_world, opening_reached, Ends, takes_first, ended_run}

-- RUNS OF RUNS

pub runs_on : (c : Config) (w m v : World) (xs ys : List Entry) → Runs c w xs m → Runs c m ys v → Runs c w (xs ++ ys) v
runs_on c w m v [] ys same rest = subst (λ x. Runs c x ys v) (sym same) rest
runs_on c w m v (e ∷ xs) ys (x, told, first, more) rest = (x, told, first, runs_on c x m v xs ys more rest)

pub happen_reached : (c : Config) (w v : World) (events : List Event) → IsReached c w → Happen c w events v → IsReached c v
happen_reached c w v events reached h = goes_on c w v [] h.replies events reached h.runs

pub event_reached : (c : Config) (w v : World) (e : Event) (reply : Reply) → IsReached c w → happens c w e ≡ Ok (v, reply) → IsReached c v
event_reached c w v e reply reached is = goes_on c w v [] (reply ∷ []) (e ∷ []) reached (event_is_run c w v e reply [] is)

-- A GROUP WITHOUT CALLS ON DESK AND HAND

-- the same of where an event leads, and of where a run does
abbrev clear_next : Next → Next
clear_next (Err halt) = Err halt
clear_next (Ok n) = Ok (cleared n.0, n.1)

abbrev clear_run : Result (World × List Reply) Halt → Result (World × List Reply) Halt
clear_run (Err halt) = Err halt
clear_run (Ok n) = Ok (cleared n.0, n.1)

starts_clear : (c : Config) (w : World) (t : ℕ) (o : Option TaskState) (s : Option State) → scan_at w t ≡ s → starts c (cleared w) t o ≡ clear_next (starts c w t o)
starts_clear c w t None s is = refl
starts_clear c w t (Some task) None is = ap (starts_from c (cleared w) t task) is ∙ ap (λ x. clear_next (starts_from c w t task x)) (sym is)
starts_clear c w t (Some task) (Some x) is = ap (starts_from c (cleared w) t task) is ∙ ap (λ y. clear_next (starts_from c w t task y)) (sym is)

stepped_clear : (w : World) (t : ℕ) (o : Outcome) → stepped (cleared w) t o ≡ clear_next (stepped w t o)
stepped_clear w t (Trapped trap) = refl
stepped_clear w t Stuck = refl
stepped_clear w t (Goes s) = refl

instructs_scan_clear : (c : Config) (w : World) (t : ℕ) (x : State) (b : Bool) → instructs_scan c (cleared w) t x b ≡ clear_next (instructs_scan c w t x b)
instructs_scan_clear c w t x true = refl
instructs_scan_clear c w t x false = stepped_clear w t (scan_step c x)

instructs_in_clear : (c : Config) (w : World) (t : ℕ) (s : Option State) → instructs_in c (cleared w) t s ≡ clear_next (instructs_in c w t s)
instructs_in_clear c w t None = refl
instructs_in_clear c w t (Some x) = instructs_scan_clear c w t x (has_ended x)

instructs_clear : (c : Config) (w : World) (t : ℕ) (o : Option TaskState) → instructs c (cleared w) t o ≡ clear_next (instructs c w t o)
instructs_clear c w t None = refl
instructs_clear c w t (Some task) = instructs_in_clear c w t (scan_at w t)

commits_ended_clear : (c : Config) (w : World) (t : ℕ) (task : TaskState) (x : State) (b : Bool) → commits_ended c (cleared w) t task x b ≡ clear_next (commits_ended c w t task x b)
commits_ended_clear c w t task x false = refl
commits_ended_clear c w t task x true = refl

commits_scan_clear : (c : Config) (w : World) (t : ℕ) (task : TaskState) (s : Option State) → commits_scan c (cleared w) t task s ≡ clear_next (commits_scan c w t task s)
commits_scan_clear c w t task None = refl
commits_scan_clear c w t task (Some x) = commits_ended_clear c w t task x (has_ended x)

commits_clear : (c : Config) (w : World) (t : ℕ) (o : Option TaskState) → commits c (cleared w) t o ≡ clear_next (commits c w t o)
commits_clear c w t None = refl
commits_clear c w t (Some task) = commits_scan_clear c w t task (scan_at w t)

pub start_clear : (c : Config) (w v : World) (t : ℕ) (r : Reply) → happens c w (Start t) ≡ Led v r → happens c (cleared w) (Start t) ≡ Led (cleared v) r
unfolding happens
start_clear c w v t r is = starts_clear c w t (task_at w.group t) (scan_at w t) refl ∙ ap clear_next is

instruction_clear : (c : Config) (w : World) (t : ℕ) → happens c (cleared w) (Instruction t) ≡ clear_next (happens c w (Instruction t))
unfolding happens
instruction_clear c w t = instructs_clear c w t (task_at w.group t)

commit_clear : (c : Config) (w v : World) (t : ℕ) (r : Reply) → happens c w (Commit t) ≡ Led v r → happens c (cleared w) (Commit t) ≡ Led (cleared v) r
unfolding happens
commit_clear c w v t r is = commits_clear c w t (task_at w.group t) ∙ ap clear_next is

steps_clear : (c : Config) (t n : ℕ) (w : World) (earlier : List Reply) → run c (cleared w) earlier (replicate n (Instruction t)) ≡ clear_run (run c w earlier (replicate n (Instruction t)))
steps_clear c t zero w earlier = refl
steps_clear c t (suc n) w earlier =
    ap (λ (x : Next). and_then x (λ m. run c m.0 (earlier ++ m.1 ∷ []) (replicate n (Instruction t)))) (instruction_clear c w t) ∙ by (happens c w (Instruction t)) (λ v rs. steps_clear c t n v rs)
  where
    by : (x : Next) → ((v : World) (rs : List Reply) → run c (cleared v) rs (replicate n (Instruction t)) ≡ clear_run (run c v rs (replicate n (Instruction t))))
        → and_then (clear_next x) (λ m. run c m.0 (earlier ++ m.1 ∷ []) (replicate n (Instruction t))) ≡ clear_run (and_then x (λ m. run c m.0 (earlier ++ m.1 ∷ []) (replicate n (Instruction t))))
    by (Err halt) rest = refl
    by (Ok m) rest = rest m.0 (earlier ++ m.1 ∷ [])

-- THE BUDGET

-- what the answers to two lists count
answered_append : (t k : ℕ) (es fs : List Event) (rs qs : List Reply) → length rs ≡ length es → answered t k (es ++ fs) (rs ++ qs) ≡ answered t (answered t k es rs) fs qs
answered_append t k [] fs [] qs long = refl
answered_append t k [] fs (r ∷ rs) qs long = absurd (omega (arith, long))
answered_append t k (e ∷ es) fs [] qs long = absurd (omega (arith, long))
answered_append t k (e ∷ es) fs (r ∷ rs) qs long = answered_append t (counted t k e r) es fs rs qs (omega (arith, long))

answered_steps : (t n k : ℕ) → answered t k (replicate n (Instruction t)) (ending n) ≡ k + n
answered_steps t zero k = omega arith
answered_steps t (suc zero) k = ap (λ b. if b then k + 1 else k) (eq-eqb t t refl)
answered_steps t (suc (suc n)) k =
    let more : suc k + suc n ≡ k + suc (suc n) = omega arith in
    ap (λ b. answered t (if b then k + 1 else k) (replicate (suc n) (Instruction t)) (ending (suc n))) (eq-eqb t t refl) ∙ answered_steps t (suc n) (k + 1) ∙ plus k n
  where
    plus : (a b : ℕ) → (a + 1) + suc b ≡ a + suc (suc b)
    plus a b = omega arith

-- so many instructions are within the budget of the task
steps_within : (c : Config) → IsSound c → (t n : ℕ) (w v : World) → IsReached c w → run c w [] (replicate n (Instruction t)) ≡ Ok (v, ending n) → n ≤ budget_of c t
steps_within c sound t n w v reached is =
    let all = from_base c (accepted_runs_well c sound) reached.base reached.begins in
    let here = all.well reached.events w reached.replies reached.is in
    let longer : run c reached.base [] (reached.events ++ replicate n (Instruction t)) ≡ Ok (v, reached.replies ++ ending n) =
    appends c reached.base [] reached.events (replicate n (Instruction t)) ∙ ap (λ r. and_then r (λ m. run c m.0 m.1 (replicate n (Instruction t)))) reached.is ∙ follow c w reached.replies (replicate n (Instruction t)) ∙ ap (before reached.replies) is
    in
    let there = (all.well (reached.events ++ replicate n (Instruction t)) v (reached.replies ++ ending n) longer).within t in
    let count = answered_append t 0 reached.events (replicate n (Instruction t)) reached.replies (ending n) here.replies ∙ answered_steps t n (answered t 0 reached.events reached.replies) in
    omega (arith, there, count)

pub ending_accepted : (n : ℕ) → AreAccepted (ending n)
ending_accepted zero = tt
ending_accepted (suc zero) = (tt, tt)
ending_accepted (suc (suc n)) = (tt, ending_accepted (suc n))

-- SCANS

-- the commit of a scan that was finished is the step of its entry
pub finish_enters : (c : Config) → IsSound c → (t : ℕ) (w v : World) → IsReached c w → (f : FinishesAndCommits c t w v) → Enters c (cleared w) (entry.Commit t) (cleared v) (Committed f.report)
finish_enters c sound t w v reached f =
    let n = f.finish.instructions in
    record {
      instructions = n;
      within = steps_within c sound t n w f.at_end reached f.finish.steps;
      replies = ending n;
      happens =
          appends c (cleared w) [] (replicate n (Instruction t)) (Commit t ∷ []) ∙ ap (λ r. and_then r (λ m. run c m.0 m.1 (Commit t ∷ []))) (steps_clear c t n w [] ∙ ap clear_run f.finish.steps)
          ∙ event_is_run c (cleared f.at_end) (cleared v) (Commit t) (Committed f.report) (ending n) (commit_clear c f.at_end v t (Committed f.report) f.commit);
      accepted = accepted_append (ending n) (Committed f.report ∷ []) (ending_accepted n) (tt, tt);
    }

pub finish_reached : (c : Config) (t : ℕ) (w v : World) → IsReached c w → FinishesAndCommits c t w v → IsReached c v
finish_reached c t w v reached f = event_reached c f.at_end v (Commit t) (Committed f.report) (goes_on c w f.at_end [] (ending f.finish.instructions) (replicate f.finish.instructions (Instruction t)) reached f.finish.steps) f.commit

pub scan_reached : (c : Config) (t : ℕ) (w v : World) → IsReached c w → Scans c t w v → IsReached c v
scan_reached c t w v reached s = finish_reached c t s.started v (event_reached c w s.started (Start t) Started reached s.start) s.rest

-- a scan of a task is two entries
scan_runs : (c : Config) → IsSound c → (t : ℕ) (w v : World) → IsReached c w → Scans c t w v → Runs c (cleared w) (scan_entries t) (cleared v)
scan_runs c sound t w v reached s =
    let first = start_enters c (cleared w) (cleared s.started) t (start_clear c w s.started t Started s.start) in
    let last = finish_enters c sound t s.started v (event_reached c w s.started (Start t) Started reached s.start) s.rest in
    (cleared s.started, Started, first, (cleared v, Committed s.rest.report, last, refl))

each_runs : (c : Config) → IsSound c → (tasks : List ℕ) (w v : World) → IsReached c w → ScanEach c tasks w v → Runs c (cleared w) (flat_map scan_entries tasks) (cleared v)
each_runs c sound [] w v reached same = ap cleared same
each_runs c sound (t ∷ tasks) w v reached (m, first, rest) =
    runs_on c (cleared w) (cleared m) (cleared v) (scan_entries t) (flat_map scan_entries tasks) (scan_runs c sound t w m reached first) (each_runs c sound tasks m v (scan_reached c t w m reached first) rest)

pub each_reached : (c : Config) (tasks : List ℕ) (w v : World) → IsReached c w → ScanEach c tasks w v → IsReached c v
each_reached c [] w v reached same = subst (IsReached c) same reached
each_reached c (t ∷ tasks) w v reached (m, first, rest) = each_reached c tasks m v (scan_reached c t w m reached first) rest

-- EVENTS ON THE DESK

abbrev of_led : {A : Type 0} → (World → A) → A → Next → A
of_led f other (Err halt) = other
of_led f other (Ok n) = f n.0

-- they leave the group and its scans as they were
abbrev Leaves : World → Next → Type 0
Leaves w (Err halt) = Unit {0}
Leaves w (Ok n) = cleared n.0 ≡ cleared w

presses_new_leaves : (w : World) (call : Call) (b : Bool) → Leaves w (presses_new w call b)
presses_new_leaves w call true = refl
presses_new_leaves w call false = refl

presses_floors_leaves : (w : World) (call : Call) (b : Bool) → Leaves w (presses_floors w call b)
presses_floors_leaves w call true = refl
presses_floors_leaves w call false = presses_new_leaves w call (has_call w.desk call)

presses_leaves : (w : World) (call : Call) (b : Bool) → Leaves w (presses w call b)
presses_leaves w call false = refl
presses_leaves w call true = presses_floors_leaves w call (call.from == call.to)

gathers_from_leaves : (w : World) (floor : ℕ) (b : Bool) → Leaves w (gathers_from w floor b)
gathers_from_leaves w floor true = refl
gathers_from_leaves w floor false = refl

gathers_leaves : (w : World) (floor : ℕ) (b : Bool) → Leaves w (gathers w floor b)
gathers_leaves w floor false = refl
gathers_leaves w floor true = gathers_from_leaves w floor (has_from w.hand floor)

press_leaves : (c : Config) (w : World) (call : Call) → Leaves w (happens c w (Press call))
unfolding happens
press_leaves c w call = presses_leaves w call (is_floor (sizes_of c) call.from && is_floor (sizes_of c) call.to)

gather_leaves : (c : Config) (w : World) (floor : ℕ) → Leaves w (happens c w (Gather floor))
unfolding happens
gather_leaves c w floor = gathers_leaves w floor (is_floor (sizes_of c) floor)

-- an event on the desk
abbrev IsOnDesk : Event → Type 0
IsOnDesk (Press call) = Unit {0}
IsOnDesk (Gather floor) = Unit {0}
IsOnDesk _ = ⊥

abbrev AreOnDesk : List Event → Type 0
AreOnDesk [] = Unit {0}
AreOnDesk (e ∷ events) = IsOnDesk e × AreOnDesk events

on_desk_leaves : (c : Config) (w : World) (e : Event) → IsOnDesk e → Leaves w (happens c w e)
on_desk_leaves c w (Press call) on = press_leaves c w call
on_desk_leaves c w (Gather floor) on = gather_leaves c w floor
on_desk_leaves c w (Start t) on = absurd on
on_desk_leaves c w (Instruction t) on = absurd on
on_desk_leaves c w (Commit t) on = absurd on
on_desk_leaves c w (Refresh fields) on = absurd on

desk_run_leaves : (c : Config) (events : List Event) (w v : World) (earlier all : List Reply) → AreOnDesk events → Ends c w earlier events v all → AreAccepted all → cleared v ≡ cleared w
desk_run_leaves c [] w v earlier all on is accepted = ap cleared (sym (ended_run c w v earlier all is))
desk_run_leaves c (e ∷ events) w v earlier all on is accepted =
    let g = takes_first c w v earlier all e events is accepted in
    let here : cleared g.next ≡ cleared w = subst (Leaves w) g.happens (on_desk_leaves c w e on.0) in
    desk_run_leaves c events g.next v (earlier ++ g.reply ∷ []) all on.1 g.rest accepted ∙ here

on_desk_append : (xs ys : List Event) → AreOnDesk xs → AreOnDesk ys → AreOnDesk (xs ++ ys)
on_desk_append [] ys a b = b
on_desk_append (x ∷ xs) ys a b = (a.0, on_desk_append xs ys a.1 b)

presses_on_desk : (calls : List Call) → AreOnDesk (map Press calls)
presses_on_desk [] = tt
presses_on_desk (call ∷ calls) = (tt, presses_on_desk calls)

gathers_on_desk : (floors : List ℕ) → AreOnDesk (map Gather floors)
gathers_on_desk [] = tt
gathers_on_desk (floor ∷ floors) = (tt, gathers_on_desk floors)

pub desk_leaves : (c : Config) (calls : List Call) (w v : World) → Happen c w (desk_events c calls) v → cleared v ≡ cleared w
desk_leaves c calls w v h = desk_run_leaves c (desk_events c calls) w v [] h.replies (on_desk_append (map Press calls) (map Gather (floors_rising c)) (presses_on_desk calls) (gathers_on_desk (floors_rising c))) h.runs h.accepted

-- REFRESH

-- what an accepted refresh is
pub record Refreshes (c : Config) (w v : World) (fields : Fields) (report : Report) : Type 0 where
  pub inside : fields_in_range (sizes_of c) fields ≡ true
  pub group : refreshed_group w.group fields w.hand ≡ (v.group, report)
  pub scans : v.scans ≡ w.scans

refreshes_by : (c : Config) (w v : World) (fields : Fields) (report : Report) (b : Bool) → fields_in_range (sizes_of c) fields ≡ b → refreshes w fields b ≡ Led v (Refreshed report) → Refreshes c w v fields report
refreshes_by c w v fields report false inside is = let no = (same_world _ v _ (Refreshed report) is).1 in cc
refreshes_by c w v fields report true inside is =
    let both = same_world _ v _ (Refreshed report) is in
    let told : (refreshed_group w.group fields w.hand).1 ≡ report = refreshed_report (refreshed_group w.group fields w.hand).1 report both.1 in
    record { inside = inside; group = pair_is (refreshed_group w.group fields w.hand) v.group report (ap (λ (x : World). x.group) both.0) told; scans = ap (λ (x : World). x.scans) (sym both.0) }
  where
    refreshed_report : (a b : Report) → Refreshed a ≡ Refreshed b → a ≡ b
    refreshed_report a b e = cc

    pair_is : (p : Group × Report) (g : Group) (r : Report) → p.0 ≡ g → p.1 ≡ r → p ≡ (g, r)
    pair_is p g r a b = ap (λ x. (x, p.1)) a ∙ ap (λ x. (g, x)) b

pub refresh_of : (c : Config) (w v : World) (fields : Fields) (report : Report) → happens c w (Refresh fields) ≡ Led v (Refreshed report) → Refreshes c w v fields report
unfolding happens
refresh_of c w v fields report is = refreshes_by c w v fields report (fields_in_range (sizes_of c) fields) refl is

pub all_calls : (sizes : Sizes) (calls : List Call) → All (IsCall sizes) calls → AllCalls sizes calls
all_calls sizes [] all = tt
all_calls sizes (call ∷ calls) all = (All-head (IsCall sizes) call calls all, all_calls sizes calls (All-tail (IsCall sizes) call calls all))

-- what a refresh reports as entered
pub reports_entered : (g : Group) (fields : Fields) (hand : List Call) (after : Group) (report : Report) → refreshed_group g fields hand ≡ (after, report) → entered_calls_of report ≡ calls_entering g.calls hand
unfolding refreshed_group
reports_entered g fields hand after report is = ap (λ (r : Group × Report). entered_calls_of r.1) (sym is)

-- a refresh of a world is one entry, with the calls that it reports as entered
pub refresh_runs : (c : Config) → IsSound c → (w v : World) (fields : Fields) (report : Report) → IsReached c w → happens c w (Refresh fields) ≡ Ok (v, Refreshed report) → Enters c (cleared w) (entry.Refresh fields (entered_calls_of report)) (cleared v) (Refreshed report)
refresh_runs c sound w v fields report reached is =
    let r = refresh_of c w v fields report is in
    let here = reached_well c sound w reached in
    subst (λ calls. Enters c (cleared w) (entry.Refresh fields calls) (cleared v) (Refreshed report)) (sym (reports_entered w.group fields w.hand v.group report r.group))
    (refresh_is_step c (cleared w) (cleared v) fields w.hand report refl refl r.inside (all_calls (sizes_of c) w.hand here.hand.each) here.hand.in_order r.group r.scans refl refl)

-- ROUNDS

pub round_reached : (c : Config) (calls : List Call) (switches : Switches) (plant next : PlantState) (w v : World) (entries : List Entry) → IsReached c w → IsRound c calls switches plant next w v entries → IsReached c v
round_reached c calls switches plant next w v entries reached r =
    each_reached c (tasks_in_order c) r.refreshed v (event_reached c r.gathered r.refreshed _ (Refreshed r.report) (happen_reached c w r.gathered (desk_events c calls) reached r.desk) r.refresh) r.scans

round_runs : (c : Config) → IsSound c → (calls : List Call) (switches : Switches) (plant next : PlantState) (w v : World) (entries : List Entry) → IsReached c w → IsRound c calls switches plant next w v entries → Runs c (cleared w) entries (cleared v)
round_runs c sound calls switches plant next w v entries reached r =
    let gathered = happen_reached c w r.gathered (desk_events c calls) reached r.desk in
    let first = refresh_runs c sound r.gathered r.refreshed (fields_of_plant next) r.report gathered r.refresh in
    let more = each_runs c sound (tasks_in_order c) r.refreshed v (event_reached c r.gathered r.refreshed (Refresh (fields_of_plant next)) (Refreshed r.report) gathered r.refresh) r.scans in
    subst (λ es. Runs c (cleared w) es (cleared v)) (sym r.journal)
    (subst (λ x. Runs c x (entry.Refresh (fields_of_plant next) (entered_calls_of r.report) ∷ flat_map scan_entries (tasks_in_order c)) (cleared v)) (desk_leaves c calls w r.gathered r.desk) (cleared r.refreshed, Refreshed r.report, first, more))

pub rounds_reached : (c : Config) (calls : ℕ → List Call) (switches : ℕ → Switches) (n : ℕ) (plant : PlantState) (w : World) (entries : List Entry) → Rounds c calls switches n plant w entries → IsReached c w
rounds_reached c calls switches zero plant w entries (a, is, b) = subst (IsReached c) (sym is) (opening_reached c)
rounds_reached c calls switches (suc n) plant w entries (before, u, earlier, last, rounds, round, is) =
    round_reached c (calls (suc n)) (switches (suc n)) before plant u w last (rounds_reached c calls switches n before u earlier rounds) round

cleared_opening : (c : Config) → cleared (opening c) ≡ opening c
unfolding opening
cleared_opening c = refl

-- the entries of rounds lead from the opening world to that with no call on the desk or in the hand
pub rounds_are_journal : (c : Config) → IsSound c → (calls : ℕ → List Call) (switches : ℕ → Switches) (n : ℕ) (plant : PlantState) (w : World) (entries : List Entry) → Rounds c calls switches n plant w entries → IsJournalOf c entries (cleared w)
rounds_are_journal c sound calls switches zero plant w entries (a, is, none) = subst (λ es. Runs c (opening c) es (cleared w)) (sym none) (sym (cleared_opening c) ∙ ap cleared (sym is))
rounds_are_journal c sound calls switches (suc n) plant w entries (before, u, earlier, last, rounds, round, is) =
    subst (λ es. Runs c (opening c) es (cleared w)) (sym is)
    (runs_on c (opening c) (cleared u) (cleared w) earlier last (rounds_are_journal c sound calls switches n before u earlier rounds) (round_runs c sound (calls (suc n)) (switches (suc n)) before plant u w last (rounds_reached c calls switches n before u earlier rounds) round))
