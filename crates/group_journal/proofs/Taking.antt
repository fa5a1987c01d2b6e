-- Events that can't be refused.
use Rattle.std.proofs.Common.{◌≡◌, ℕ, zero, suc, ◌<◌, ◌≤◌, Bool, true, false, ◌==◌, List, [], ◌∷◌, ◌++◌, length, replicate, Option, Some, None, Ok, Err, refl, sym, ap, ◌∙◌, subst, arith, if◌then◌else◌, All, eq-eqb, inl, inr}
use Rattle.std.specs.Prelude.{slice_get, is_some, nat_le, ◌⊎◌}
use Rattle.std.proofs.lemmas.Bool.Decides.{nat_tests}
use Rattle.std.proofs.lemmas.List.Elements.{All-head, All-tail}
use Rattle.il_syntax.specs.declared.tree.Config.{Config}
use Rattle.il_syntax.specs.declared.tree.Unit.{Unit as ProgramUnit}
use Rattle.il_semantics.specs.State.{State}
use Rattle.il_semantics.specs.Step.{Outcome, Next as Goes, Trapped, Stuck, step as scan_step}
use Rattle.il_semantics.specs.Scan.{has_ended, begins}
use Rattle.group_spec.specs.declared.image.Sizes.{Sizes}
use Rattle.group_spec.specs.declared.image.CarFields.{CarFields}
use Rattle.group_spec.specs.declared.image.Fields.{Fields}
use Rattle.group_spec.specs.declared.calls.Call.{Call}
use Rattle.group_spec.specs.declared.report.Report.{Report}
use Rattle.group_spec.specs.declared.event.Event.{Event}
use Rattle.group_spec.specs.declared.event.Event.TheVariants.{Start, Instruction, Commit, Refresh, Press, Gather}
use Rattle.group_spec.specs.declared.event.EventFault.{EventFault}
use Rattle.group_spec.specs.Image.{sizes_of, IsFloor, FieldsInRange, positions_in_range, fields_in_range}
use Rattle.group_spec.specs.Calls.{IsCall}
use Rattle.group_spec.specs.Hands.{has_call, has_from, IsInOrder}
use Rattle.group_spec.specs.Replies.{Reply, Started, More, End, Committed, Refreshed, Refused}
use Rattle.group_spec.specs.Snapshot.{Beginning, scan_begins, begins_by, program_of}
use Rattle.group_spec.specs.World.{World, TaskState, Next, flat, task_at, scan_at, beginning_of, happens, run, and_then, starts, starts_from, instructs, instructs_in, instructs_scan, stepped, reply_to, commits, commits_scan, commits_ended, refreshes, presses, presses_floors, presses_new, gathers, gathers_from}
use Rattle.group_laws.specs.Accepted.{IsSound}
use Rattle.group_laws.specs.Runs.{IsReached}
use Rattle.group_laws.specs.Tasks.{IsTaskOf}
use Rattle.group_laws.proofs.Histories.{reached_well}
use Rattle.group_laws.proofs.Following.{appends, follow, before, same_end}
use Rattle.group_laws.proofs.Lists.{same_or_other}
use Rattle.group_laws.proofs.Seats.{flat_same}
use Rattle.group_journal.specs.Closed.{IsClosed}
use Rattle.group_journal.specs.Journal.{IsAccepted, AllCalls}
use Rattle.group_journal.specs.Rounds.{Happen, ending, FinishesAndCommits, Scans, desk_events, entered_calls_of}
use Rattle.group_journal.proofs.Handing.{accepted_append, floor_so, both_so}
use Rattle.group_journal.proofs.Scanning.{within}
use Rattle.group_journal.proofs.Journals.{Led, same_world, Puts, has_place, happens_start, commit_run}
use Rattle.group_journal.proofs.Entering.{enters_first}
use Rattle.group_journal.proofs.Orders.{order_left}
use Rattle.group_journal.proofs.Rounds.{desk_leaves, ending_accepted, refresh_of, reports_entered, all_calls}

-- RUNS

pub happen_one : (c : Config) (w v : World) (e : Event) (r : Reply) → happens c w e ≡ Ok (v, r) → IsAccepted r → Happen c w (e ∷ []) v
happen_one c w v e r is taken = record { replies = r ∷ []; runs = ap (λ n. and_then n (λ m. run c m.0 (m.1 ∷ []) [])) is; accepted = (taken, tt) }

pub happen_none : (c : Config) (w : World) → Happen c w [] w
happen_none c w = record { replies = []; runs = refl; accepted = tt }

pub happen_more : (c : Config) (w m v : World) (es fs : List Event) → Happen c w es m → Happen c m fs v → Happen c w (es ++ fs) v
happen_more c w m v es fs first next =
    record {
      replies = first.replies ++ next.replies;
      runs = appends c w [] es fs ∙ ap (λ r. and_then r (λ n. run c n.0 n.1 fs)) first.runs ∙ follow c m first.replies fs ∙ ap (before first.replies) next.runs;
      accepted = accepted_append first.replies next.replies first.accepted next.accepted;
    }

-- DESK

new_taken : (w v : World) (call : Call) (r : Reply) (b : Bool) → presses_new w call b ≡ Led v r → IsAccepted r
new_taken w v call r true is = subst IsAccepted (same_world _ v _ r is).1 tt
new_taken w v call r false is = subst IsAccepted (same_world _ v _ r is).1 tt

pub press_taken : (c : Config) (w v : World) (call : Call) (r : Reply) → IsCall (sizes_of c) call → happens c w (Press call) ≡ Ok (v, r) → IsAccepted r
unfolding happens
press_taken c w v call r is e =
    let floors = both_so _ _ (floor_so (sizes_of c) call.from is.from.0 is.from.1) (floor_so (sizes_of c) call.to is.to.0 is.to.1) in
    new_taken w v call r (has_call w.desk call) (sym (ap (presses w call) floors ∙ ap (presses_floors w call) is.differs) ∙ e)

from_taken : (w v : World) (floor : ℕ) (r : Reply) (b : Bool) → gathers_from w floor b ≡ Led v r → IsAccepted r
from_taken w v floor r true is = subst IsAccepted (same_world _ v _ r is).1 tt
from_taken w v floor r false is = subst IsAccepted (same_world _ v _ r is).1 tt

pub gather_taken : (c : Config) (w v : World) (floor : ℕ) (r : Reply) → 1 ≤ floor → floor ≤ (sizes_of c).floors → happens c w (Gather floor) ≡ Ok (v, r) → IsAccepted r
unfolding happens
gather_taken c w v floor r low high e = from_taken w v floor r (has_from w.hand floor) (sym (ap (gathers w floor) (floor_so (sizes_of c) floor low high)) ∙ e)

-- REFRESH

positions_so : (sizes : Sizes) (cars : List CarFields) → All (λ (car : CarFields). IsFloor sizes car.pos) cars → positions_in_range sizes cars ≡ true
positions_so sizes [] all = refl
positions_so sizes (car ∷ cars) all =
    let first = All-head (λ (x : CarFields). IsFloor sizes x.pos) car cars all in
    both_so _ _ (floor_so sizes car.pos first.0 first.1) (positions_so sizes cars (All-tail (λ (x : CarFields). IsFloor sizes x.pos) car cars all))

le_so : (m n : ℕ) → m ≤ n → nat_le m n ≡ true
le_so m n low = grind (arith, nat_tests)

pub fields_so : (sizes : Sizes) (fields : Fields) → FieldsInRange sizes fields → fields_in_range sizes fields ≡ true
fields_so sizes fields is = both_so _ _ (eq-eqb (length fields.cars) sizes.cars is.cars) (both_so _ _ (positions_so sizes fields.cars is.positions) (both_so _ _ (le_so fields.time 2147483647 is.time) (le_so fields.run_limit sizes.cars is.run_limit)))

-- fields in range are taken
pub refresh_taken : (c : Config) (w v : World) (fields : Fields) (r : Reply) → FieldsInRange (sizes_of c) fields → happens c w (Refresh fields) ≡ Ok (v, r) → (report : Report) × (r ≡ Refreshed report)
unfolding happens
refresh_taken c w v fields r is e = let both = same_world _ v _ r (sym (ap (refreshes w fields) (fields_so (sizes_of c) fields is)) ∙ e) in (_, sym both.1)

-- START

-- what a start leaves, where none is open
pub record IsBegun (c : Config) (t : ℕ) (w v : World) (r : Reply) : Type 0 where
  pub started : r ≡ Started
  pub task : TaskState
  pub there : task_at v.group t ≡ Some task
  pub scan : State
  pub standing : scan_at v t ≡ Some scan
  pub goes_on : has_ended scan ≡ false

none_of : {X : Type 0} (o : Option X) → is_some o ≡ false → o ≡ None
none_of None is = refl
none_of (Some x) is = let no : true ≡ false = is in cc

begun_goes_on : (c : Config) (t : ℕ) (b : Beginning) (u : ProgramUnit) → program_of c t ≡ Some u → has_ended (scan_begins c t b) ≡ false
unfolding scan_begins begins
begun_goes_on c t b u is = ap (λ o. has_ended (begins_by c t b o)) is

start_by : (c : Config) (w v : World) (t : ℕ) (u : ProgramUnit) (r : Reply) (task : TaskState) → IsTaskOf c t u → task_at w.group t ≡ Some task → scan_at w t ≡ None → t < length w.scans → happens c w (Start t) ≡ Led v r → IsBegun c t w v r
unfolding happens
start_by c w v t u r task is there closed among e =
    let both = same_world _ v _ r (sym (ap (starts c w t) there ∙ ap (starts_from c w t task) closed) ∙ e) in
    let scan = scan_begins c t (beginning_of w.group task) in
    record {
      started = sym both.1;
      task = record { variables = task.variables; tickets = Some _ };
      there = ap (λ (x : World). task_at x.group t) (sym both.0) ∙ flat_same w.group.tasks t (Some _) (within w.group.tasks t task there);
      scan = scan;
      standing = ap (λ (x : World). scan_at x t) (sym both.0) ∙ flat_same w.scans t (Some scan) among;
      goes_on = begun_goes_on c t (beginning_of w.group task) u is.program;
    }

-- a task of the group starts, where no scan of it is open
pub start_begins : (c : Config) → IsSound c → (w v : World) (t : ℕ) (u : ProgramUnit) (r : Reply) → IsReached c w → IsTaskOf c t u → is_some (scan_at w t) ≡ false → happens c w (Start t) ≡ Ok (v, r) → IsBegun c t w v r
start_begins c sound w v t u r reached is closed e =
    let well = reached_well c sound w reached in
    let task = well.tasks t u is in
    start_by c w v t u r task.0 is task.1 (none_of (scan_at w t) closed) (has_place c sound w reached t task.0 task.1) e

-- TO THE END OF A SCAN

not_refused : (v : World) (t : ℕ) (fault : EventFault) (o : Outcome) → stepped v t o ≡ Led v (Refused fault) → ⊥
not_refused v t fault (Trapped trap) e = cc
not_refused v t fault Stuck e = cc
not_refused v t fault (Goes s) e = by (has_ended s) (same_world _ v (reply_to s) (Refused fault) e).1
  where
    by : (b : Bool) → (if b then End else More) ≡ Refused fault → ⊥
    by true e = cc
    by false e = cc

-- a scan that has begun and not ended takes an instruction
pub begun_taken : (c : Config) (w v : World) (t : ℕ) (r : Reply) (fault : EventFault) → IsBegun c t w v r → happens c v (Instruction t) ≡ Ok (v, Refused fault) → ⊥
unfolding happens
begun_taken c w v t r fault b e = not_refused v t fault (scan_step c b.scan) (sym (ap (instructs c v t) b.there ∙ ap (instructs_in c v t) b.standing ∙ ap (instructs_scan c v t b.scan) b.goes_on) ∙ e)

-- a scan at its end
pub record IsOver (c : Config) (t : ℕ) (w : World) : Type 0 where
  pub task : TaskState
  pub there : task_at w.group t ≡ Some task
  pub scan : State
  pub standing : scan_at w t ≡ Some scan
  pub over : has_ended scan ≡ true

end_is : (b : Bool) → (if b then End else More) ≡ End → b ≡ true
end_is true e = refl
end_is false e = cc

stepped_over : (c : Config) (w v : World) (t : ℕ) (task : TaskState) (x : State) (o : Outcome) → task_at w.group t ≡ Some task → scan_at w t ≡ Some x → stepped w t o ≡ Led v End → IsOver c t v
stepped_over c w v t task x (Trapped trap) there here e = cc
stepped_over c w v t task x Stuck there here e = cc
stepped_over c w v t task x (Goes s) there here e =
    let both = same_world _ v (reply_to s) End e in
    record {
      task = task;
      there = ap (λ (y : World). task_at y.group t) (sym both.0) ∙ there;
      scan = s;
      standing = ap (λ (y : World). scan_at y t) (sym both.0) ∙ flat_same w.scans t (Some s) (within w.scans t x here);
      over = end_is (has_ended s) both.1;
    }

over_by : (c : Config) (w v : World) (t : ℕ) (o : Option TaskState) (s : Option State) (b : Bool) → task_at w.group t ≡ o → scan_at w t ≡ s → ((x : State) → s ≡ Some x → has_ended x ≡ b) → instructs c w t o ≡ Led v End → IsOver c t v
over_by c w v t None s b there is ends e = let no = (same_world w v _ End e).1 in cc
over_by c w v t (Some task) None b there is ends e = let no = (same_world w v _ End (sym (ap (instructs_in c w t) is) ∙ e)).1 in cc
over_by c w v t (Some task) (Some x) true there is ends e = let no = (same_world w v _ End (sym (ap (instructs_scan c w t x) (ends x refl)) ∙ sym (ap (instructs_in c w t) is) ∙ e)).1 in cc
over_by c w v t (Some task) (Some x) false there is ends e = stepped_over c w v t task x (scan_step c x) there is (sym (ap (instructs_scan c w t x) (ends x refl)) ∙ sym (ap (instructs_in c w t) is) ∙ e)

abbrev ended_of : Option State → Bool
ended_of None = false
ended_of (Some x) = has_ended x

instruction_over : (c : Config) (w v : World) (t : ℕ) → happens c w (Instruction t) ≡ Led v End → IsOver c t v
unfolding happens
instruction_over c w v t e = over_by c w v t (task_at w.group t) (scan_at w t) (ended_of (scan_at w t)) refl refl (λ x is. ap ended_of (sym is)) e

-- the last of some replies
abbrev last_of : List Reply → Option Reply
last_of [] = None
last_of (r ∷ []) = Some r
last_of (r ∷ q ∷ rs) = last_of (q ∷ rs)

last_append : (xs : List Reply) (r : Reply) → last_of (xs ++ r ∷ []) ≡ Some r
last_append [] r = refl
last_append (x ∷ []) r = refl
last_append (x ∷ y ∷ xs) r = last_append (y ∷ xs) r

last_ending : (n : ℕ) → last_of (ending (suc n)) ≡ Some End
last_ending zero = refl
last_ending (suc zero) = refl
last_ending (suc (suc n)) = last_ending (suc n)

same_reply : (a b : Reply) → ◌≡◌ {A = Option Reply} (Some a) (Some b) → a ≡ b
same_reply a b e = cc

ends_over : (c : Config) (t n : ℕ) (w v : World) (earlier all : List Reply) → run c w earlier (replicate (suc n) (Instruction t)) ≡ Ok (v, all) → last_of all ≡ Some End → IsOver c t v
ends_over c t zero w v earlier all e last = by (happens c w (Instruction t)) refl e
  where
    by : (n : Next) → happens c w (Instruction t) ≡ n → and_then n (λ m. run c m.0 (earlier ++ m.1 ∷ []) []) ≡ Ok (v, all) → IsOver c t v
    by (Err halt) h e = cc
    by (Ok m) h e =
        let both = same_end m.0 v (earlier ++ m.1 ∷ []) all e in
        let end : m.1 ≡ End = same_reply m.1 End (sym (last_append earlier m.1) ∙ ap (λ p. last_of p.1) both ∙ last) in
        instruction_over c w v t (h ∙ ap (λ x. Led x m.1) (ap (λ p. p.0) both) ∙ ap (Led v) end)
ends_over c t (suc n) w v earlier all e last = by (happens c w (Instruction t)) e (λ m rs. ends_over c t n m v rs all)
  where
    by : (x : Next) → and_then x (λ m. run c m.0 (earlier ++ m.1 ∷ []) (replicate (suc n) (Instruction t))) ≡ Ok (v, all)
        → ((m : World) (rs : List Reply) → run c m rs (replicate (suc n) (Instruction t)) ≡ Ok (v, all) → last_of all ≡ Some End → IsOver c t v) → IsOver c t v
    by (Err halt) e rest = cc
    by (Ok m) e rest = rest m.0 (earlier ++ m.1 ∷ []) e last

commit_over : (c : Config) (w v : World) (t : ℕ) (r : Reply) → IsOver c t w → happens c w (Commit t) ≡ Led v r → (report : Report) × (r ≡ Committed report)
unfolding happens
commit_over c w v t r o e = let both = same_world _ v _ r (sym (ap (commits c w t) o.there ∙ ap (commits_scan c w t o.task) o.standing ∙ ap (commits_ended c w t o.task o.scan) o.over) ∙ e) in (_, sym both.1)

-- a scan that was run to its end commits, and that is what it is answered
pub finished : (c : Config) (w u v : World) (t n : ℕ) (r : Reply) → 1 ≤ n → run c w [] (replicate n (Instruction t)) ≡ Ok (u, ending n) → happens c u (Commit t) ≡ Ok (v, r) → (rest : FinishesAndCommits c t w v) × (r ≡ Committed rest.report)
finished c w u v t zero r some steps e = absurd (omega (arith, some))
finished c w u v t (suc n) r some steps e =
    let report = commit_over c u v t r (ends_over c t n w u [] (ending (suc n)) steps (last_ending n)) e in
    (record { at_end = u; finish = record { instructions = suc n; steps = steps }; report = report.0; commit = e ∙ ap (Led v) report.1 }, report.1)

-- WHOSE SCANS ARE OPEN

closes : (w m v : World) (t : ℕ) → Puts w m t true → Puts m v t false → IsClosed w → IsClosed v
closes w m v t first last closed j = by (same_or_other j t)
  where
    by : ((j ≡ t) × ((j == t) ≡ true)) ⊎ ((j ≡ t → ⊥) × ((j == t) ≡ false)) → is_some (scan_at v j) ≡ false
    by (inl same) = subst (λ k. is_some (scan_at v k) ≡ false) (sym same.0) last.own
    by (inr other) = ap is_some (last.others j other.0 ∙ first.others j other.0) ∙ closed j

pub finish_closes : (c : Config) (t : ℕ) (w v : World) → FinishesAndCommits c t w v → Puts w v t false
finish_closes c t w v f =
    let n = f.finish.instructions in
    let all = ending n ++ Committed f.report ∷ [] in
    let runs : run c w [] (replicate n (Instruction t) ++ Commit t ∷ []) ≡ Ok (v, all) =
    appends c w [] (replicate n (Instruction t)) (Commit t ∷ []) ∙ ap (λ r. and_then r (λ m. run c m.0 m.1 (Commit t ∷ []))) f.finish.steps ∙ ap (λ x. and_then x (λ m. run c m.0 (ending n ++ m.1 ∷ []) [])) f.commit
    in
    (commit_run c n w v t [] all runs (accepted_append (ending n) (Committed f.report ∷ []) (ending_accepted n) (tt, tt))).1

pub scan_closes : (c : Config) → IsSound c → (t : ℕ) (w v : World) → IsReached c w → Scans c t w v → IsClosed w → IsClosed v
scan_closes c sound t w v reached s = closes w s.started v t (happens_start c w s.started t Started (λ task is. has_place c sound w reached t task is) s.start tt).1 (finish_closes c t s.started v s.rest)

pub desk_closes : (c : Config) (calls : List Call) (w v : World) → Happen c w (desk_events c calls) v → IsClosed w → IsClosed v
desk_closes c calls w v h closed j = ap (λ (x : World). is_some (scan_at x j)) (desk_leaves c calls w v h) ∙ closed j

pub refresh_closes : (c : Config) (w v : World) (fields : Fields) (report : Report) → happens c w (Refresh fields) ≡ Ok (v, Refreshed report) → IsClosed w → IsClosed v
refresh_closes c w v fields report e closed j = ap (λ ss. is_some (flat (slice_get ss j))) (refresh_of c w v fields report e).scans ∙ closed j

-- WHAT A REFRESH ENTERS

pub calls_left : (sizes : Sizes) (xs ys : List Call) → AllCalls sizes (xs ++ ys) → AllCalls sizes xs
calls_left sizes [] ys all = tt
calls_left sizes (x ∷ xs) ys all = (all.0, calls_left sizes xs ys all.1)

-- the calls that a refresh enters are some of the group, in the order of (from, to)
pub entered_are : (c : Config) → IsSound c → (w v : World) (fields : Fields) (report : Report) → IsReached c w → happens c w (Refresh fields) ≡ Ok (v, Refreshed report) → AllCalls (sizes_of c) (entered_calls_of report) × IsInOrder (entered_calls_of report)
entered_are c sound w v fields report reached e =
    let r = refresh_of c w v fields report e in
    let hand = (reached_well c sound w reached).hand in
    let same = reports_entered w.group fields w.hand v.group report r.group in
    let first = enters_first w.group.calls w.hand in (
      subst (AllCalls (sizes_of c)) (sym same) (calls_left (sizes_of c) _ _ (subst (AllCalls (sizes_of c)) first (all_calls (sizes_of c) w.hand hand.each))),
      subst IsInOrder (sym same) (order_left _ _ (subst IsInOrder first hand.in_order)),
    )
