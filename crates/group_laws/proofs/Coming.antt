-- Where the open scans of a world come from, and what a refused event leaves.
use Rattle.std.proofs.Common.{◌≡◌, ℕ, suc, ◌<◌, ◌⊎◌, inl, inr, Bool, true, false, ◌&&◌, ◌==◌, length, slice_get, slice_set, if◌then◌else◌, refl, sym, ap, subst, Some, None, Option, Ok, Err, arith}
use Rattle.il_syntax.specs.declared.tree.Config.{Config}
use Rattle.il_semantics.specs.State.{State}
use Rattle.il_semantics.specs.Step.{Outcome, step, Next as Goes, Trapped, Stuck}
use Rattle.il_semantics.specs.Scan.{has_ended}
use Rattle.group_spec.specs.declared.image.Fields.{Fields}
use Rattle.group_spec.specs.declared.calls.Call.{Call}
use Rattle.group_spec.specs.declared.report.Report.{Report}
use Rattle.group_spec.specs.declared.event.Event.{Event}
use Rattle.group_spec.specs.declared.event.Event.TheVariants.{Start, Instruction, Commit, Refresh, Press, Gather}
use Rattle.group_spec.specs.Replies.{Reply}
use Rattle.group_spec.specs.declared.event.EventFault.{EventFault}
use Rattle.group_spec.specs.Replies.{Started, More, End, Committed, Refused}
use Rattle.group_spec.specs.Image.{sizes_of, is_floor, fields_in_range}
use Rattle.group_spec.specs.Hands.{has_call, has_from}
use Rattle.group_spec.specs.Snapshot.{scan_begins}
use Rattle.group_spec.specs.World.{World, TaskState, Next, flat, happens, task_at, scan_at, beginning_of, starts, starts_from, instructs, instructs_in, instructs_scan, stepped, reply_to, counted, commits, commits_scan, commits_ended, refreshes, presses, presses_floors, presses_new, gathers, gathers_from}
use Rattle.group_laws.specs.Holding.{SeatHolds, TaskHolds, WorldHolds}
use Rattle.group_laws.specs.Runs.{RefusalChangesNothing}
use Rattle.group_laws.proofs.Lists.{same_or_other, get_other}
use Rattle.group_laws.proofs.Steps.{counts_own, counts_other, counts_start, counts_other_start}
use Rattle.group_laws.proofs.Seats.{flat_same}

-- SCANS

-- the scan of a task after an event: it is as it was, or is gone, or has begun, or has made a step
pub data Comes (c : Config) (w : World) (e : Event) (r : Reply) (t : ℕ) (now : Option State) : Type 0 where
  stays : now ≡ scan_at w t → ((n : ℕ) → counted t n e r ≡ n) → Comes c w e r t now
  ends : now ≡ None → Comes c w e r t now
  begins : (task : TaskState) → e ≡ Start t → r ≡ Started → task_at w.group t ≡ Some task → now ≡ Some (scan_begins c t (beginning_of w.group task)) → ((n : ℕ) → counted t n e r ≡ 0) → Comes c w e r t now
  moves : (old new : State) → scan_at w t ≡ Some old → step c old ≡ Goes new → now ≡ Some new → ((n : ℕ) → counted t n e r ≡ suc n) → Comes c w e r t now

abbrev Come : Config → World → Event → Next → Type 0
Come c w e (Err halt) = Unit {0}
Come c w e (Ok n) = (t : ℕ) → Comes c w e n.1 t (scan_at n.0 t)

-- the scans of other tasks are as they were
elsewhere : (w : World) (t j : ℕ) (o : Option State) → (j ≡ t → ⊥) → flat (slice_get (slice_set w.scans t o) j) ≡ scan_at w j
elsewhere w t j o other = ap flat (get_other w.scans t j o other)

starts_from_come : (c : Config) (w : World) (t : ℕ) (task : TaskState) (o : Option State) → t < length w.scans → task_at w.group t ≡ Some task → Come c w (Start t) (starts_from c w t task o)
starts_from_come c w t task (Some s) among is = λ j. stays refl (λ n. refl)
starts_from_come c w t task None among is = λ j. by j (same_or_other j t)
  where
    by : (j : ℕ) → ((j ≡ t) × ((j == t) ≡ true)) ⊎ ((j ≡ t → ⊥) × ((j == t) ≡ false)) → Comes c w (Start t) Started j (flat (slice_get (slice_set w.scans t (Some (scan_begins c t (beginning_of w.group task)))) j))
    by j (inl same) =
        subst (λ k. Comes c w (Start t) Started k (flat (slice_get (slice_set w.scans t (Some (scan_begins c t (beginning_of w.group task)))) k))) (sym same.0)
        (begins task refl refl is (flat_same w.scans t (Some (scan_begins c t (beginning_of w.group task))) among) (λ n. counts_start t n))
    by j (inr other) = stays (elsewhere w t j (Some (scan_begins c t (beginning_of w.group task))) other.0) (λ n. counts_other_start j t n other.1)

-- a task that is there has a place for its scan
has_place : (c : Config) (steps : ℕ → ℕ) (w : World) (t : ℕ) (task : TaskState) → WorldHolds c steps w → task_at w.group t ≡ Some task → t < length w.scans
has_place c steps w t task h is =
    let seat : TaskHolds c t (steps t) task (scan_at w t) = subst (λ x. SeatHolds c t (steps t) x (scan_at w t)) is (h.each t) in
    omega (arith, seat.is.within, h.scans)

starts_come : (c : Config) (steps : ℕ → ℕ) (w : World) (t : ℕ) (o : Option TaskState) → WorldHolds c steps w → task_at w.group t ≡ o → Come c w (Start t) (starts c w t o)
starts_come c steps w t None h is = λ j. stays refl (λ n. refl)
starts_come c steps w t (Some task) h is = starts_from_come c w t task (scan_at w t) (has_place c steps w t task h is) is

stepped_come : (c : Config) (w : World) (t : ℕ) (old : State) (o : Outcome) → t < length w.scans → scan_at w t ≡ Some old → step c old ≡ o → Come c w (Instruction t) (stepped w t o)
stepped_come c w t old (Trapped trap) among is goes = tt
stepped_come c w t old Stuck among is goes = tt
stepped_come c w t old (Goes s) among is goes = λ j. by j (same_or_other j t)
  where
    by : (j : ℕ) → ((j ≡ t) × ((j == t) ≡ true)) ⊎ ((j ≡ t → ⊥) × ((j == t) ≡ false)) → Comes c w (Instruction t) (reply_to s) j (flat (slice_get (slice_set w.scans t (Some s)) j))
    by j (inl same) =
        subst (λ k. Comes c w (Instruction t) (reply_to s) k (flat (slice_get (slice_set w.scans t (Some s)) k))) (sym same.0) (moves old s is goes (flat_same w.scans t (Some s) among) (λ n. counts_own t n s))
    by j (inr other) = stays (elsewhere w t j (Some s) other.0) (λ n. counts_other j t n s other.1)

instructs_scan_come : (c : Config) (w : World) (t : ℕ) (s : State) (b : Bool) → t < length w.scans → scan_at w t ≡ Some s → Come c w (Instruction t) (instructs_scan c w t s b)
instructs_scan_come c w t s true among is = λ j. stays refl (λ n. refl)
instructs_scan_come c w t s false among is = stepped_come c w t s (step c s) among is refl

instructs_in_come : (c : Config) (w : World) (t : ℕ) (o : Option State) → t < length w.scans → scan_at w t ≡ o → Come c w (Instruction t) (instructs_in c w t o)
instructs_in_come c w t None among is = λ j. stays refl (λ n. refl)
instructs_in_come c w t (Some s) among is = instructs_scan_come c w t s (has_ended s) among is

instructs_come : (c : Config) (steps : ℕ → ℕ) (w : World) (t : ℕ) (o : Option TaskState) → WorldHolds c steps w → task_at w.group t ≡ o → Come c w (Instruction t) (instructs c w t o)
instructs_come c steps w t None h is = λ j. stays refl (λ n. refl)
instructs_come c steps w t (Some task) h is = instructs_in_come c w t (scan_at w t) (has_place c steps w t task h is) refl

commits_ended_come : (c : Config) (w : World) (t : ℕ) (task : TaskState) (s : State) (b : Bool) → t < length w.scans → Come c w (Commit t) (commits_ended c w t task s b)
commits_ended_come c w t task s false among = λ j. stays refl (λ n. refl)
commits_ended_come c w t task s true among = λ j. by j (same_or_other j t)
  where
    by : {r : Report} (j : ℕ) → ((j ≡ t) × ((j == t) ≡ true)) ⊎ ((j ≡ t → ⊥) × ((j == t) ≡ false)) → Comes c w (Commit t) (Committed r) j (flat (slice_get (slice_set w.scans t None) j))
    by j (inl same) = ends (subst (λ k. flat (slice_get (slice_set w.scans t None) k) ≡ None) (sym same.0) (flat_same w.scans t None among))
    by j (inr other) = stays (elsewhere w t j None other.0) (λ n. refl)

commits_scan_come : (c : Config) (w : World) (t : ℕ) (task : TaskState) (o : Option State) → t < length w.scans → Come c w (Commit t) (commits_scan c w t task o)
commits_scan_come c w t task None among = λ j. stays refl (λ n. refl)
commits_scan_come c w t task (Some s) among = commits_ended_come c w t task s (has_ended s) among

commits_come : (c : Config) (steps : ℕ → ℕ) (w : World) (t : ℕ) (o : Option TaskState) → WorldHolds c steps w → task_at w.group t ≡ o → Come c w (Commit t) (commits c w t o)
commits_come c steps w t None h is = λ j. stays refl (λ n. refl)
commits_come c steps w t (Some task) h is = commits_scan_come c w t task (scan_at w t) (has_place c steps w t task h is)

refreshes_come : (c : Config) (w : World) (fields : Fields) (b : Bool) → Come c w (Refresh fields) (refreshes w fields b)
refreshes_come c w fields true = λ j. stays refl (λ n. refl)
refreshes_come c w fields false = λ j. stays refl (λ n. refl)

presses_new_come : (c : Config) (w : World) (call : Call) (b : Bool) → Come c w (Press call) (presses_new w call b)
presses_new_come c w call true = λ j. stays refl (λ n. refl)
presses_new_come c w call false = λ j. stays refl (λ n. refl)

presses_floors_come : (c : Config) (w : World) (call : Call) (b : Bool) → Come c w (Press call) (presses_floors w call b)
presses_floors_come c w call true = λ j. stays refl (λ n. refl)
presses_floors_come c w call false = presses_new_come c w call (has_call w.desk call)

presses_come : (c : Config) (w : World) (call : Call) (b : Bool) → Come c w (Press call) (presses w call b)
presses_come c w call false = λ j. stays refl (λ n. refl)
presses_come c w call true = presses_floors_come c w call (call.from == call.to)

gathers_from_come : (c : Config) (w : World) (floor : ℕ) (b : Bool) → Come c w (Gather floor) (gathers_from w floor b)
gathers_from_come c w floor true = λ j. stays refl (λ n. refl)
gathers_from_come c w floor false = λ j. stays refl (λ n. refl)

gathers_come : (c : Config) (w : World) (floor : ℕ) (b : Bool) → Come c w (Gather floor) (gathers w floor b)
gathers_come c w floor false = λ j. stays refl (λ n. refl)
gathers_come c w floor true = gathers_from_come c w floor (has_from w.hand floor)

come : (c : Config) (steps : ℕ → ℕ) (w : World) (e : Event) → WorldHolds c steps w → Come c w e (happens c w e)
unfolding happens
come c steps w (Start t) h = starts_come c steps w t (task_at w.group t) h refl
come c steps w (Instruction t) h = instructs_come c steps w t (task_at w.group t) h refl
come c steps w (Commit t) h = commits_come c steps w t (task_at w.group t) h refl
come c steps w (Refresh fields) h = refreshes_come c w fields (fields_in_range (sizes_of c) fields)
come c steps w (Press call) h = presses_come c w call (is_floor (sizes_of c) call.from && is_floor (sizes_of c) call.to)
come c steps w (Gather floor) h = gathers_come c w floor (is_floor (sizes_of c) floor)

-- where each scan comes from
pub scan_comes : (c : Config) (steps : ℕ → ℕ) (w v : World) (e : Event) (r : Reply) → WorldHolds c steps w → happens c w e ≡ Ok (v, r) → (t : ℕ) → Comes c w e r t (scan_at v t)
scan_comes c steps w v e r h is = subst (Come c w e) is (come c steps w e h)

-- WHAT A REFUSED EVENT LEAVES

-- an answer that is a refusal is with the world as it was
abbrev Unchanged : World → Next → Type 0
Unchanged w (Err halt) = Unit {0}
Unchanged w (Ok n) = (k : EventFault) → n.1 ≡ Refused k → n.0 ≡ w

no_refusal : {A : Type 0} (b : Bool) (k : EventFault) → (if b then End else More) ≡ Refused k → A
no_refusal true k e = cc
no_refusal false k e = cc

starts_unchanged : (c : Config) (w : World) (t : ℕ) (task : TaskState) (o : Option State) → Unchanged w (starts_from c w t task o)
starts_unchanged c w t task (Some s) = λ k e. refl
starts_unchanged c w t task None = λ k e. cc

start_unchanged : (c : Config) (w : World) (t : ℕ) (o : Option TaskState) → Unchanged w (starts c w t o)
start_unchanged c w t None = λ k e. refl
start_unchanged c w t (Some task) = starts_unchanged c w t task (scan_at w t)

stepped_unchanged : (w : World) (t : ℕ) (o : Outcome) → Unchanged w (stepped w t o)
stepped_unchanged w t (Trapped trap) = tt
stepped_unchanged w t Stuck = tt
stepped_unchanged w t (Goes s) = λ k e. no_refusal (has_ended s) k e

instructs_scan_unchanged : (c : Config) (w : World) (t : ℕ) (s : State) (b : Bool) → Unchanged w (instructs_scan c w t s b)
instructs_scan_unchanged c w t s true = λ k e. refl
instructs_scan_unchanged c w t s false = stepped_unchanged w t (step c s)

instructs_in_unchanged : (c : Config) (w : World) (t : ℕ) (o : Option State) → Unchanged w (instructs_in c w t o)
instructs_in_unchanged c w t None = λ k e. refl
instructs_in_unchanged c w t (Some s) = instructs_scan_unchanged c w t s (has_ended s)

instructs_unchanged : (c : Config) (w : World) (t : ℕ) (o : Option TaskState) → Unchanged w (instructs c w t o)
instructs_unchanged c w t None = λ k e. refl
instructs_unchanged c w t (Some task) = instructs_in_unchanged c w t (scan_at w t)

commits_ended_unchanged : (c : Config) (w : World) (t : ℕ) (task : TaskState) (s : State) (b : Bool) → Unchanged w (commits_ended c w t task s b)
commits_ended_unchanged c w t task s false = λ k e. refl
commits_ended_unchanged c w t task s true = λ k e. cc

commits_scan_unchanged : (c : Config) (w : World) (t : ℕ) (task : TaskState) (o : Option State) → Unchanged w (commits_scan c w t task o)
commits_scan_unchanged c w t task None = λ k e. refl
commits_scan_unchanged c w t task (Some s) = commits_ended_unchanged c w t task s (has_ended s)

commits_unchanged : (c : Config) (w : World) (t : ℕ) (o : Option TaskState) → Unchanged w (commits c w t o)
commits_unchanged c w t None = λ k e. refl
commits_unchanged c w t (Some task) = commits_scan_unchanged c w t task (scan_at w t)

refreshes_unchanged : (w : World) (fields : Fields) (b : Bool) → Unchanged w (refreshes w fields b)
refreshes_unchanged w fields false = λ k e. refl
refreshes_unchanged w fields true = λ k e. cc

presses_new_unchanged : (w : World) (call : Call) (b : Bool) → Unchanged w (presses_new w call b)
presses_new_unchanged w call true = λ k e. refl
presses_new_unchanged w call false = λ k e. cc

presses_floors_unchanged : (w : World) (call : Call) (b : Bool) → Unchanged w (presses_floors w call b)
presses_floors_unchanged w call true = λ k e. refl
presses_floors_unchanged w call false = presses_new_unchanged w call (has_call w.desk call)

presses_unchanged : (w : World) (call : Call) (b : Bool) → Unchanged w (presses w call b)
presses_unchanged w call false = λ k e. refl
presses_unchanged w call true = presses_floors_unchanged w call (call.from == call.to)

gathers_from_unchanged : (w : World) (floor : ℕ) (b : Bool) → Unchanged w (gathers_from w floor b)
gathers_from_unchanged w floor true = λ k e. refl
gathers_from_unchanged w floor false = λ k e. cc

gathers_unchanged : (w : World) (floor : ℕ) (b : Bool) → Unchanged w (gathers w floor b)
gathers_unchanged w floor false = λ k e. refl
gathers_unchanged w floor true = gathers_from_unchanged w floor (has_from w.hand floor)

unchanged : (c : Config) (w : World) (e : Event) → Unchanged w (happens c w e)
unfolding happens
unchanged c w (Start t) = start_unchanged c w t (task_at w.group t)
unchanged c w (Instruction t) = instructs_unchanged c w t (task_at w.group t)
unchanged c w (Commit t) = commits_unchanged c w t (task_at w.group t)
unchanged c w (Refresh fields) = refreshes_unchanged w fields (fields_in_range (sizes_of c) fields)
unchanged c w (Press call) = presses_unchanged w call (is_floor (sizes_of c) call.from && is_floor (sizes_of c) call.to)
unchanged c w (Gather floor) = gathers_unchanged w floor (is_floor (sizes_of c) floor)

pub refused_unchanged : RefusalChangesNothing
refused_unchanged c w v e k is = let P : Next → Type 0 = λ n. Unchanged w n in let at : Unchanged w (Ok (v, Refused k)) = subst P is (unchanged c w e) in at k refl
