-- The fields of the image: which events change them.
use Rattle.std.proofs.Common.{◌≡◌, ℕ, zero, suc, Bool, true, false, ◌&&◌, ◌==◌, List, [], ◌∷◌, ◌++◌, refl, sym, ap, ◌∙◌, subst, Some, None, Option, Ok, Err}
use Rattle.il_syntax.specs.declared.tree.Config.{Config}
use Rattle.il_semantics.specs.State.{Values, State}
use Rattle.il_semantics.specs.Step.{Outcome, Next as Goes, Trapped, Stuck, step as scan_step}
use Rattle.il_semantics.specs.Scan.{has_ended}
use Rattle.group_spec.specs.declared.image.Fields.{Fields}
use Rattle.group_spec.specs.declared.calls.Call.{Call}
use Rattle.group_spec.specs.declared.event.Event.{Event}
use Rattle.group_spec.specs.declared.event.Event.TheVariants.{Start, Instruction, Commit, Refresh, Press, Gather}
use Rattle.group_spec.specs.Image.{sizes_of, is_floor, fields_in_range}
use Rattle.group_spec.specs.Hands.{has_call, has_from}
use Rattle.group_spec.specs.Replies.{Reply}
use Rattle.group_spec.specs.World.{World, Group, Next, TaskState, task_at, scan_at, happens, run, and_then, starts, starts_from, instructs, instructs_in, instructs_scan, stepped, commits, commits_scan, commits_ended, committed_group, tickets_or_none, refreshes, refreshed_group, presses, presses_floors, presses_new, gathers, gathers_from}
use Rattle.group_laws.specs.Runs.{fields_behind, RefreshChangesFields, HasNoRefresh, RunsKeepFields}
use Rattle.group_laws.proofs.Following.{same_end}

-- EVENTS OF TASKS, AND ON THE DESK

-- the fields stay as they were
abbrev Keeps : World → Next → Type 0
Keeps w (Err halt) = Unit {0}
Keeps w (Ok n) = n.0.group.image.fields ≡ w.group.image.fields

starts_from_keeps : (c : Config) (w : World) (t : ℕ) (task : TaskState) (s : Option State) → Keeps w (starts_from c w t task s)
starts_from_keeps c w t task None = refl
starts_from_keeps c w t task (Some x) = refl

starts_keeps : (c : Config) (w : World) (t : ℕ) (o : Option TaskState) → Keeps w (starts c w t o)
starts_keeps c w t None = refl
starts_keeps c w t (Some task) = starts_from_keeps c w t task (scan_at w t)

pub stepped_keeps : (w : World) (t : ℕ) (o : Outcome) → Keeps w (stepped w t o)
stepped_keeps w t (Trapped trap) = tt
stepped_keeps w t Stuck = tt
stepped_keeps w t (Goes s) = refl

instructs_scan_keeps : (c : Config) (w : World) (t : ℕ) (x : State) (b : Bool) → Keeps w (instructs_scan c w t x b)
instructs_scan_keeps c w t x true = refl
instructs_scan_keeps c w t x false = stepped_keeps w t (scan_step c x)

instructs_in_keeps : (c : Config) (w : World) (t : ℕ) (s : Option State) → Keeps w (instructs_in c w t s)
instructs_in_keeps c w t None = refl
instructs_in_keeps c w t (Some x) = instructs_scan_keeps c w t x (has_ended x)

instructs_keeps : (c : Config) (w : World) (t : ℕ) (o : Option TaskState) → Keeps w (instructs c w t o)
instructs_keeps c w t None = refl
instructs_keeps c w t (Some task) = instructs_in_keeps c w t (scan_at w t)

committed_keeps : (c : Config) (g : Group) (t : ℕ) (task : TaskState) (tickets : List (Option ℕ)) (values : Values) → (committed_group c g t task tickets values).0.image.fields ≡ g.image.fields
unfolding committed_group
committed_keeps c g zero task tickets values = refl
committed_keeps c g (suc k) task tickets values = refl

commits_ended_keeps : (c : Config) (w : World) (t : ℕ) (task : TaskState) (x : State) (b : Bool) → Keeps w (commits_ended c w t task x b)
commits_ended_keeps c w t task x false = refl
commits_ended_keeps c w t task x true = committed_keeps c w.group t task (tickets_or_none task.tickets) x.values

commits_scan_keeps : (c : Config) (w : World) (t : ℕ) (task : TaskState) (s : Option State) → Keeps w (commits_scan c w t task s)
commits_scan_keeps c w t task None = refl
commits_scan_keeps c w t task (Some x) = commits_ended_keeps c w t task x (has_ended x)

commits_keeps : (c : Config) (w : World) (t : ℕ) (o : Option TaskState) → Keeps w (commits c w t o)
commits_keeps c w t None = refl
commits_keeps c w t (Some task) = commits_scan_keeps c w t task (scan_at w t)

presses_new_keeps : (w : World) (call : Call) (b : Bool) → Keeps w (presses_new w call b)
presses_new_keeps w call true = refl
presses_new_keeps w call false = refl

presses_floors_keeps : (w : World) (call : Call) (b : Bool) → Keeps w (presses_floors w call b)
presses_floors_keeps w call true = refl
presses_floors_keeps w call false = presses_new_keeps w call (has_call w.desk call)

presses_keeps : (w : World) (call : Call) (b : Bool) → Keeps w (presses w call b)
presses_keeps w call false = refl
presses_keeps w call true = presses_floors_keeps w call (call.from == call.to)

gathers_from_keeps : (w : World) (floor : ℕ) (b : Bool) → Keeps w (gathers_from w floor b)
gathers_from_keeps w floor true = refl
gathers_from_keeps w floor false = refl

gathers_keeps : (w : World) (floor : ℕ) (b : Bool) → Keeps w (gathers w floor b)
gathers_keeps w floor false = refl
gathers_keeps w floor true = gathers_from_keeps w floor (has_from w.hand floor)

-- EACH EVENT

-- the fields become those of a refresh that is taken, and stay else
abbrev Tells : World → Event → Next → Type 0
Tells w e (Err halt) = Unit {0}
Tells w e (Ok n) = n.0.group.image.fields ≡ fields_behind w.group.image.fields e n.1

refreshes_tell : (w : World) (fields : Fields) (b : Bool) → Tells w (Refresh fields) (refreshes w fields b)
unfolding refreshed_group
refreshes_tell w fields false = refl
refreshes_tell w fields true = refl

-- of an event that is no refresh both say the same
kept : (w : World) (e : Event) (n : Next) → ((r : Reply) → fields_behind w.group.image.fields e r ≡ w.group.image.fields) → Keeps w n → Tells w e n
kept w e (Err halt) same keeps = tt
kept w e (Ok n) same keeps = keeps ∙ sym (same n.1)

event_tells : (c : Config) (w : World) (e : Event) → Tells w e (happens c w e)
unfolding happens
event_tells c w (Start t) = kept w (Start t) _ (λ r. refl) (starts_keeps c w t (task_at w.group t))
event_tells c w (Instruction t) = kept w (Instruction t) _ (λ r. refl) (instructs_keeps c w t (task_at w.group t))
event_tells c w (Commit t) = kept w (Commit t) _ (λ r. refl) (commits_keeps c w t (task_at w.group t))
event_tells c w (Refresh fields) = refreshes_tell w fields (fields_in_range (sizes_of c) fields)
event_tells c w (Press call) = kept w (Press call) _ (λ r. refl) (presses_keeps w call (is_floor (sizes_of c) call.from && is_floor (sizes_of c) call.to))
event_tells c w (Gather floor) = kept w (Gather floor) _ (λ r. refl) (gathers_keeps w floor (is_floor (sizes_of c) floor))

pub fields_changed : RefreshChangesFields
fields_changed c w v e reply is = subst (Tells w e) is (event_tells c w e)

-- RUNS

-- no refresh is the first of them, nor among the others
no_refresh : (e : Event) (es : List Event) → HasNoRefresh (e ∷ es) → ((before : Fields) (r : Reply) → fields_behind before e r ≡ before) × HasNoRefresh es
no_refresh (Start t) es none = ((λ before r. refl), none)
no_refresh (Instruction t) es none = ((λ before r. refl), none)
no_refresh (Commit t) es none = ((λ before r. refl), none)
no_refresh (Refresh fields) es none = absurd none
no_refresh (Press call) es none = ((λ before r. refl), none)
no_refresh (Gather floor) es none = ((λ before r. refl), none)

pub fields_kept : RunsKeepFields
fields_kept c w v earlier replies [] none is = ap (λ n. n.0.group.image.fields) (sym (same_end w v earlier replies is))
fields_kept c w v earlier replies (e ∷ es) none is =
    let others = no_refresh e es none in
    by (happens c w e) is (event_tells c w e) (others.0 w.group.image.fields) (λ m rs. fields_kept c m v rs replies es others.1)
  where
    by : (n : Next) → and_then n (λ m. run c m.0 (earlier ++ m.1 ∷ []) es) ≡ Ok (v, replies) → Tells w e n → ((r : Reply) → fields_behind w.group.image.fields e r ≡ w.group.image.fields)
        → ((m : World) (rs : List Reply) → run c m rs es ≡ Ok (v, replies) → v.group.image.fields ≡ m.group.image.fields) → v.group.image.fields ≡ w.group.image.fields
    by (Err halt) ends tells same rest = cc
    by (Ok m) ends tells same rest = rest m.0 (earlier ++ m.1 ∷ []) ends ∙ tells ∙ same m.1
