-- The desk, where nothing is pressed.
use Rattle.std.proofs.Common.{◌≡◌, ℕ, zero, suc, ◌+◌, ◌≤◌, Bool, true, false, List, [], ◌∷◌, ◌++◌, map, replicate, Option, Some, None, Ok, Err, refl, sym, ap, ◌∙◌, subst, arith}
use Rattle.il_syntax.specs.declared.tree.Config.{Config}
use Rattle.il_semantics.specs.State.{State}
use Rattle.il_semantics.specs.Step.{Outcome, Next as Goes, Trapped, Stuck, step as scan_step}
use Rattle.il_semantics.specs.Scan.{has_ended}
use Rattle.group_spec.specs.declared.image.Fields.{Fields}
use Rattle.group_spec.specs.declared.event.Event.TheVariants.{Start, Instruction, Commit, Refresh, Gather}
use Rattle.group_spec.specs.Image.{sizes_of, fields_in_range}
use Rattle.group_spec.specs.Hands.{has_from}
use Rattle.group_spec.specs.Replies.{Reply, Gathered, Held}
use Rattle.group_spec.specs.World.{World, TaskState, Next, task_at, scan_at, happens, run, and_then, starts, starts_from, instructs, instructs_in, instructs_scan, stepped, commits, commits_scan, commits_ended, refreshes, gathers, gathers_from}
use Rattle.group_journal.specs.Journal.{IsAccepted}
use Rattle.group_journal.specs.Rounds.{Happen, Scans, ScanEach, counting_from, desk_events}
use Rattle.group_journal.proofs.Handing.{floor_so}
use Rattle.group_journal.proofs.Journals.{Led}
use Rattle.group_journal.proofs.Taking.{happen_one, happen_none, happen_more}

-- EVENTS OF TASKS LEAVE THE DESK

abbrev Keeps : World → Next → Type 0
Keeps w (Err halt) = Unit {0}
Keeps w (Ok n) = n.0.desk ≡ w.desk

starts_from_keeps : (c : Config) (w : World) (t : ℕ) (task : TaskState) (s : Option State) → Keeps w (starts_from c w t task s)
starts_from_keeps c w t task None = refl
starts_from_keeps c w t task (Some x) = refl

starts_keeps : (c : Config) (w : World) (t : ℕ) (o : Option TaskState) → Keeps w (starts c w t o)
starts_keeps c w t None = refl
starts_keeps c w t (Some task) = starts_from_keeps c w t task (scan_at w t)

stepped_keeps : (w : World) (t : ℕ) (o : Outcome) → Keeps w (stepped w t o)
stepped_keeps w t (Trapped trap) = tt
stepped_keeps w t Stuck = tt
stepped_keeps w t (Goes s) = refl

instructs_scan_keeps : (c : Config) (w : World) (t : ℕ) (x : State) (b : Bool) → Keeps w (instructs_scan c w t x b)
instructs_scan_keeps c w t x true = refl
instructs_scan_keeps c w t x false = stepped_keeps w t (scan_step c x)

instructs_in_keeps : (c : Config) (w : World) (t : ℕ) (s : Option State) → Keeps w (instructs_in c w t s)
instructs_in_keeps c w t None = refl
instructs_in_keeps c w t (Some x) = instructs_scan_keeps c w t x (has_ended x)

instructs_keeps : (c : Config) (w : World) (t : ℕ) (o : Option TaskState) → Keeps w (instructs c w t o)
instructs_keeps c w t None = refl
instructs_keeps c w t (Some task) = instructs_in_keeps c w t (scan_at w t)

commits_ended_keeps : (c : Config) (w : World) (t : ℕ) (task : TaskState) (x : State) (b : Bool) → Keeps w (commits_ended c w t task x b)
commits_ended_keeps c w t task x false = refl
commits_ended_keeps c w t task x true = refl

commits_scan_keeps : (c : Config) (w : World) (t : ℕ) (task : TaskState) (s : Option State) → Keeps w (commits_scan c w t task s)
commits_scan_keeps c w t task None = refl
commits_scan_keeps c w t task (Some x) = commits_ended_keeps c w t task x (has_ended x)

commits_keeps : (c : Config) (w : World) (t : ℕ) (o : Option TaskState) → Keeps w (commits c w t o)
commits_keeps c w t None = refl
commits_keeps c w t (Some task) = commits_scan_keeps c w t task (scan_at w t)

start_keeps : (c : Config) (w v : World) (t : ℕ) (r : Reply) → happens c w (Start t) ≡ Led v r → v.desk ≡ w.desk
unfolding happens
start_keeps c w v t r is = subst (Keeps w) is (starts_keeps c w t (task_at w.group t))

instruction_keeps : (c : Config) (w : World) (t : ℕ) → Keeps w (happens c w (Instruction t))
unfolding happens
instruction_keeps c w t = instructs_keeps c w t (task_at w.group t)

commit_keeps : (c : Config) (w v : World) (t : ℕ) (r : Reply) → happens c w (Commit t) ≡ Led v r → v.desk ≡ w.desk
unfolding happens
commit_keeps c w v t r is = subst (Keeps w) is (commits_keeps c w t (task_at w.group t))

steps_keep : (c : Config) (t n : ℕ) (w v : World) (earlier all : List Reply) → run c w earlier (replicate n (Instruction t)) ≡ Ok (v, all) → v.desk ≡ w.desk
steps_keep c t zero w v earlier all is = let same : ◌≡◌ {A = World × List Reply} (w, earlier) (v, all) = cc in ap (λ p. p.0.desk) (sym same)
steps_keep c t (suc n) w v earlier all is = by (happens c w (Instruction t)) is (instruction_keeps c w t) (λ m rs. steps_keep c t n m v rs all)
  where
    by : (x : Next) → and_then x (λ m. run c m.0 (earlier ++ m.1 ∷ []) (replicate n (Instruction t))) ≡ Ok (v, all) → Keeps w x
        → ((m : World) (rs : List Reply) → run c m rs (replicate n (Instruction t)) ≡ Ok (v, all) → v.desk ≡ m.desk) → v.desk ≡ w.desk
    by (Err halt) e keeps rest = cc
    by (Ok m) e keeps rest = rest m.0 (earlier ++ m.1 ∷ []) e ∙ keeps

pub scan_keeps : (c : Config) (t : ℕ) (w v : World) → Scans c t w v → v.desk ≡ w.desk
scan_keeps c t w v s =
    let f = s.rest in
    commit_keeps c f.at_end v t _ f.commit ∙ steps_keep c t f.finish.instructions s.started f.at_end [] _ f.finish.steps ∙ start_keeps c w s.started t _ s.start

pub each_keeps : (c : Config) (tasks : List ℕ) (w v : World) → ScanEach c tasks w v → v.desk ≡ w.desk
each_keeps c [] w v same = ap (λ (x : World). x.desk) (sym same)
each_keeps c (t ∷ tasks) w v (m, first, rest) = each_keeps c tasks m v rest ∙ scan_keeps c t w m first

refreshes_keeps : (w : World) (fields : Fields) (b : Bool) → Keeps w (refreshes w fields b)
refreshes_keeps w fields false = refl
refreshes_keeps w fields true = refl

pub refresh_keeps : (c : Config) (w v : World) (fields : Fields) (r : Reply) → happens c w (Refresh fields) ≡ Ok (v, r) → v.desk ≡ w.desk
unfolding happens
refresh_keeps c w v fields r is = subst (Keeps w) is (refreshes_keeps w fields (fields_in_range (sizes_of c) fields))

-- NOTHING TO GATHER

from_nothing : (w : World) (floor : ℕ) (b : Bool) → w.desk ≡ [] → (r : Reply) × IsAccepted r × (gathers_from w floor b ≡ Led w r)
from_nothing w floor true none = (Held, tt, refl)
from_nothing w floor false none = (Gathered 0, tt, ap (λ d. gathers_from (record { group = w.group; scans = w.scans; desk = d; hand = w.hand }) floor false) none ∙ ap (λ d. Led (record { group = w.group; scans = w.scans; desk = d; hand = w.hand }) (Gathered 0)) (sym none))

one_nothing : (c : Config) (w : World) (floor : ℕ) → w.desk ≡ [] → 1 ≤ floor → floor ≤ (sizes_of c).floors → Happen c w (Gather floor ∷ []) w
unfolding happens
one_nothing c w floor none low high =
    let h = from_nothing w floor (has_from w.hand floor) none in
    happen_one c w w (Gather floor) h.0 (ap (gathers w floor) (floor_so (sizes_of c) floor low high) ∙ h.2) h.1

nothing_from : (c : Config) (w : World) (first count : ℕ) → w.desk ≡ [] → 1 ≤ first → first + count ≤ (sizes_of c).floors + 1 → Happen c w (map Gather (counting_from first count)) w
nothing_from c w first zero none low high = happen_none c w
nothing_from c w first (suc count) none low high =
    happen_more c w w w (Gather first ∷ []) (map Gather (counting_from (first + 1) count)) (one_nothing c w first none low (omega (arith, high))) (nothing_from c w (first + 1) count none (omega (arith, low)) (omega (arith, high)))

-- where nothing is on the desk and nothing is pressed, gathering changes nothing
pub nothing_happens : (c : Config) (w : World) → w.desk ≡ [] → Happen c w (desk_events c []) w
nothing_happens c w none = nothing_from c w 1 (sizes_of c).floors none (omega arith) (omega arith)
