-- How many notices a round has at most.
use Rattle.std.proofs.Common.{◌≡◌, ℕ, zero, suc, ◌+◌, ◌*◌, ◌≤◌, Bool, true, false, List, [], ◌∷◌, ◌++◌, filter, drop, length, length-append, Option, Some, None, Ok, Err, refl, sym, ap, ◌∙◌, subst, arith, if◌then◌else◌}
use Rattle.std.specs.Prelude.{slice_get}
use Rattle.il_syntax.specs.declared.tree.Config.{Config}
use Rattle.il_semantics.specs.State.{Values, State}
use Rattle.il_semantics.specs.Scan.{has_ended}
use Rattle.group_spec.specs.declared.event.Event.TheVariants.{Commit}
use Rattle.group_spec.specs.declared.image.Image.{Image}
use Rattle.group_spec.specs.declared.image.Motor.{Motor}
use Rattle.group_spec.specs.declared.report.Report.{Report}
use Rattle.group_spec.specs.declared.report.Rule.{Rule}
use Rattle.group_spec.specs.Calls.{Calls}
use Rattle.group_spec.specs.Image.{sizes_of}
use Rattle.group_spec.specs.Replies.{Reply, Started, More, End, Committed, Refreshed, New, Already, Gathered, Held, Refused}
use Rattle.group_spec.specs.Settle.{settled_car, listed, denials_of}
use Rattle.group_spec.specs.Snapshot.{has_task, wishes_of}
use Rattle.group_spec.specs.World.{World, Group, TaskState, Next, happens, task_at, scan_at, committed_group, commits, commits_scan, commits_ended, serve_wish, tickets_or_none}
use Rattle.group_spec.specs.Limits.{most_cars}
use Rattle.group_journal.specs.Rounds.{counting_from, tasks_in_order}
use Rattle.group_rounds.specs.Shown.{ScansReporting}
use Rattle.group_rounds.specs.Rounds.{most_of_scans}

-- A COMMIT

-- GROUP's denies nothing; a car's denies at most two wishes, and makes at most one serve
abbrev IsFew : ℕ → Report → Type 0
IsFew zero report = length report.denials ≤ 0
IsFew (suc k) report = (length report.denials ≤ 2) × (length report.answers ≤ 1)

one_at_most : (o : Option Rule) → length (listed o) ≤ 1
one_at_most None = omega arith
one_at_most (Some rule) = omega arith

denials_length : (car : ℕ) (rules : List Rule) → length (denials_of car rules) ≡ length rules
denials_length car [] = refl
denials_length car (r ∷ rules) = ap suc (denials_length car rules)

two_denials : (image : Image) (car : ℕ) (motor : Motor) (opens : Bool) → length (settled_car image car motor opens).denials ≤ 2
unfolding settled_car
two_denials image car motor opens = joined _ _
  where
    joined : (a b : Option Rule) → length (listed a ++ listed b) ≤ 2
    joined a b =
        let both = length-append (listed a) (listed b) in
        let first = one_at_most a in
        let second = one_at_most b in
        omega (arith, both, first, second)

one_serve : (calls : Calls) (car : ℕ) (tickets : List (Option ℕ)) (wish : ℕ) → length (serve_wish calls car tickets wish).1 ≤ 1
one_serve calls car tickets zero = omega arith
one_serve calls car tickets (suc slot) = omega arith

committed_few : (c : Config) (g : Group) (t : ℕ) (task : TaskState) (tickets : List (Option ℕ)) (values : Values) → IsFew t (committed_group c g t task tickets values).1
unfolding committed_group
committed_few c g zero task tickets values = omega arith
committed_few c g (suc k) task tickets values =
    let wishes = wishes_of values in
    let settled = settled_car g.image (suc k) wishes.motor wishes.opens in
    let two = two_denials g.image (suc k) wishes.motor wishes.opens in
    let same = denials_length (suc k) settled.denials in
    (omega (arith, two, same), one_serve g.calls (suc k) tickets wishes.serve)

abbrev IsFewReply : ℕ → Reply → Type 0
IsFewReply t Started = Unit {0}
IsFewReply t More = Unit {0}
IsFewReply t End = Unit {0}
IsFewReply t (Committed report) = IsFew t report
IsFewReply t (Refreshed report) = Unit {0}
IsFewReply t New = Unit {0}
IsFewReply t Already = Unit {0}
IsFewReply t (Gathered mask) = Unit {0}
IsFewReply t Held = Unit {0}
IsFewReply t (Refused fault) = Unit {0}

abbrev IsFewNext : ℕ → Next → Type 0
IsFewNext t (Err halt) = Unit {0}
IsFewNext t (Ok n) = IsFewReply t n.1

ended_few : (c : Config) (w : World) (t : ℕ) (task : TaskState) (scan : State) (b : Bool) → IsFewNext t (commits_ended c w t task scan b)
ended_few c w t task scan false = tt
ended_few c w t task scan true = committed_few c w.group t task (tickets_or_none task.tickets) scan.values

scan_few : (c : Config) (w : World) (t : ℕ) (task : TaskState) (o : Option State) → IsFewNext t (commits_scan c w t task o)
scan_few c w t task None = tt
scan_few c w t task (Some scan) = ended_few c w t task scan (has_ended scan)

commits_few : (c : Config) (w : World) (t : ℕ) (o : Option TaskState) → IsFewNext t (commits c w t o)
commits_few c w t None = tt
commits_few c w t (Some task) = scan_few c w t task (scan_at w t)

commit_few : (c : Config) (w : World) (t : ℕ) → IsFewNext t (happens c w (Commit t))
unfolding happens
commit_few c w t = commits_few c w t (task_at w.group t)

reported_few : (c : Config) (w v : World) (t : ℕ) (report : Report) → happens c w (Commit t) ≡ Ok (v, Committed report) → IsFew t report
reported_few c w v t report is = subst (IsFewNext t) is (commit_few c w t)

-- A SCAN

abbrev pub IsShort : ℕ → ℕ → ℕ → Type 0
IsShort t denials answers = denials + answers ≤ most_of_scans (t ∷ [])

-- a scan's denials and answers are no more than its share
pub scan_share : (c : Config) (t : ℕ) (w v : World) (report : Report) → ScansReporting c t w v report → length report.answers ≤ 64 → length report.denials + length report.answers ≤ most_of_scans (t ∷ [])
scan_share c t w v report (scan, is) few = by t (subst (IsFew t) is (reported_few c scan.rest.at_end v t scan.rest.report scan.rest.commit))
  where
    by : (k : ℕ) → IsFew k report → length report.denials + length report.answers ≤ most_of_scans (k ∷ [])
    by zero none = omega (arith, none, few)
    by (suc k) (denied, answered) = omega (arith, denied, answered)

-- ALL TASKS

shares_append : (xs ys : List ℕ) → most_of_scans (xs ++ ys) ≡ most_of_scans xs + most_of_scans ys
shares_append [] ys = omega arith
shares_append (zero ∷ xs) ys = let rest = shares_append xs ys in omega (arith, rest)
shares_append (suc k ∷ xs) ys = let rest = shares_append xs ys in omega (arith, rest)

-- a task more
pub share_next : (tasks : List ℕ) (i t : ℕ) → slice_get tasks i ≡ Some t → most_of_scans (drop i tasks) ≡ most_of_scans (t ∷ []) + most_of_scans (drop (i + 1) tasks)
share_next [] i t at = let no : None ≡ Some t = at in cc
share_next (x ∷ tasks) zero t at = let same : x ≡ t = cc in subst (λ y. most_of_scans (x ∷ tasks) ≡ most_of_scans (y ∷ []) + most_of_scans tasks) same (shares_append (x ∷ []) tasks)
share_next (x ∷ tasks) (suc i) t at = let next : suc i + 1 ≡ suc (i + 1) = omega arith in share_next tasks i t at ∙ ap (λ n. most_of_scans (t ∷ []) + most_of_scans (drop n (x ∷ tasks))) (sym next)

filtered_share : (p : ℕ → Bool) (tasks : List ℕ) → most_of_scans (filter p tasks) ≤ most_of_scans tasks
filtered_share p [] = omega arith
filtered_share p (x ∷ tasks) = by (p x) (filtered_share p tasks)
  where
    by : (b : Bool) → most_of_scans (filter p tasks) ≤ most_of_scans tasks → most_of_scans (if b then x ∷ filter p tasks else filter p tasks) ≤ most_of_scans (x ∷ tasks)
    by true rest = let first = shares_append (x ∷ []) (filter p tasks) in let one = shares_append (x ∷ []) tasks in omega (arith, first, one, rest)
    by false rest = let one = shares_append (x ∷ []) tasks in omega (arith, one, rest)

cars_share : (first k : ℕ) → 1 ≤ first → most_of_scans (counting_from first k) ≡ 3 * k
cars_share first zero above = refl
cars_share zero (suc k) above = absurd (omega (arith, above))
cars_share (suc n) (suc k) above = let rest = cars_share (suc n + 1) k (omega arith) in omega (arith, rest)

-- the tasks of a group
pub tasks_share : (c : Config) → (sizes_of c).cars ≤ most_cars → most_of_scans (tasks_in_order c) ≤ 3 * most_cars + 64
tasks_share c few =
    let all = filtered_share (has_task c) (counting_from 1 (sizes_of c).cars ++ 0 ∷ []) in
    let parts = shares_append (counting_from 1 (sizes_of c).cars) (0 ∷ []) in
    let cars = cars_share 1 (sizes_of c).cars (omega arith) in
    omega (arith, all, parts, cars, few)
