-- All tasks after an event of one of them.
use Rattle.std.proofs.Common.{◌≡◌, ℕ, ◌<◌, ◌≤◌, ◌⊎◌, inl, inr, true, false, ◌==◌, List, length, slice_get, slice_set, sym, ap, subst, Some, None, Option}
use Rattle.il_syntax.specs.declared.tree.Config.{Config}
use Rattle.il_semantics.specs.State.{State}
use Rattle.group_spec.specs.World.{TaskState, flat}
use Rattle.group_laws.specs.Tasks.{budget_of}
use Rattle.group_laws.specs.Holding.{SeatHolds, TaskHolds}
use Rattle.group_laws.proofs.Lists.{same_or_other, get_same}

-- the seat of a number, in lists of tasks and scans
abbrev pub Seat : Config → ℕ → ℕ → List (Option TaskState) → List (Option State) → Type 0
Seat c t n tasks scans = SeatHolds c t n (flat (slice_get tasks t)) (flat (slice_get scans t))

-- the other seats are as they were
pub record Others (steps new : ℕ → ℕ) (tasks tasks_after : List (Option TaskState)) (scans scans_after : List (Option State)) (t : ℕ) : Type 0 where
  pub same_counts : (j : ℕ) → (j == t) ≡ false → new j ≡ steps j
  pub same_tasks : (j : ℕ) → (j ≡ t → ⊥) → slice_get tasks_after j ≡ slice_get tasks j
  pub same_scans : (j : ℕ) → (j ≡ t → ⊥) → slice_get scans_after j ≡ slice_get scans j

pub seats_after :
    (c : Config) (steps new : ℕ → ℕ) (tasks tasks_after : List (Option TaskState)) (scans scans_after : List (Option State)) (t : ℕ) → Others steps new tasks tasks_after scans scans_after t
    → ((j : ℕ) → Seat c j (steps j) tasks scans) → Seat c t (new t) tasks_after scans_after → (j : ℕ) → Seat c j (new j) tasks_after scans_after
seats_after c steps new tasks tasks_after scans scans_after t others old here j = by (same_or_other j t)
  where
    by : ((j ≡ t) × ((j == t) ≡ true)) ⊎ ((j ≡ t → ⊥) × ((j == t) ≡ false)) → Seat c j (new j) tasks_after scans_after
    by (inl same) = subst (λ k. Seat c k (new k) tasks_after scans_after) (sym same.0) here
    by (inr other) =
        subst (λ n. SeatHolds c j n (flat (slice_get tasks_after j)) (flat (slice_get scans_after j))) (sym (others.same_counts j other.1))
        (subst (λ x. SeatHolds c j (steps j) (flat x) (flat (slice_get scans_after j))) (sym (others.same_tasks j other.0)) (subst (λ x. SeatHolds c j (steps j) (flat (slice_get tasks j)) (flat x)) (sym (others.same_scans j other.0)) (old j)))

pub counts_after : (c : Config) (steps new : ℕ → ℕ) (t : ℕ) → ((j : ℕ) → (j == t) ≡ false → new j ≡ steps j) → ((j : ℕ) → steps j ≤ budget_of c j) → new t ≤ budget_of c t → (j : ℕ) → new j ≤ budget_of c j
counts_after c steps new t others old here j = by (same_or_other j t)
  where
    by : ((j ≡ t) × ((j == t) ≡ true)) ⊎ ((j ≡ t → ⊥) × ((j == t) ≡ false)) → new j ≤ budget_of c j
    by (inl same) = subst (λ k. new k ≤ budget_of c k) (sym same.0) here
    by (inr other) = subst (λ n. n ≤ budget_of c j) (sym (others j other.1)) (old j)

-- what was written is there
pub flat_same : {X : Type 0} (xs : List (Option X)) (t : ℕ) (o : Option X) → t < length xs → flat (slice_get (slice_set xs t o) t) ≡ o
flat_same xs t None h = ap flat (get_same xs t None h)
flat_same xs t (Some x) h = ap flat (get_same xs t (Some x) h)

-- the task and the scan of a seat, by what is there
pub seat_of : (c : Config) (t n : ℕ) (o : Option TaskState) (s : Option State) (task : TaskState) → SeatHolds c t n o s → o ≡ Some task → TaskHolds c t n task s
seat_of c t n o s task h e = subst (λ x. SeatHolds c t n x s) e h

-- a task and its scan in their seat
pub seated :
    (c : Config) (t n m : ℕ) (tasks : List (Option TaskState)) (scans : List (Option State)) (task : TaskState) (scan : Option State) → flat (slice_get tasks t) ≡ Some task → flat (slice_get scans t) ≡ scan → n ≡ m
    → TaskHolds c t m task scan → Seat c t n tasks scans
seated c t n m tasks scans task scan is_task is_scan is h =
    subst (λ x. SeatHolds c t n x (flat (slice_get scans t))) (sym is_task) (subst (λ x. TaskHolds c t n task x) (sym is_scan) (subst (λ k. TaskHolds c t k task scan) (sym is) h))
