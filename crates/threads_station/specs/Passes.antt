-- Passes as contracts see them (own rules).
use Rattle.std.specs.Prelude.{◌≡◌, ℕ, ◌+◌, ◌%◌, List, [], ◌∷◌, Option, Some, None, Bool, nat_le, ◌&&◌, refl}
use Rattle.std.specs.Coded.{Coded, code_by, coded×, coded_ℕ, coded_list}
use Rattle.atomic_table.specs.Seated.{TableId, table_id_coded}
use Rattle.il_syntax.specs.declared.tree.Config.{Config}
use Rattle.scan_task.specs.Standing.{Standing, IsOf}
use Rattle.group_spec.specs.Image.{sizes_of}
use Rattle.group_spec.specs.Snapshot.{has_task}
use Rattle.threads_station.specs.declared.actor.TaskShare.{TaskShare}
use Rattle.threads_station.specs.declared.actor.TaskShare.TheVariants.{Group, Car1, Car2, Car3, Car4, Car5, Car6, Car7, Car8}

-- whose share it is: 0 is GROUP, k is CARk
abbrev pub task_of : {G : Type 0} → TaskShare G → ℕ
task_of (Group n) = 0
task_of (Car1 n) = 1
task_of (Car2 n) = 2
task_of (Car3 n) = 3
task_of (Car4 n) = 4
task_of (Car5 n) = 5
task_of (Car6 n) = 6
task_of (Car7 n) = 7
task_of (Car8 n) = 8

-- the entries that it counts
abbrev pub count_of : {G : Type 0} → TaskShare G → ℕ
count_of (Group n) = n
count_of (Car1 n) = n
count_of (Car2 n) = n
count_of (Car3 n) = n
count_of (Car4 n) = n
count_of (Car5 n) = n
count_of (Car6 n) = n
count_of (Car7 n) = n
count_of (Car8 n) = n

-- the share after one entry more
abbrev pub CountsOne : {G : Type 0} → TaskShare G → TaskShare G → Type 0
CountsOne p q = (task_of q ≡ task_of p) × (count_of q ≡ count_of p + 1)

-- A task's pass: its task, and how many of its entries the journal holds.
pub record TaskCount : Type 0 where
  pub task : ℕ
  pub count : ℕ

-- its code
abbrev pub task_count_code : Coded TaskCount
task_count_code = code_by (ℕ × ℕ) (coded× coded_ℕ coded_ℕ) (λ p. (p.task, p.count)) (λ c. record { task = c.0; count = c.1 }) (λ _. refl)

-- the pass after one entry more
abbrev pub counts_one : TaskCount → TaskCount
counts_one p = record { task = p.task; count = p.count + 1 }

-- between scans, at an even count, a pass has a store of its task; while a scan is out its count is odd
abbrev pub KeepsStore : Config → ℕ → ℕ → Option Standing → Type 0
KeepsStore c t count None = count % 2 ≡ 1
KeepsStore c t count (Some s) = (count % 2 ≡ 0) × IsOf c t s

-- the tasks that a group may have: GROUP, and eight cars
abbrev pub all_tasks : List ℕ
all_tasks = 0 ∷ 1 ∷ 2 ∷ 3 ∷ 4 ∷ 5 ∷ 6 ∷ 7 ∷ 8 ∷ []

-- the group has the task of a number: GROUP, or a car of its own
abbrev pub is_task : Config → ℕ → Bool
is_task c t = nat_le t (sizes_of c).cars && has_task c t

-- the names of new ledgers, by their numbers, and the table of a new tally
pub record Names : Type 0 where
  pub tally : TableId
  pub ledgers : List ℕ

-- its code
abbrev pub names_code : Coded Names
names_code = code_by (TableId × List ℕ) (coded× table_id_coded (coded_list coded_ℕ)) (λ n. (n.tally, n.ledgers)) (λ c. record { tally = c.0; ledgers = c.1 }) (λ _. refl)
