-- The opening tasks and stores.
use Rattle.std.proofs.Common.{◌≡◌, ℕ, zero, suc, ◌+◌, ◌⊎◌, inl, inr, ap₂, ◌≤◌, ◌<◌, Bool, true, List, [], ◌∷◌, ◌++◌, length, Option, Some, None, refl, sym, ap, ◌∙◌, subst, arith}
use Rattle.std.specs.Prelude.{slice_get, is_some, replicate}
use Rattle.il_syntax.specs.declared.tree.Config.{Config}
use Rattle.il_syntax.specs.declared.tree.Unit.{Unit as Organized}
use Rattle.il_semantics.specs.State.{Values}
use Rattle.il_semantics.specs.Scan.{opening_variables}
use Rattle.load_slots.specs.Layout.{Rows}
use Rattle.scan_task.specs.Scanning.{HasTask, variables_in}
use Rattle.scan_task.specs.Standing.{Standing}
use Rattle.group_spec.specs.Image.{sizes_of}
use Rattle.group_spec.specs.Snapshot.{program_of, has_task}
use Rattle.group_spec.specs.World.{Group, TaskState, flat, task_at, opening, opening_group, opening_task, opening_tasks_from}
use Rattle.std.proofs.lemmas.List.{length-append}
use Rattle.std.proofs.lemmas.Bool.{cases_eq}
use Rattle.group_world.specs.declared.shared.TaskMemory.{TaskMemory}
use Rattle.group_world.specs.Running.{task_in, task_by, tasks_in}
use Rattle.group_world.specs.Groups.{scan_by, scans_by, world_by}
use Rattle.group_world.proofs.Views.{flat_of}

-- a task that is there has a program
there_is : {X : Type 0} (o : Option X) → is_some o ≡ true → (x : X) × (o ≡ Some x)
there_is None e = cc
there_is (Some x) e = (x, refl)

-- a task whose rows hold the opening variables opens so
pub memory_opens : (c : Config) (t : ℕ) (v : Rows) → has_task c t ≡ true → ((u : Organized) → program_of c t ≡ Some u → variables_in c t v ≡ opening_variables c u)
    → Some (task_in c t (record { variables = v; tickets = None })) ≡ opening_task c (program_of c t)
memory_opens c t v there opens =
    let found = there_is (program_of c t) there in
    ap (λ (m : Values). Some (record { variables = m; tickets = None })) (opens found.0 found.1) ∙ ap (opening_task c) (sym found.1)

-- a number that is a task's is a task of the group
pub task_there : (c : Config) (t : ℕ) → t ≤ (sizes_of c).cars → has_task c t ≡ true → HasTask c t
task_there c t few there = let found = there_is (program_of c t) there in (found.0, record { within = few; program = found.1 })

-- ONE MORE

pub tasks_more : (c : Config) (n : ℕ) (memories : List (Option TaskMemory)) (s : Option TaskMemory) → tasks_in c n (memories ++ s ∷ []) ≡ tasks_in c n memories ++ task_by c (n + length memories) s ∷ []
tasks_more c n [] s = let e : n ≡ n + 0 = omega arith in ap (λ m. task_by c m s ∷ []) e
tasks_more c n (x ∷ memories) s =
    let e : (n + 1) + length memories ≡ n + length (x ∷ memories) = omega arith in
    ap (λ ts. task_by c n x ∷ ts) (tasks_more c (n + 1) memories s ∙ ap (λ m. tasks_in c (n + 1) memories ++ task_by c m s ∷ []) e)

pub opening_more : (c : Config) (n k : ℕ) → opening_tasks_from c n (suc k) ≡ opening_tasks_from c n k ++ opening_task c (program_of c (n + k)) ∷ []
opening_more c n zero = let e : n ≡ n + 0 = omega arith in ap (λ m. opening_task c (program_of c m) ∷ []) e
opening_more c n (suc k) =
    let e : (n + 1) + k ≡ n + suc k = omega arith in
    ap (λ ts. opening_task c (program_of c n) ∷ ts) (opening_more c (n + 1) k ∙ ap (λ m. opening_tasks_from c (n + 1) k ++ opening_task c (program_of c m) ∷ []) e)

pub last_or_before : {X : Type 0} (xs : List (Option X)) (o : Option X) (t : ℕ) (x : X) → flat (slice_get (xs ++ o ∷ []) t) ≡ Some x → (flat (slice_get xs t) ≡ Some x) ⊎ ((t ≡ length xs) × (o ≡ Some x))
last_or_before [] None zero x e = let bad : ◌≡◌ {A = Option _} None (Some x) = e in cc
last_or_before [] (Some y) zero x e = inr (refl, e)
last_or_before [] o (suc t) x e = let bad : ◌≡◌ {A = Option _} None (Some x) = e in cc
last_or_before (y ∷ xs) o zero x e = inl e
last_or_before (y ∷ xs) o (suc t) x e =
    elim (last_or_before xs o t x e) [
      | inl before ↦ inl before
      | inr here ↦ inr (ap suc here.0, here.1)
    ]

pub length_more : {X : Type 0} (xs : List X) (x : X) → length (xs ++ x ∷ []) ≡ length xs + 1
length_more xs x = length-append xs (x ∷ [])

-- the memories so far, and one more
pub memories_more : (c : Config) (memories : List (Option TaskMemory)) (o : Option TaskMemory) (t : ℕ) → length memories ≡ t → tasks_in c 0 memories ≡ opening_tasks_from c 0 t → task_by c t o ≡ opening_task c (program_of c t)
    → tasks_in c 0 (memories ++ o ∷ []) ≡ opening_tasks_from c 0 (t + 1)
memories_more c memories o t as_many so_far next =
    let e : t + 1 ≡ suc t = omega arith in
    let many : 0 + length memories ≡ t = omega (arith, as_many) in
    let here : 0 + t ≡ t = omega arith in
    tasks_more c 0 memories o ∙ ap₂ (λ ts n. ts ++ task_by c n o ∷ []) so_far many ∙ ap (λ s. opening_tasks_from c 0 t ++ s ∷ []) next
    ∙ ap (λ m. opening_tasks_from c 0 t ++ opening_task c (program_of c m) ∷ []) (sym here) ∙ sym (opening_more c 0 t) ∙ ap (opening_tasks_from c 0) (sym e)

-- STORES

pub holds_more : {X : Type 0} (P : ℕ → X → Type 0) (xs : List (Option X)) (o : Option X) (n : ℕ) → length xs ≡ n → ((t : ℕ) (x : X) → flat (slice_get xs t) ≡ Some x → P t x) → ((x : X) → o ≡ Some x → P n x)
    → (t : ℕ) (x : X) → flat (slice_get (xs ++ o ∷ []) t) ≡ Some x → P t x
holds_more P xs o n many so_far next t x e =
    elim (last_or_before xs o t x e) [
      | inl before ↦ so_far t x before
      | inr here ↦ subst (λ k. P k x) (sym (here.0 ∙ many)) (next x here.1)
    ]

front_is : {X : Type 0} (xs : List (Option X)) (o : Option X) (t : ℕ) → t < length xs → flat (slice_get (xs ++ o ∷ []) t) ≡ flat (slice_get xs t)
front_is [] o t below = absurd (omega (arith, below))
front_is (x ∷ xs) o zero below = refl
front_is (x ∷ xs) o (suc t) below = front_is xs o t (omega (arith, below))

last_is : {X : Type 0} (xs : List (Option X)) (o : Option X) → flat (slice_get (xs ++ o ∷ []) (length xs)) ≡ o
last_is [] None = refl
last_is [] (Some x) = refl
last_is (x ∷ xs) o = last_is xs o

pub there_more : {X : Type 0} (Q : ℕ → Bool) (xs : List (Option X)) (o : Option X) (n : ℕ) → length xs ≡ n → ((t : ℕ) → t < n → is_some (flat (slice_get xs t)) ≡ Q t) → is_some o ≡ Q n
    → (t : ℕ) → t < n + 1 → is_some (flat (slice_get (xs ++ o ∷ []) t)) ≡ Q t
there_more Q xs o n many so_far next t below =
    elim (cases_eq t n) [
      | inl same ↦ ap (λ k. is_some (flat (slice_get (xs ++ o ∷ []) k))) (same ∙ sym many) ∙ ap is_some (last_is xs o) ∙ next ∙ ap Q (sym same)
      | inr other ↦ ap is_some (front_is xs o t (omega (arith, below, other, many))) ∙ so_far t (omega (arith, below, other))
    ]

-- THE OPENING WORLD

-- no task that opens holds tickets
opens_idle : (c : Config) (o : Option Organized) (task : TaskState) → opening_task c o ≡ Some task → task.tickets ≡ None
opens_idle c None task e = let bad : ◌≡◌ {A = Option TaskState} None (Some task) = e in cc
opens_idle c (Some u) task e = ap (λ o. tickets_by o) (sym e)
  where
    tickets_by : Option TaskState → Option (List (Option ℕ))
    tickets_by None = None
    tickets_by (Some t) = t.tickets

pub all_idle : (c : Config) (n k t : ℕ) (task : TaskState) → flat (slice_get (opening_tasks_from c n k) t) ≡ Some task → task.tickets ≡ None
all_idle c n zero zero task e = let bad : ◌≡◌ {A = Option TaskState} None (Some task) = e in cc
all_idle c n zero (suc t) task e = let bad : ◌≡◌ {A = Option TaskState} None (Some task) = e in cc
all_idle c n (suc k) zero task e = opens_idle c (program_of c n) task (sym (flat_of (opening_task c (program_of c n))) ∙ e)
all_idle c n (suc k) (suc t) task e = all_idle c (n + 1) k t task e

no_scan : (c : Config) (o : Option Organized) (s : Option Standing) → scan_by (opening_task c o) s ≡ None
no_scan c None s = refl
no_scan c (Some u) None = refl
no_scan c (Some u) (Some s) = refl

no_scans : (c : Config) (n k : ℕ) (stores : List (Option Standing)) → length stores ≡ k → scans_by (opening_tasks_from c n k) stores ≡ replicate k None
no_scans c n zero stores many = refl
no_scans c n (suc k) [] many = absurd (omega (arith, many))
no_scans c n (suc k) (s ∷ stores) many = ap₂ (λ o os. o ∷ os) (no_scan c (program_of c n) s) (no_scans c (n + 1) k stores (omega (arith, many)))

-- the group as it opens, with a store for each task, is the opening world
pub world_opens : (c : Config) (g : Group) (stores : List (Option Standing)) → g ≡ opening_group c → length stores ≡ suc (sizes_of c).cars → world_by g stores [] [] ≡ opening c
unfolding opening
world_opens c g stores group many =
    ap (λ (x : Group). world_by x stores [] []) group
    ∙ ap (λ ss. record { group = opening_group c; scans = ss; desk = []; hand = [] }) (no_scans c 0 (suc (sizes_of c).cars) stores many)

opening_length : (c : Config) (n k : ℕ) → length (opening_tasks_from c n k) ≡ k
opening_length c n zero = refl
opening_length c n (suc k) = ap suc (opening_length c (n + 1) k)

opening_get : (c : Config) (n k t : ℕ) → t < k → flat (slice_get (opening_tasks_from c n k) t) ≡ opening_task c (program_of c (n + t))
opening_get c n zero t below = absurd (omega (arith, below))
opening_get c n (suc k) zero below = let e : n ≡ n + 0 = omega arith in flat_of (opening_task c (program_of c n)) ∙ ap (λ m. opening_task c (program_of c m)) e
opening_get c n (suc k) (suc t) below = let e : (n + 1) + t ≡ n + suc t = omega arith in opening_get c (n + 1) k t (omega (arith, below)) ∙ ap (λ m. opening_task c (program_of c m)) e

opens_there : (c : Config) (o : Option Organized) → is_some (opening_task c o) ≡ is_some o
opens_there c None = refl
opens_there c (Some u) = refl

-- as many tasks as the sizes say
pub tasks_many : (c : Config) (g : Group) → g ≡ opening_group c → length g.tasks ≡ suc (sizes_of c).cars
tasks_many c g group = ap (λ (x : Group). length x.tasks) group ∙ opening_length c 0 (suc (sizes_of c).cars)

-- a task is there where the group has its program
pub task_opening : (c : Config) (g : Group) (t : ℕ) → g ≡ opening_group c → t ≤ (sizes_of c).cars → is_some (task_at g t) ≡ is_some (program_of c t)
task_opening c g t group few =
    let below : t < suc (sizes_of c).cars = omega (arith, few) in
    let here : 0 + t ≡ t = omega arith in
    ap (λ (x : Group). is_some (task_at x t)) group ∙ ap is_some (opening_get c 0 (suc (sizes_of c).cars) t below) ∙ ap (λ m. is_some (opening_task c (program_of c m))) here ∙ opens_there c (program_of c t)
