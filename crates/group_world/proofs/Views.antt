-- The tasks and scans of a world, by their numbers.
use Rattle.std.proofs.Common.{◌≡◌, ℕ, zero, suc, ◌+◌, ◌<◌, ◌≤◌, ◌⊎◌, inl, inr, true, false, List, [], ◌∷◌, length, Option, Some, None, refl, sym, ap, ap₂, ◌∙◌, arith}
use Rattle.std.specs.Prelude.{slice_get, slice_set, slice_index_or, is_some, option_and_then}
use Rattle.il_syntax.specs.declared.tree.Config.{Config}
use Rattle.base_maps.specs.NameMap.{get}
use Rattle.scan_task.specs.Scanning.{variables_in}
use Rattle.scan_task.specs.Standing.{Standing}
use Rattle.group_spec.specs.World.{TaskState, flat}
use Rattle.group_world.specs.declared.shared.TaskMemory.{TaskMemory}
use Rattle.group_world.specs.Running.{task_in, task_by, tasks_in}
use Rattle.group_world.specs.Groups.{scan_by, scans_by}

-- OPTIONS IN LISTS

pub flat_of : {X : Type 0} (o : Option X) → flat (Some o) ≡ o
flat_of None = refl
flat_of (Some x) = refl

pub flat_some : {X : Type 0} (o : Option (Option X)) (x : X) → flat o ≡ Some x → o ≡ Some (Some x)
flat_some None x e = let bad : ◌≡◌ {A = Option _} None (Some x) = e in cc
flat_some (Some None) x e = let bad : ◌≡◌ {A = Option _} None (Some x) = e in cc
flat_some (Some (Some y)) x e = ap Some e

pub length_set : {X : Type 0} (xs : List X) (k : ℕ) (v : X) → length (slice_set xs k v) ≡ length xs
length_set [] zero v = refl
length_set [] (suc k) v = refl
length_set (x ∷ xs) zero v = refl
length_set (x ∷ xs) (suc k) v = ap suc (length_set xs k v)

pub set_same : {X : Type 0} (xs : List X) (k : ℕ) (v : X) → slice_get xs k ≡ Some v → slice_set xs k v ≡ xs
set_same [] zero v e = refl
set_same [] (suc k) v e = refl
set_same (x ∷ xs) zero v e = let same : Some x ≡ Some v = e in let is : x ≡ v = cc in ap (λ y. y ∷ xs) (sym is)
set_same (x ∷ xs) (suc k) v e = ap (λ ys. x ∷ ys) (set_same xs k v e)

pub set_again : {X : Type 0} (xs : List X) (k : ℕ) (u v : X) → slice_set (slice_set xs k u) k v ≡ slice_set xs k v
set_again [] zero u v = refl
set_again [] (suc k) u v = refl
set_again (x ∷ xs) zero u v = refl
set_again (x ∷ xs) (suc k) u v = ap (λ ys. x ∷ ys) (set_again xs k u v)

-- what is in a list in which one place was set
pub after_set : {X : Type 0} (xs : List (Option X)) (k j : ℕ) (v x : X) → flat (slice_get (slice_set xs k (Some v)) j) ≡ Some x → ((j ≡ k) × (v ≡ x)) ⊎ (flat (slice_get xs j) ≡ Some x)
after_set [] zero j v x e = inr e
after_set [] (suc k) j v x e = inr e
after_set (y ∷ ys) zero zero v x e = let same : Some v ≡ Some x = e in inl (refl, cc)
after_set (y ∷ ys) zero (suc j) v x e = inr e
after_set (y ∷ ys) (suc k) zero v x e = inr e
after_set (y ∷ ys) (suc k) (suc j) v x e =
    elim (after_set ys k j v x e) [
      | inl found ↦ inl (ap suc found.0, found.1)
      | inr found ↦ inr found
    ]

-- or was there before, at another place
pub elsewhere : {X : Type 0} (xs : List (Option X)) (k j : ℕ) (v : Option X) (x : X) → flat (slice_get (slice_set xs k v) j) ≡ Some x → (j ≡ k) ⊎ (flat (slice_get xs j) ≡ Some x)
elsewhere [] zero j v x e = inr e
elsewhere [] (suc k) j v x e = inr e
elsewhere (y ∷ ys) zero zero v x e = inl refl
elsewhere (y ∷ ys) zero (suc j) v x e = inr e
elsewhere (y ∷ ys) (suc k) zero v x e = inr e
elsewhere (y ∷ ys) (suc k) (suc j) v x e =
    elim (elsewhere ys k j v x e) [
      | inl same ↦ inl (ap suc same)
      | inr was ↦ inr was
    ]

pub there_set : {X : Type 0} (xs : List (Option X)) (k j : ℕ) (v x : X) → flat (slice_get xs k) ≡ Some x → is_some (flat (slice_get (slice_set xs k (Some v)) j)) ≡ is_some (flat (slice_get xs j))
there_set [] zero j v x e = refl
there_set [] (suc k) j v x e = refl
there_set (y ∷ ys) zero zero v x e = sym (ap is_some e)
there_set (y ∷ ys) zero (suc j) v x e = refl
there_set (y ∷ ys) (suc k) zero v x e = refl
there_set (y ∷ ys) (suc k) (suc j) v x e = there_set ys k j v x e

-- what was set is there
pub set_there : {X : Type 0} (xs : List (Option X)) (k : ℕ) (v : X) → k < length xs → flat (slice_get (slice_set xs k (Some v)) k) ≡ Some v
set_there [] k v below = absurd (omega (arith, below))
set_there (y ∷ ys) zero v below = refl
set_there (y ∷ ys) (suc k) v below = set_there ys k v (omega (arith, below))

-- the place of something is within the list
pub within : {X : Type 0} (xs : List (Option X)) (k : ℕ) (x : X) → flat (slice_get xs k) ≡ Some x → k < length xs
within [] zero x e = let bad : ◌≡◌ {A = Option _} None (Some x) = e in cc
within [] (suc k) x e = let bad : ◌≡◌ {A = Option _} None (Some x) = e in cc
within (y ∷ ys) zero x e = omega arith
within (y ∷ ys) (suc k) x e = let rest = within ys k x e in omega (arith, rest)

-- and nothing is beyond it
pub beyond : {X : Type 0} (xs : List (Option X)) (k : ℕ) → length xs ≤ k → flat (slice_get xs k) ≡ None
beyond [] zero past = refl
beyond [] (suc k) past = refl
beyond (y ∷ ys) zero past = absurd (omega (arith, past))
beyond (y ∷ ys) (suc k) past = beyond ys k (omega (arith, past))

-- TASKS

pub task_get : (c : Config) (n : ℕ) (memories : List (Option TaskMemory)) (k : ℕ) → flat (slice_get (tasks_in c n memories) k) ≡ task_by c (n + k) (flat (slice_get memories k))
task_get c n [] zero = refl
task_get c n [] (suc k) = refl
task_get c n (None ∷ memories) zero = refl
task_get c n (Some s ∷ memories) zero = let e : n ≡ n + 0 = omega arith in ap (λ m. Some (task_in c m s)) e
task_get c n (s ∷ memories) (suc k) = let e : (n + 1) + k ≡ n + suc k = omega arith in task_get c (n + 1) memories k ∙ ap (λ m. task_by c m (flat (slice_get memories k))) e

pub task_set : (c : Config) (n : ℕ) (memories : List (Option TaskMemory)) (k : ℕ) (s : TaskMemory) → tasks_in c n (slice_set memories k (Some s)) ≡ slice_set (tasks_in c n memories) k (Some (task_in c (n + k) s))
task_set c n [] zero s = refl
task_set c n [] (suc k) s = refl
task_set c n (x ∷ memories) zero s = let e : n ≡ n + 0 = omega arith in ap (λ m. Some (task_in c m s) ∷ tasks_in c (n + 1) memories) e
task_set c n (x ∷ memories) (suc k) s =
    let e : (n + 1) + k ≡ n + suc k = omega arith in
    ap (λ ts. task_by c n x ∷ ts) (task_set c (n + 1) memories k s ∙ ap (λ m. slice_set (tasks_in c (n + 1) memories) k (Some (task_in c m s))) e)

-- SCANS

pub scan_here : (tasks : List (Option TaskState)) (stores : List (Option Standing)) (k : ℕ) → length stores ≡ length tasks → flat (slice_get (scans_by tasks stores) k) ≡ scan_by (flat (slice_get tasks k)) (flat (slice_get stores k))
scan_here [] [] zero h = refl
scan_here [] [] (suc k) h = refl
scan_here [] (t ∷ stores) k h = absurd (omega (arith, h))
scan_here (s ∷ tasks) [] k h = absurd (omega (arith, h))
scan_here (s ∷ tasks) (t ∷ stores) zero h = flat_of (scan_by s t) ∙ ap₂ scan_by (sym (flat_of s)) (sym (flat_of t))
scan_here (s ∷ tasks) (t ∷ stores) (suc k) h = scan_here tasks stores k (omega (arith, h))

pub scan_put : (tasks : List (Option TaskState)) (stores : List (Option Standing)) (k : ℕ) (s : TaskState) (t : Standing) → length stores ≡ length tasks
    → scans_by (slice_set tasks k (Some s)) (slice_set stores k (Some t)) ≡ slice_set (scans_by tasks stores) k (scan_by (Some s) (Some t))
scan_put [] [] zero s t h = refl
scan_put [] [] (suc k) s t h = refl
scan_put [] (y ∷ stores) k s t h = absurd (omega (arith, h))
scan_put (x ∷ tasks) [] k s t h = absurd (omega (arith, h))
scan_put (x ∷ tasks) (y ∷ stores) zero s t h = refl
scan_put (x ∷ tasks) (y ∷ stores) (suc k) s t h = ap (λ ts. scan_by x y ∷ ts) (scan_put tasks stores k s t (omega (arith, h)))

pub scans_length : (tasks : List (Option TaskState)) (stores : List (Option Standing)) → length stores ≡ length tasks → length (scans_by tasks stores) ≡ length tasks
scans_length [] [] many = refl
scans_length [] (k ∷ stores) many = absurd (omega (arith, many))
scans_length (s ∷ tasks) [] many = absurd (omega (arith, many))
scans_length (s ∷ tasks) (k ∷ stores) many = ap suc (scans_length tasks stores (omega (arith, many)))

-- what is at an index
pub stands_at : {X : Type 0} (xs : List (Option X)) (k : ℕ) (d : Option X) (x : X) → slice_index_or xs k d ≡ Some x → k < length xs → flat (slice_get xs k) ≡ Some x
stands_at [] k d x e below = absurd (omega (arith, below))
stands_at (None ∷ xs) zero d x e below = let bad : ◌≡◌ {A = Option _} None (Some x) = e in cc
stands_at (Some y ∷ xs) zero d x e below = e
stands_at (y ∷ xs) (suc k) d x e below = stands_at xs k d x e (omega (arith, below))

-- the value that is found is the one that is there
pub the_memory : {X : Type 0} (o : Option X) (x y : X) → o ≡ Some x → o ≡ Some y → x ≡ y
the_memory o x y a b = let both : Some x ≡ Some y = sym a ∙ b in cc

-- what an index lends is what is there
lent : {X : Type 0} (xs : List (Option X)) (k : ℕ) (o : Option X) → o ≡ slice_index_or xs k o → is_some (flat (slice_get xs k)) ≡ true → flat (slice_get xs k) ≡ o
lent [] zero o e there = let bad : false ≡ true = there in cc
lent [] (suc k) o e there = let bad : false ≡ true = there in cc
lent (x ∷ xs) zero o e there = flat_of x ∙ sym e
lent (x ∷ xs) (suc k) o e there = lent xs k o e there

pub here : {X : Type 0} (xs : List (Option X)) (i k : ℕ) (o : Option X) → i ≡ k → o ≡ slice_index_or xs i o → is_some (flat (slice_get xs k)) ≡ true → flat (slice_get xs k) ≡ o
here xs i k o same e there = lent xs k o (e ∙ ap (λ n. slice_index_or xs n o) same) there

-- what is there
pub some_of : {X : Type 0} (o : Option X) → is_some o ≡ true → (x : X) × (o ≡ Some x)
some_of None e = cc
some_of (Some x) e = (x, refl)

-- THE SAME FROM THE FIRST ON

pub task_here : (c : Config) (memories : List (Option TaskMemory)) (k : ℕ) → flat (slice_get (tasks_in c 0 memories) k) ≡ task_by c k (flat (slice_get memories k))
task_here c memories k = let e : 0 + k ≡ k = omega arith in task_get c 0 memories k ∙ ap (λ m. task_by c m (flat (slice_get memories k))) e

pub task_put : (c : Config) (memories : List (Option TaskMemory)) (k : ℕ) (s : TaskMemory) → tasks_in c 0 (slice_set memories k (Some s)) ≡ slice_set (tasks_in c 0 memories) k (Some (task_in c k s))
task_put c memories k s = let e : 0 + k ≡ k = omega arith in task_set c 0 memories k s ∙ ap (λ m. slice_set (tasks_in c 0 memories) k (Some (task_in c m s))) e

-- VARIABLES

-- the value of a variable of a task, by its rows
pub variable_of : (c : Config) (t : ℕ) (path : List ℕ) (o : Option TaskMemory) → option_and_then (λ (s : TaskMemory). get (variables_in c t s.variables) path) o ≡ option_and_then (λ (task : TaskState). get task.variables path) (task_by c t o)
variable_of c t path None = refl
variable_of c t path (Some s) = refl
