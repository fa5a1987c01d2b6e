-- The lines of the variables of tasks read back.
use Rattle.std.proofs.Common.{◌≡◌, ℕ, zero, suc, ◌+◌, ◌^◌, ◌<◌, ◌≤◌, List, [], ◌∷◌, ◌++◌, length, length-append, refl, sym, ap, ◌∙◌, subst, append_assoc, Some, None, Option, decimal, arith}
use Rattle.std.specs.Prelude.{codes, slice_get}
use Rattle.std.proofs.lemmas.Fmt.{decimal_injective}
use Rattle.il_syntax.specs.declared.tree.Config.{Config}
use Rattle.il_syntax.specs.declared.tree.Unit.{Unit as ProgramUnit}
use Rattle.base_maps.specs.NameMap.{Text, get}
use Rattle.il_semantics.specs.Scan.{opening_variables}
use Rattle.load_slots.specs.declared.flat.Cell.{Cell}
use Rattle.load_slots.specs.Layout.{AreOnce}
use Rattle.load_slots.specs.Program.{own_cells}
use Rattle.group_spec.specs.Image.{sizes_of}
use Rattle.group_spec.specs.Snapshot.{task_name, program_of}
use Rattle.group_spec.specs.World.{Group, TaskState, task_at, flat}
use Rattle.trace_text.specs.Reading.{Without}
use Rattle.trace_text.proofs.Bytes.{same_first, same_rest, split_once}
use Rattle.trace_text.proofs.Numbers.{decimal_without}
use Rattle.group_state.specs.Text.{task_path, task_lines, tasks_lines, end_line}
use Rattle.group_state.specs.Variables.{left, TakesTask, TakesTasks}
use Rattle.group_state.proofs.Words.{cancel}
use Rattle.group_state_laws.proofs.Lined.{lined, both_without}
use Rattle.group_state_laws.proofs.VarsBack.{IsFree, free_end, AreKept, variables_free, variables_back, begin_way}

-- NAMES OF TASKS

name_without : (stop t : ℕ) → stop < 48 → t < 2 ^ 64 → Without stop (task_name t)
name_without stop zero h k = (λ e. omega (arith, e, h), (λ e. omega (arith, e, h), (λ e. omega (arith, e, h), (λ e. omega (arith, e, h), (λ e. omega (arith, e, h), tt)))))
name_without stop (suc n) h k = (λ e. omega (arith, e, h), (λ e. omega (arith, e, h), (λ e. omega (arith, e, h), decimal_without stop (suc n) k h)))

names_apart : (t u : ℕ) → t < 2 ^ 64 → u < 2 ^ 64 → task_name t ≡ task_name u → t ≡ u
names_apart zero zero h k e = refl
names_apart zero (suc n) h k e = let other : ◌≡◌ {A = ℕ} 71 67 = same_first _ _ _ _ e in absurd (omega (arith, other))
names_apart (suc n) zero h k e = let other : ◌≡◌ {A = ℕ} 67 71 = same_first _ _ _ _ e in absurd (omega (arith, other))
names_apart (suc n) (suc m) h k e = decimal_injective (suc n) (suc m) h k (cancel (codes "CAR") (decimal (suc n)) (decimal (suc m)) e)

-- a path of a task is one of no other task
pub tasks_apart : (t u : ℕ) (p q : Text) → t < 2 ^ 64 → u < 2 ^ 64 → task_path t p ≡ task_path u q → t ≡ u
tasks_apart t u p q h k e =
    names_apart t u h k (split_once 46 (task_name t) (task_name u) (46 ∷ p) (46 ∷ q) (name_without 46 t (omega arith) h) (name_without 46 u (omega arith) k) refl refl e).0

pub paths_apart : (t : ℕ) (p q : Text) → task_path t p ≡ task_path t q → p ≡ q
paths_apart t p q e = same_rest 46 46 p q (cancel (task_name t) (46 ∷ p) (46 ∷ q) e)

pub path_line : (t : ℕ) (path : Text) → t < 2 ^ 64 → Without 10 path → Without 10 (task_path t path)
path_line t path h k = both_without 10 (task_name t) (46 ∷ path) (name_without 10 t (omega arith) h) (λ e. omega (arith, e), k)

-- TASKS

-- The variables of a task can be read back.
pub record IsTaskKept (c : Config) (t : ℕ) (u : ProgramUnit) (x : TaskState) : Type 0 where
  pub closed : x.tickets ≡ None
  pub kept : AreKept (task_path t) x.variables (own_cells c u)
  pub once : AreOnce (own_cells c u)
  pub others : (q : Text) → ((k : ℕ) (y : Cell) → slice_get (own_cells c u) k ≡ Some y → y.path ≡ q → ⊥) → get (opening_variables c u) q ≡ get x.variables q

-- there is a task exactly where there is a program, and it can be read back
abbrev pub IsSeatKept : Config → ℕ → Option ProgramUnit → Option TaskState → Type 0
IsSeatKept c t None None = Unit {0}
IsSeatKept c t None (Some x) = ⊥
IsSeatKept c t (Some u) None = ⊥
IsSeatKept c t (Some u) (Some x) = IsTaskKept c t u x

flat_is : {A : Type 0} (x : Option A) → flat (Some x) ≡ x
flat_is None = refl
flat_is (Some x) = refl

module _ (c : Config) where
  task_free :
      (t : ℕ) (o : Option ProgramUnit) (s : Option TaskState) → IsSeatKept c t o s → (other : Text) → ((path : Text) → other ≡ task_path t path → ⊥) → (tail : List (List ℕ)) → IsFree other tail → IsFree other (task_lines c t o s ++ tail)
  task_free t None s seat other apart tail free = free
  task_free t (Some u) None seat other apart tail free = absurd seat
  task_free t (Some u) (Some x) seat other apart tail free =
      variables_free (task_path t) (opening_variables c u) x.variables other (own_cells c u) tail seat.kept (λ k y at e. apart y.path e) free

  -- the variables of one task read back
  task_back :
      (t : ℕ) (o : Option ProgramUnit) (s : Option TaskState) → IsSeatKept c t o s → (tail : List (List ℕ)) → ((path : Text) → IsFree (task_path t path) tail) → (rest : List ℕ) (line last : ℕ) → last ≡ line + length (task_lines c t o s)
      → TakesTask c t o (left (lined (task_lines c t o s ++ tail) rest) line) s (left (lined tail rest) last)
  task_back t None None seat tail free rest line last count = let same : line ≡ last = omega (arith, count) in (refl, ap (λ n. left (lined tail rest) n) same)
  task_back t None (Some x) seat tail free rest line last count = absurd seat
  task_back t (Some u) None seat tail free rest line last count = absurd seat
  task_back t (Some u) (Some x) seat tail free rest line last count = (
    x.variables,
    ap (λ (tickets : Option (List (Option ℕ))). Some (record { variables = x.variables; tickets = tickets })) seat.closed,
    variables_back (task_path t) (opening_variables c u) x.variables (paths_apart t) x.variables tail rest (own_cells c u) (opening_variables c u) line last seat.once seat.kept (λ k y at. refl) (λ k y at. free y.path)
        (begin_way (task_path t) (opening_variables c u) x.variables x.variables (own_cells c u) seat.others) count,
  )

  module _ (g : Group) (few : (sizes_of c).cars ≤ 255) (seats : (t : ℕ) → t ≤ (sizes_of c).cars → IsSeatKept c t (program_of c t) (task_at g t)) where
    -- no line of these tasks is that of another variable
    pub tasks_free : (n t : ℕ) → t + n ≤ suc (sizes_of c).cars → (other : Text) → ((u : ℕ) (path : Text) → t ≤ u → u ≤ (sizes_of c).cars → other ≡ task_path u path → ⊥) → IsFree other (tasks_lines c g t n ++ end_line ∷ [])
    tasks_free zero t low other apart = free_end other []
    tasks_free (suc n) t low other apart =
        subst (IsFree other) (sym (append_assoc (task_lines c t (program_of c t) (task_at g t)) (tasks_lines c g (t + 1) n) (end_line ∷ [])))
        (task_free t (program_of c t) (task_at g t) (seats t (omega (arith, low))) other (λ path e. apart t path (omega arith) (omega (arith, low)) e) (tasks_lines c g (t + 1) n ++ end_line ∷ [])
        (tasks_free n (t + 1) (omega (arith, low)) other (λ u path h k e. apart u path (omega (arith, h)) k e)))

    -- the variables of all tasks read back
    pub tasks_back :
        (n t : ℕ) (xs : List (Option TaskState)) → length xs ≡ n → t + n ≡ suc (sizes_of c).cars → ((k : ℕ) → task_at g (t + k) ≡ flat (slice_get xs k)) → (rest : List ℕ) (line last : ℕ) → last ≡ line + length (tasks_lines c g t n)
        → TakesTasks c t n (left (lined (tasks_lines c g t n ++ end_line ∷ []) rest) line) xs (left (lined (end_line ∷ []) rest) last)
    tasks_back zero t [] long low at rest line last count = let same : line ≡ last = omega (arith, count) in (refl, ap (λ n. left (lined (end_line ∷ []) rest) n) same)
    tasks_back zero t (x ∷ xs) long low at rest line last count = absurd (omega (arith, long))
    tasks_back (suc n) t [] long low at rest line last count = absurd (omega (arith, long))
    tasks_back (suc n) t (x ∷ xs) long low at rest line last count =
        let own : List (List ℕ) = task_lines c t (program_of c t) (task_at g t) in
        let more : List (List ℕ) = tasks_lines c g (t + 1) n in
        let tail : List (List ℕ) = more ++ end_line ∷ [] in
        let sum : length (own ++ more) ≡ length own + length more = length-append own more in
        let first : t ≡ t + 0 = omega arith in
        let here : task_at g t ≡ x = ap (task_at g) first ∙ (at 0 ∙ flat_is x) in
        let free : (path : Text) → IsFree (task_path t path) tail =
        λ path. tasks_free n (t + 1) (omega (arith, low)) (task_path t path) (λ u other h k e. let same : t ≡ u = tasks_apart t u path other (omega (arith, low, few)) (omega (arith, k, few)) e in omega (arith, same, h)) in
        let next : (k : ℕ) → task_at g (t + 1 + k) ≡ flat (slice_get xs k) = λ k. let same : t + 1 + k ≡ t + suc k = omega arith in ap (task_at g) same ∙ at (suc k) in
        subst (λ (ls : List (List ℕ)). TakesTasks c t (suc n) (left (lined ls rest) line) (x ∷ xs) (left (lined (end_line ∷ []) rest) last)) (sym (append_assoc own more (end_line ∷ []))) (
          x,
          xs,
          left (lined tail rest) (line + length own),
          refl,
          subst (λ (s : Option TaskState). TakesTask c t (program_of c t) (left (lined (own ++ tail) rest) line) s (left (lined tail rest) (line + length own))) here
              (task_back t (program_of c t) (task_at g t) (seats t (omega (arith, low))) tail free rest line (line + length own) refl),
          tasks_back n (t + 1) xs (omega (arith, long)) (omega (arith, low)) next rest (line + length own) last (omega (arith, count, sum)),
        )
