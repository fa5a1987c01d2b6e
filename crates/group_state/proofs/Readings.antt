-- Steps of reading: the variables of a task, and one task more.
use Rattle.std.proofs.Common.{◌≡◌, inl, inr, ℕ, zero, suc, ◌+◌, ◌-◌, ◌<◌, ◌≤◌, false, List, [], ◌∷◌, ◌++◌, length, get_or, refl, sym, ap, ◌∙◌, subst, arith, Some, None, Option, pos}
use Rattle.std.specs.Prelude.{slice_get, slice_set, is_some, IsSome}
use Rattle.std.proofs.lemmas.Option.{same_Some}
use Rattle.il_syntax.specs.declared.tree.Config.{Config}
use Rattle.il_syntax.specs.declared.tree.Unit.{Unit as ProgramUnit}
use Rattle.il_statics.specs.Declarations.{declared_limits}
use Rattle.base_maps.specs.NameMap.{Text, get, insert}
use Rattle.il_semantics.specs.declared.value.Value.{Value}
use Rattle.il_semantics.specs.Scan.{opening_variables, opening_globals}
use Rattle.il_semantics.specs.State.{Values}
use Rattle.load_slots.specs.declared.flat.Cell.{Cell}
use Rattle.load_slots.specs.Layout.{Rows, Fits, value_by, view}
use Rattle.load_slots.specs.Program.{own_cells, global_cells}
use Rattle.scan_task.specs.Scanning.{IsRunnable, FitsOwn, variables_in}
use Rattle.scan_task.specs.Sharing.{FitsGlobals, globals_in}
use Rattle.group_spec.specs.Image.{sizes_of}
use Rattle.group_spec.specs.Snapshot.{program_of}
use Rattle.group_spec.specs.World.{Group, TaskState, flat, task_at, opening_task, opening_tasks_from}
use Rattle.group_laws.specs.Tasks.{IsTaskOf}
use Rattle.group_world.specs.Setting.{IsSeated}
use Rattle.group_spec.specs.declared.image.Image.{Image}
use Rattle.group_spec.specs.Calls.{Calls}
use Rattle.group_state.specs.declared.fault.Wrong.{Wrong}
use Rattle.group_state.specs.declared.read.Behind.{Behind}
use Rattle.group_state.specs.Heads.{TakesHead, variables_at}
use Rattle.group_state.specs.Holding.{with_head, with_globals}
use Rattle.group_state.specs.Reading.{IsState, IsNoState}
use Rattle.group_state.specs.Text.{global_path, task_path}
use Rattle.group_state.specs.Variables.{Left, left, Reached, reached, at_rest, TakesVariables, TakesGlobals, TakesTask, TakesTasks}
use Rattle.group_state.specs.Walking.{left_of, with_task, with_tasks, ReadsTask, ReadsTasks, ReadsVariables, RefusesAll}
use Rattle.group_state.proofs.Walks.{at_place, first_is, globals_apart, own_once, own_view_is, set_own, get_set, get_behind, set_behind, no_task_taken, no_opening}

-- WHAT A VARIABLE BEGINS WITH

module _ (d : Config) (runs : IsRunnable d) (cells : List Cell) (r : Rows) (k : ℕ) (x : Cell) (low : k < length cells) (at : x ≡ get_or cells k x) (v : Value) (is : v ≡ value_by (declared_limits x.scalar) (get_or r.numbers k (pos 0)) (get_or r.flags k false)) where
  pub global_first : cells ≡ global_cells d → FitsGlobals d r → globals_in d r ≡ opening_globals d → Some v ≡ get (opening_globals d) x.path
  global_first of fits opening = first_is (global_cells d) (globals_apart d runs) r fits (opening_globals d) opening k x v (ap (λ (xs : List Cell). slice_get xs k) (sym of) ∙ at_place cells k x low at) is

  pub own_first : (t : ℕ) (u : ProgramUnit) → program_of d t ≡ Some u → cells ≡ own_cells d u → FitsOwn d t r → variables_in d t r ≡ opening_variables d u → Some v ≡ get (opening_variables d u) x.path
  own_first t u program of fits opening =
      let one : fits.0 ≡ u = same_Some fits.0 u (sym fits.1.program ∙ program) in
      let own : IsTaskOf d t u = subst (λ (w : ProgramUnit). IsTaskOf d t w) one fits.1 in
      let rows : Fits (own_cells d u) r = subst (λ (w : ProgramUnit). Fits (own_cells d w) r) one fits.2 in
      let shown : view (own_cells d u) r ≡ opening_variables d u = sym (own_view_is d t u r program) ∙ opening in
      first_is (own_cells d u) (own_once d runs t u own) r rows (opening_variables d u) shown k x v (ap (λ (xs : List Cell). slice_get xs k) (sym of) ∙ at_place cells k x low at) is

-- ONE TASK

pub some_is : {X : Type 0} (o : Option X) (x : X) → o ≡ Some x → IsSome o
some_is (Some y) x e = refl
some_is None x e = absurd (cc)

-- a task that is set is there
pub task_set : (g after : Group) (t : ℕ) (a : Option TaskState) (x : TaskState) → slice_get g.tasks t ≡ Some a → after ≡ with_task g t (Some x) → task_at after t ≡ Some x
task_set g after t a x there is = ap (λ (y : Group). task_at y t) is ∙ ap flat (get_set g.tasks t a (Some x) there)

-- the task that opens, set again
pub opened_again : (c : Config) (g : Group) (t : ℕ) (u : ProgramUnit) → program_of c t ≡ Some u → slice_get g.tasks t ≡ Some (opening_task c (program_of c t)) → g ≡ with_task g t (Some (at_rest (opening_variables c u)))
opened_again c g t u program opened = ap (with_tasks g) (sym (set_own g.tasks t (Some (at_rest (opening_variables c u))) (opened ∙ ap (λ (o : Option ProgramUnit). Some (opening_task c o)) program)))

-- where there is no task nothing is read
pub none_read : (c : Config) (g : Group) (t : ℕ) (from : Behind) → is_some (program_of c t) ≡ false → slice_get g.tasks t ≡ Some (opening_task c (program_of c t)) → ReadsTask c t g from g from
none_read c g t from none opened =
    record {
      task = None;
      takes = no_task_taken c t (program_of c t) (left_of from) none;
      others = ap (with_tasks g) (sym (set_own g.tasks t None (opened ∙ ap Some (no_opening c (program_of c t) none))));
    }

-- ONE TASK AFTER ANOTHER

-- a task that comes still opens
pub still_opens : (c : Config) (g before : Group) (done : List (Option TaskState)) (k m n : ℕ) → m ≡ suc n → length done ≡ k → g ≡ with_tasks before (done ++ opening_tasks_from c k m) → slice_get g.tasks k ≡ Some (opening_task c (program_of c k))
still_opens c g before done k m n step long is =
    ap (λ (y : Group). slice_get y.tasks k) is ∙ (ap (λ i. slice_get (done ++ opening_tasks_from c k i) k) step ∙ get_behind done (opening_task c (program_of c k)) (opening_tasks_from c (k + 1) n) k long)

-- and now it is set
pub next_set :
    (c : Config) (g before after : Group) (done : List (Option TaskState)) (task : Option TaskState) (k m n : ℕ) → m ≡ suc n → length done ≡ k → g ≡ with_tasks before (done ++ opening_tasks_from c k m)
    → after ≡ with_task g k task → after ≡ with_tasks before ((done ++ task ∷ []) ++ opening_tasks_from c (k + 1) n)
next_set c g before after done task k m n step long is now =
    now ∙ (ap (λ (y : Group). with_task y k task) is
    ∙ ap (with_tasks before) (ap (λ i. slice_set (done ++ opening_tasks_from c k i) k task) step ∙ set_behind done (opening_task c (program_of c k)) task (opening_tasks_from c (k + 1) n) k long))

pub one_longer : {X : Type 0} (done : List X) (x : X) (k : ℕ) → length done ≡ k → length (done ++ x ∷ []) ≡ k + 1
one_longer [] x k e = omega (arith, e)
one_longer (y ∷ done) x k e = let more : length (done ++ x ∷ []) ≡ length done + 1 = one_longer done x (length done) refl in omega (arith, e, more)

-- before the first task
pub tasks_begin : (c : Config) (g : Group) → g.tasks ≡ opening_tasks_from c 0 (suc (sizes_of c).cars) → g ≡ with_tasks g (opening_tasks_from c 0 (suc (sizes_of c).cars - 0))
tasks_begin c g opened =
    let none : suc (sizes_of c).cars ≡ suc (sizes_of c).cars - 0 = omega arith in
    ap (with_tasks g) (opened ∙ ap (opening_tasks_from c 0) none)

-- no task is left
pub tasks_read :
    (c : Config) (before after : Group) (from to : Behind) (done : List (Option TaskState)) (t m : ℕ) → m ≡ 0 → after ≡ with_tasks before (done ++ opening_tasks_from c t m)
    → ((others : List (Option TaskState)) (at : Left) → TakesTasks c t m (left_of to) others at → TakesTasks c 0 (suc (sizes_of c).cars) (left_of from) (done ++ others) at) → ReadsTasks c before from after to
tasks_read c before after from to done t m none group more =
    let tasks : after.tasks ≡ done ++ opening_tasks_from c t m = ap (λ (y : Group). y.tasks) group in
    record {
      takes =
          subst (λ (ts : List (Option TaskState)). TakesTasks c 0 (suc (sizes_of c).cars) (left_of from) ts (left_of to)) (sym tasks)
          (more (opening_tasks_from c t m) (left_of to) (subst (λ i. TakesTasks c t i (left_of to) (opening_tasks_from c t i) (left_of to)) (sym none) (refl, refl)));
      others = group ∙ ap (with_tasks before) (sym tasks);
    }

-- TASKS THAT ARE READ REST

flat_some : {X : Type 0} (o : Option X) → flat (Some o) ≡ o
flat_some None = refl
flat_some (Some x) = refl

task_seated : (c : Config) (t : ℕ) (o : Option ProgramUnit) (from to : Left) (task : Option TaskState) → TakesTask c t o from task to → is_some task ≡ is_some o
task_seated c t None from to task h = ap is_some h.0
task_seated c t (Some u) from to task h = ap is_some h.1

task_rests : (c : Config) (t : ℕ) (o : Option ProgramUnit) (from to : Left) (task : Option TaskState) → TakesTask c t o from task to → (x : TaskState) → task ≡ Some x → x.tickets ≡ None
task_rests c t None from to task h x e = let no : None ≡ Some x = sym h.0 ∙ e in absurd (cc)
task_rests c t (Some u) from to task h x e = sym (ap (λ (y : TaskState). y.tickets) (same_Some (at_rest h.0) x (sym h.1 ∙ e)))

tasks_seated : (c : Config) (a n : ℕ) (from to : Left) (tasks : List (Option TaskState)) → TakesTasks c a n from tasks to → (j : ℕ) → j < n → is_some (flat (slice_get tasks j)) ≡ is_some (program_of c (a + j))
tasks_seated c a zero from to tasks h j low = absurd (omega (arith, low))
tasks_seated c a (suc n) from to tasks h zero low =
    let here : a ≡ a + 0 = omega arith in
    ap (λ (ts : List (Option TaskState)). is_some (flat (slice_get ts 0))) h.3 ∙ (ap is_some (flat_some h.0) ∙ (task_seated c a (program_of c a) from h.2 h.0 h.4 ∙ ap (λ i. is_some (program_of c i)) here))
tasks_seated c a (suc n) from to tasks h (suc j) low =
    let here : (a + 1) + j ≡ a + suc j = omega arith in
    ap (λ (ts : List (Option TaskState)). is_some (flat (slice_get ts (suc j)))) h.3 ∙ (tasks_seated c (a + 1) n h.2 to h.1 h.5 j (omega (arith, low)) ∙ ap (λ i. is_some (program_of c i)) here)

tasks_rest : (c : Config) (a n : ℕ) (from to : Left) (tasks : List (Option TaskState)) → TakesTasks c a n from tasks to → (j : ℕ) (x : TaskState) → flat (slice_get tasks j) ≡ Some x → x.tickets ≡ None
tasks_rest c a zero from to tasks h j x e = let no : flat (slice_get [] j) ≡ Some x = ap (λ (ts : List (Option TaskState)). flat (slice_get ts j)) (sym h.0) ∙ e in absurd (cc)
tasks_rest c a (suc n) from to tasks h zero x e = task_rests c a (program_of c a) from h.2 h.0 h.4 x (sym (flat_some h.0) ∙ (ap (λ (ts : List (Option TaskState)). flat (slice_get ts 0)) (sym h.3) ∙ e))
tasks_rest c a (suc n) from to tasks h (suc j) x e = tasks_rest c (a + 1) n h.2 to h.1 h.5 j x (ap (λ (ts : List (Option TaskState)). flat (slice_get ts (suc j))) (sym h.3) ∙ e)

pub read_seated : (c : Config) (g : Group) (from to : Left) → TakesTasks c 0 (suc (sizes_of c).cars) from g.tasks to → IsSeated c g
read_seated c g from to h = record {
  there = λ t few. tasks_seated c 0 (suc (sizes_of c).cars) from to g.tasks h t (omega (arith, few)) ∙ ap (λ i. is_some (program_of c i)) (let e : 0 + t ≡ t = omega arith in e);
  closed = λ t x at. tasks_rest c 0 (suc (sizes_of c).cars) from to g.tasks h t x at;
}

-- LINES ARE COUNTED UP

same_line : (a b : ℕ) → a ≡ b → a ≤ b
same_line a b e = omega (arith, e)

pub variables_later : (path : Text → Text) (initial : Values) (cells : List Cell) (from to : Reached) → TakesVariables path initial cells from to → from.line ≤ to.line
variables_later path initial [] from to h = same_line from.line to.line (ap (λ (r : Reached). r.line) h)
variables_later path initial (cell ∷ cells) from to h =
    elim h [
      | inl a ↦ variables_later path initial cells from to a.1
      | inr b ↦ let more : from.line + 1 ≤ to.line = variables_later path initial cells (reached (insert from.values cell.path b.0) b.1 (from.line + 1)) to b.3 in omega (arith, more)
    ]

task_later : (c : Config) (t : ℕ) (o : Option ProgramUnit) (from to : Left) (task : Option TaskState) → TakesTask c t o from task to → from.line ≤ to.line
task_later c t None from to task h = same_line from.line to.line (ap (λ (r : Left). r.line) h.1)
task_later c t (Some u) from to task h = variables_later (task_path t) (opening_variables c u) (own_cells c u) (reached (opening_variables c u) from.rest from.line) (reached h.0 to.rest to.line) h.2

pub tasks_later : (c : Config) (a n : ℕ) (from to : Left) (tasks : List (Option TaskState)) → TakesTasks c a n from tasks to → from.line ≤ to.line
tasks_later c a zero from to tasks h = same_line from.line to.line (ap (λ (r : Left). r.line) h.1)
tasks_later c a (suc n) from to tasks h =
    let one : from.line ≤ h.2.line = task_later c a (program_of c a) from h.2 h.0 h.4 in
    let others : h.2.line ≤ to.line = tasks_later c (a + 1) n h.2 to h.1 h.5 in
    omega (arith, one, others)

-- ALL

-- a head and all variables are a state
pub state_read :
    (c : Config) (digest text : List ℕ) (image : Image) (calls : Calls) (opened before after : Group) (from to : Behind) → TakesHead (sizes_of c) digest text image calls from.rest.now → from.line ≡ variables_at (sizes_of c)
    → before ≡ with_head opened image calls → ReadsVariables c before from after to → IsState c digest text (record { group = after; rest = to.rest.now; lines = to.line })
state_read c digest text image calls opened before after from to head line set reads =
    let others : after ≡ with_tasks (with_globals (with_head opened image calls) after.globals) after.tasks = reads.others ∙ ap (λ (b : Group). with_tasks (with_globals b after.globals) after.tasks) set in
    let image_is : after.image ≡ image = ap (λ (y : Group). y.image) others in
    let calls_are : after.calls ≡ calls = ap (λ (y : Group). y.calls) others in
    record {
      behind_head = from.rest.now;
      behind_globals = reads.between;
      head =
          subst (λ (i : Image). TakesHead (sizes_of c) digest text i after.calls from.rest.now) (sym image_is)
          (subst (λ (k : Calls). TakesHead (sizes_of c) digest text image k from.rest.now) (sym calls_are) head);
      globals = subst (λ n. TakesGlobals c from.rest.now n (reached after.globals reads.between.rest reads.between.line)) line reads.globals;
      last = reads.last;
      tasks = reads.tasks;
      ends = reads.ends;
    }

-- a head and refused variables are none
pub variables_refused :
    (c : Config) (digest text : List ℕ) (image : Image) (calls : Calls) (rest : List ℕ) (line : ℕ) (wrong : Wrong) → TakesHead (sizes_of c) digest text image calls rest → line ≡ variables_at (sizes_of c) → RefusesAll c rest line wrong
    → IsNoState c digest text wrong
variables_refused c digest text image calls rest line wrong head is h =
    elim (subst (λ n. RefusesAll c rest n wrong) is h) [
      | inl a ↦ inr (inl (image, calls, rest, head, a))
      | inr b ↦ elim b [
        | inl x ↦ inr (inr (inl (image, calls, rest, x.0, head, x.1, x.2)))
        | inr y ↦ inr (inr (inr (image, calls, rest, y.0, y.1, y.2, head, y.3, y.4, y.5)))
      ]
    ]
