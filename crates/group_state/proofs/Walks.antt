-- Going over cells, one after another.
use Rattle.std.proofs.Common.{◌≡◌, inl, inr, ℕ, zero, suc, ◌+◌, ◌<◌, ◌≤◌, false, List, [], ◌∷◌, ◌++◌, length, get_or, drop, refl, sym, ap, ap₂, ◌∙◌, subst, append_assoc, arith, Some, None, Option, pos}
use Rattle.std.specs.Prelude.{slice_get, slice_set, Contains, is_some}
use Rattle.std.proofs.lemmas.Option.{same_Some}
use Rattle.il_syntax.specs.declared.tree.Config.{Config}
use Rattle.il_syntax.specs.declared.tree.Unit.{Unit as ProgramUnit}
use Rattle.il_statics.specs.Declarations.{declared_limits}
use Rattle.base_maps.specs.NameMap.{Text, get, insert}
use Rattle.il_semantics.specs.declared.value.Value.{Value}
use Rattle.il_semantics.specs.Scan.{opening_variables}
use Rattle.il_semantics.specs.State.{Values}
use Rattle.load_slots.specs.declared.flat.Cell.{Cell}
use Rattle.load_slots.specs.Layout.{Rows, Fits, value_by, view, AreOnce}
use Rattle.load_slots.specs.Program.{own_cells, seen_cells, global_cells}
use Rattle.load_slots.proofs.Globals.{globals_once}
use Rattle.load_slots.proofs.Kept.{has}
use Rattle.load_slots.proofs.Tasks.{cells_once}
use Rattle.scan_task.specs.Scanning.{IsRunnable, own_view, variables_in}
use Rattle.scan_task.proofs.Scans.{accepted}
use Rattle.group_spec.specs.Snapshot.{program_of}
use Rattle.group_spec.specs.World.{TaskState, opening_task}
use Rattle.group_laws.specs.Tasks.{IsTaskOf}
use Rattle.group_state.specs.declared.fault.Wrong.{Wrong}
use Rattle.group_state.specs.Text.{task_path}
use Rattle.group_state.specs.Heads.{IsAt}
use Rattle.group_state.specs.Variables.{IsAbsent, TakesVariable, RefusesVariable, Reached, reached, TakesVariables, RefusesVariables, Left, at_rest, TakesTask, RefusesTask, TakesTasks, RefusesTasks}

-- CELLS BY THEIR PLACES

-- the cell at a place
pub at_place : {X : Type 0} (xs : List X) (k : ℕ) (x : X) → k < length xs → x ≡ get_or xs k x → slice_get xs k ≡ Some x
at_place [] k x h e = absurd (omega (arith, h))
at_place (y ∷ xs) zero x h e = ap Some (sym e)
at_place (y ∷ xs) (suc k) x h e = at_place xs k x (omega (arith, h)) e

-- the element at a place, with anything in place of one that isn't there
pub got : {X : Type 0} (xs : List X) (k : ℕ) (d x : X) → slice_get xs k ≡ Some x → get_or xs k d ≡ x
got [] k d x e = absurd (cc)
got (y ∷ xs) zero d x e = same_Some y x e
got (y ∷ xs) (suc k) d x e = got xs k d x e

-- it comes before the rest
pub drop_at : {X : Type 0} (xs : List X) (k m : ℕ) (x : X) → slice_get xs k ≡ Some x → m ≡ k + 1 → drop k xs ≡ x ∷ drop m xs
drop_at [] k m x e is = absurd (cc)
drop_at (y ∷ xs) zero m x e is =
    let one : m ≡ 1 = omega (arith, is) in
    ap₂ (λ a b. a ∷ b) (same_Some y x e) (ap (λ n. drop n (y ∷ xs)) (sym one))
drop_at (y ∷ xs) (suc k) m x e is =
    let next : m ≡ suc (k + 1) = omega (arith, is) in
    drop_at xs k (k + 1) x e refl ∙ ap (λ n. x ∷ drop n (y ∷ xs)) (sym next)

pub at_contains : {X : Type 0} (xs : List X) (k : ℕ) (x : X) → slice_get xs k ≡ Some x → Contains xs x
at_contains [] k x e = absurd (cc)
at_contains (y ∷ xs) zero x e = (0, omega arith, same_Some y x e)
at_contains (y ∷ xs) (suc k) x e = let more = at_contains xs k x e in (suc more.0, omega (arith, more.1), more.2)

pub nothing_left : {X : Type 0} (xs : List X) (k : ℕ) → length xs ≤ k → drop k xs ≡ []
nothing_left [] zero h = refl
nothing_left [] (suc k) h = refl
nothing_left (x ∷ xs) zero h = absurd (omega (arith, h))
nothing_left (x ∷ xs) (suc k) h = nothing_left xs k (omega (arith, h))

-- WHAT A CELL BEGINS WITH

-- the first row of a cell has its initial value
pub first_is :
    (cells : List Cell) → AreOnce cells → (r : Rows) → Fits cells r → (initial : Values) → view cells r ≡ initial → (k : ℕ) (cell : Cell) (v : Value) → slice_get cells k ≡ Some cell
    → v ≡ value_by (declared_limits cell.scalar) (get_or r.numbers k (pos 0)) (get_or r.flags k false) → Some v ≡ get initial cell.path
first_is cells once r fits initial is k cell v at e =
    let h = has cells once k cell r.numbers r.flags at fits.numbers fits.flags in
    let number : get_or r.numbers k (pos 0) ≡ h.number = got r.numbers k (pos 0) h.number h.number_is in
    let flag : get_or r.flags k false ≡ h.flag = got r.flags k false h.flag h.flag_is in
    ap Some (e ∙ ap₂ (λ z b. value_by (declared_limits cell.scalar) z b) number flag) ∙ (sym h.value_is ∙ ap (λ m. get m cell.path) is)

-- STEPS

module _ (path : Text → Text) (initial : Values) (cells : List Cell) (k m : ℕ) (cell : Cell) (at : slice_get cells k ≡ Some cell) (is : m ≡ k + 1) where
  split_cells : drop k cells ≡ cell ∷ drop m cells
  split_cells = drop_at cells k m cell at is

  -- the next line is none of the cell
  pub passes : (from to : Reached) → IsAbsent (path cell.path) from.rest → TakesVariables path initial (drop m cells) from to → TakesVariables path initial (drop k cells) from to
  passes from to absent more = subst (λ (cs : List Cell). TakesVariables path initial cs from to) (sym split_cells) (inl (absent, more))

  pub passes_wrong : (text : List ℕ) (line : ℕ) (wrong : Wrong) → IsAbsent (path cell.path) text → RefusesVariables path initial (drop m cells) text line wrong → RefusesVariables path initial (drop k cells) text line wrong
  passes_wrong text line wrong absent more = subst (λ (cs : List Cell). RefusesVariables path initial cs text line wrong) (sym split_cells) (inr (inl (absent, more)))

  -- it gives the variable of the cell a value
  module _ (first : Option Value) (same : first ≡ get initial cell.path) where
    pub gives :
        (values : Values) (text behind : List ℕ) (line : ℕ) (value : Value) (to : Reached) → TakesVariable (path cell.path) cell.scalar first text value behind
        → TakesVariables path initial (drop m cells) (reached (insert values cell.path value) behind (line + 1)) to → TakesVariables path initial (drop k cells) (reached values text line) to
    gives values text behind line value to takes more =
        subst (λ (cs : List Cell). TakesVariables path initial cs (reached values text line) to) (sym split_cells)
        (inr (value, behind, subst (λ (o : Option Value). TakesVariable (path cell.path) cell.scalar o text value behind) same takes, more))

    pub gives_wrong :
        (text behind : List ℕ) (line : ℕ) (value : Value) (wrong : Wrong) → TakesVariable (path cell.path) cell.scalar first text value behind
        → RefusesVariables path initial (drop m cells) behind (line + 1) wrong → RefusesVariables path initial (drop k cells) text line wrong
    gives_wrong text behind line value wrong takes more =
        subst (λ (cs : List Cell). RefusesVariables path initial cs text line wrong) (sym split_cells)
        (inr (inr (value, behind, subst (λ (o : Option Value). TakesVariable (path cell.path) cell.scalar o text value behind) same takes, more)))

    -- it breaks a rule
    pub breaks_at : (text : List ℕ) (line : ℕ) (wrong : Wrong) → IsAt line (RefusesVariable (path cell.path) cell.scalar first text) wrong → RefusesVariables path initial (drop k cells) text line wrong
    breaks_at text line wrong h =
        subst (λ (cs : List Cell). RefusesVariables path initial cs text line wrong) (sym split_cells)
        (inl (h.0, subst (λ (o : Option Value). RefusesVariable (path cell.path) cell.scalar o text wrong.fault) same h.1))

-- after the last cell
pub walked : (path : Text → Text) (initial : Values) (cells : List Cell) (k : ℕ) (from : Reached) → length cells ≤ k → TakesVariables path initial (drop k cells) from from
walked path initial cells k from h = subst (λ (cs : List Cell). TakesVariables path initial cs from from) (sym (nothing_left cells k h)) refl

-- TASKS

-- another task at a place
pub set_twice : {X : Type 0} (xs : List X) (t : ℕ) (a b : X) → slice_set (slice_set xs t a) t b ≡ slice_set xs t b
set_twice [] zero a b = refl
set_twice [] (suc t) a b = refl
set_twice (x ∷ xs) zero a b = refl
set_twice (x ∷ xs) (suc t) a b = ap (λ ys. x ∷ ys) (set_twice xs t a b)

pub set_own : {X : Type 0} (xs : List X) (t : ℕ) (a : X) → slice_get xs t ≡ Some a → slice_set xs t a ≡ xs
set_own [] t a e = absurd (cc)
set_own (x ∷ xs) zero a e = ap (λ y. y ∷ xs) (sym (same_Some x a e))
set_own (x ∷ xs) (suc t) a e = ap (λ ys. x ∷ ys) (set_own xs t a e)

pub get_set : {X : Type 0} (xs : List X) (t : ℕ) (a b : X) → slice_get xs t ≡ Some a → slice_get (slice_set xs t b) t ≡ Some b
get_set [] t a b e = absurd (cc)
get_set (x ∷ xs) zero a b e = refl
get_set (x ∷ xs) (suc t) a b e = get_set xs t a b e

-- after others
pub get_behind : {X : Type 0} (done : List X) (x : X) (rest : List X) (k : ℕ) → length done ≡ k → slice_get (done ++ (x ∷ rest)) k ≡ Some x
get_behind [] x rest zero e = refl
get_behind [] x rest (suc k) e = absurd (omega (arith, e))
get_behind (y ∷ done) x rest zero e = absurd (omega (arith, e))
get_behind (y ∷ done) x rest (suc k) e = get_behind done x rest k (omega (arith, e))

pub set_behind : {X : Type 0} (done : List X) (x y : X) (rest : List X) (k : ℕ) → length done ≡ k → slice_set (done ++ (x ∷ rest)) k y ≡ (done ++ y ∷ []) ++ rest
set_behind [] x y rest zero e = refl
set_behind [] x y rest (suc k) e = absurd (omega (arith, e))
set_behind (z ∷ done) x y rest zero e = absurd (omega (arith, e))
set_behind (z ∷ done) x y rest (suc k) e = ap (λ zs. z ∷ zs) (set_behind done x y rest k (omega (arith, e)))

-- one task more is read
module _ (c : Config) (k m n : ℕ) (step : m ≡ suc n) (done : List (Option TaskState)) (from between : Left) (task : Option TaskState) (takes : TakesTask c k (program_of c k) from task between) where
  pub task_then :
      (first : List (Option TaskState) → Left → Type 0) → ((others : List (Option TaskState)) (to : Left) → TakesTasks c k m from others to → first (done ++ others) to)
      → (others : List (Option TaskState)) (to : Left) → TakesTasks c (k + 1) n between others to → first ((done ++ task ∷ []) ++ others) to
  task_then first more others to rest =
      subst (λ (ts : List (Option TaskState)). first ts to) (sym (append_assoc done (task ∷ []) others))
      (more (task ∷ others) to (subst (λ x. TakesTasks c k x from (task ∷ others) to) (sym step) (task, others, between, refl, takes, rest)))

  pub task_then_wrong : (first : Type 0) (wrong : Wrong) → (RefusesTasks c k m from wrong → first) → RefusesTasks c (k + 1) n between wrong → first
  task_then_wrong first wrong more rest = more (subst (λ x. RefusesTasks c k x from wrong) (sym step) (inr (task, between, takes, rest)))

pub task_wrong : (c : Config) (k m n : ℕ) → m ≡ suc n → (from : Left) (wrong : Wrong) → RefusesTask c k (program_of c k) from wrong → RefusesTasks c k m from wrong
task_wrong c k m n step from wrong h = subst (λ x. RefusesTasks c k x from wrong) (sym step) (inl h)

-- the variables of a task that is there are those of its program
pub task_taken :
    (c : Config) (t : ℕ) (u : ProgramUnit) (o : Option ProgramUnit) (from to : Left) (values : Values) (cells : List Cell) → o ≡ Some u → cells ≡ own_cells c u
    → TakesVariables (task_path t) (opening_variables c u) cells (reached (opening_variables c u) from.rest from.line) (reached values to.rest to.line) → TakesTask c t o from (Some (at_rest values)) to
task_taken c t u o from to values cells is own h =
    subst (λ (p : Option ProgramUnit). TakesTask c t p from (Some (at_rest values)) to) (sym is)
    (values, refl, subst (λ (cs : List Cell). TakesVariables (task_path t) (opening_variables c u) cs (reached (opening_variables c u) from.rest from.line) (reached values to.rest to.line)) own h)

pub task_refused :
    (c : Config) (t : ℕ) (u : ProgramUnit) (o : Option ProgramUnit) (from : Left) (wrong : Wrong) (cells : List Cell) → o ≡ Some u → cells ≡ own_cells c u
    → RefusesVariables (task_path t) (opening_variables c u) cells from.rest from.line wrong → RefusesTask c t o from wrong
task_refused c t u o from wrong cells is own h =
    subst (λ (p : Option ProgramUnit). RefusesTask c t p from wrong) (sym is)
    (subst (λ (cs : List Cell). RefusesVariables (task_path t) (opening_variables c u) cs from.rest from.line wrong) own h)

-- where there is no task nothing is read
pub no_task_taken : (c : Config) (t : ℕ) (o : Option ProgramUnit) (from : Left) → is_some o ≡ false → TakesTask c t o from None from
no_task_taken c t None from e = (refl, refl)
no_task_taken c t (Some u) from e = cc

pub no_opening : (c : Config) (o : Option ProgramUnit) → is_some o ≡ false → opening_task c o ≡ None
no_opening c None e = refl
no_opening c (Some u) e = cc

-- no two own slots of a task have one path
once_front : (xs ys : List Cell) → AreOnce (xs ++ ys) → AreOnce xs
once_front [] ys h = tt
once_front (x ∷ xs) ys h = (λ k y at. h.0 k y (front_at xs ys k y at), once_front xs ys h.1)
  where
    front_at : (xs ys : List Cell) (k : ℕ) (y : Cell) → slice_get xs k ≡ Some y → slice_get (xs ++ ys) k ≡ Some y
    front_at [] ys k y at = absurd (cc)
    front_at (z ∷ xs) ys zero y at = at
    front_at (z ∷ xs) ys (suc k) y at = front_at xs ys k y at

pub own_once : (c : Config) (runs : IsRunnable c) (t : ℕ) (u : ProgramUnit) → IsTaskOf c t u → AreOnce (own_cells c u)
own_once c runs t u is = once_front (own_cells c u) (seen_cells c u) (cells_once c u (accepted c runs t u is))

pub globals_apart : (c : Config) → IsRunnable c → AreOnce (global_cells c)
globals_apart c runs = globals_once c runs.declared runs.written

-- the variables that first rows hold
pub own_view_is : (c : Config) (t : ℕ) (u : ProgramUnit) (r : Rows) → program_of c t ≡ Some u → variables_in c t r ≡ view (own_cells c u) r
unfolding own_view
own_view_is c t u r is = ap (λ o. own_view c o r) is
