-- Steps of writing: one variable more, one task more, and all lines together.
use Rattle.std.proofs.Common.{◌≡◌, ℕ, suc, ◌+◌, ◌<◌, ◌≤◌, true, false, List, [], ◌∷◌, ◌++◌, length, get_or, take, refl, sym, ap, ap₂, ◌∙◌, subst, arith, Some, None, Option, Ok, Err, Result, pos}
use Rattle.std.specs.Prelude.{slice_get, option_and_then, is_some, is_ok, if◌then◌else◌, OnOk}
use Rattle.std.proofs.lemmas.Option.{same_Some}
use Rattle.il_syntax.specs.declared.tree.Config.{Config}
use Rattle.il_syntax.specs.declared.tree.Unit.{Unit as ProgramUnit}
use Rattle.il_statics.specs.Declarations.{declared_limits}
use Rattle.base_maps.specs.NameMap.{Text, get}
use Rattle.il_semantics.specs.declared.value.Value.{Value}
use Rattle.il_semantics.specs.Scan.{opening_variables, opening_globals}
use Rattle.il_semantics.specs.State.{Values}
use Rattle.load_slots.specs.declared.flat.Cell.{Cell}
use Rattle.load_slots.specs.Layout.{Rows, Fits, value_by, view}
use Rattle.load_slots.specs.Program.{own_cells, global_cells}
use Rattle.scan_task.specs.Scanning.{IsRunnable, HasTask, FitsOwn, variables_in}
use Rattle.scan_task.specs.Sharing.{FitsGlobals, globals_in}
use Rattle.scan_task.proofs.Sizes.{few_cars}
use Rattle.group_spec.specs.Image.{sizes_of}
use Rattle.group_spec.specs.Limits.{most_cars}
use Rattle.group_spec.specs.Snapshot.{program_of, has_task}
use Rattle.group_spec.specs.World.{Group, TaskState, task_at}
use Rattle.group_laws.specs.Tasks.{IsTaskOf}
use Rattle.trace_text.specs.Text.{text_of_lines}
use Rattle.group_state.specs.Text.{changed_line, variables_lines, global_path, task_path, task_lines, tasks_lines}
use Rattle.group_state.proofs.Puts.{both_lines, same_lines, variables_more, some_lines, some_more, tasks_more}
use Rattle.group_state.proofs.Walks.{at_place, first_is, globals_apart, own_once, own_view_is}

-- RESULTS

pub on_ok : {A E : Type 0} (r : Result A E) (P Q : Type 0) → (P → Q) → OnOk r P → OnOk r Q
on_ok (Ok a) P Q f p = f p
on_ok (Err e) P Q f p = tt

-- a text that was pushed, if it was
pub pushed : {A E : Type 0} (r : Result A E) (new more old : List ℕ) → new ≡ (if is_ok r then more else old) → OnOk r (new ≡ more)
pushed (Ok a) new more old e = e
pushed (Err e) new more old is = tt

-- LISTS

pub no_first : {X : Type 0} (xs : List X) → slice_get xs 0 ≡ None → xs ≡ []
no_first [] e = refl
no_first (x ∷ xs) e = absurd (cc)

pub the_first : {X : Type 0} (xs : List X) (x : X) → Some x ≡ slice_get xs 0 → (rest : List X) × (xs ≡ x ∷ rest)
the_first [] x e = absurd (cc)
the_first (y ∷ xs) x e = (xs, ap (λ z. z ∷ xs) (sym (same_Some x y e)))

pub not_both : {X : Type 0} (xs rest : List X) (x : X) → xs ≡ [] → xs ≡ x ∷ rest → ⊥
not_both xs rest x e f = cc

-- CONFIGURATIONS THAT ARE THE SAME

module _ (c d : Config) (same : d ≡ c) (runs : IsRunnable d) where
  pub car_fits : (t : ℕ) → t ≤ (sizes_of c).cars → t ≤ most_cars
  car_fits t low = let few = few_cars d runs.declared in let e : (sizes_of d).cars ≡ (sizes_of c).cars = ap (λ (x : Config). (sizes_of x).cars) same in omega (arith, few, e, low)

  pub task_fits : (t : ℕ) → HasTask c t → t ≤ most_cars
  task_fits t has = car_fits t has.1.within

  pub task_there : (t : ℕ) → t ≤ (sizes_of c).cars → true ≡ has_task d t → HasTask c t
  task_there t low is = by (program_of c t) refl (ap (λ (x : Config). has_task x t) (sym same) ∙ sym is)
    where
      by : (o : Option ProgramUnit) → program_of c t ≡ o → is_some o ≡ true → HasTask c t
      by (Some u) e f = (u, record { within = low; program = e })
      by None e f = absurd (cc)

  -- one global more
  pub globals_step :
      (cells : List Cell) → cells ≡ global_cells d → (r : Rows) → FitsGlobals d r → globals_in d r ≡ opening_globals d → (k m : ℕ) (x : Cell) → k < length cells → x ≡ get_or cells k x → m ≡ k + 1
      → (globals : Values) (v : Value) → v ≡ value_by (declared_limits x.scalar) (get_or r.numbers k (pos 0)) (get_or r.flags k false) → (p : Text) → p ≡ x.path → (now : Option Value) → now ≡ get globals p
      → (old mid new : List ℕ) → mid ≡ old ++ text_of_lines (variables_lines global_path (opening_globals c) globals (take k cells)) → new ≡ mid ++ text_of_lines (changed_line p (Some v) now)
      → new ≡ old ++ text_of_lines (variables_lines global_path (opening_globals c) globals (take m cells))
  globals_step cells of r fits opening k m x low at next globals v is p path now now_is old mid new before after =
      let there : slice_get cells k ≡ Some x = at_place cells k x low at in
      let first : Some v ≡ get (opening_globals d) x.path = first_is (global_cells d) (globals_apart d runs) r fits (opening_globals d) opening k x v (ap (λ (xs : List Cell). slice_get xs k) (sym of) ∙ there) is in
      let initial : Some v ≡ get (opening_globals c) x.path = first ∙ ap (λ (y : Config). get (opening_globals y) x.path) same in
      let value : now ≡ get globals x.path = now_is ∙ ap (get globals) path in
      let line : changed_line p (Some v) now ≡ changed_line x.path (get (opening_globals c) x.path) (get globals x.path) =
      ap (λ (q : Text). changed_line q (Some v) now) path ∙ ap₂ (changed_line x.path) initial value in
      same_lines old new _ _
      (ap (λ (ls : List (List ℕ)). variables_lines global_path (opening_globals c) globals (take k cells) ++ ls) line ∙ sym (variables_more global_path (opening_globals c) globals cells k m x there next))
      (both_lines old mid new (variables_lines global_path (opening_globals c) globals (take k cells)) (changed_line p (Some v) now) before after)

  -- one variable of a task more
  pub variables_step :
      (t : ℕ) (u : ProgramUnit) → program_of d t ≡ Some u → (cells : List Cell) → cells ≡ own_cells d u → (r : Rows) → FitsOwn d t r → variables_in d t r ≡ opening_variables d u → (k m : ℕ) (x : Cell) → k < length cells
      → x ≡ get_or cells k x → m ≡ k + 1 → (state : Option TaskState) (v : Value) → v ≡ value_by (declared_limits x.scalar) (get_or r.numbers k (pos 0)) (get_or r.flags k false) → (p : Text) → p ≡ x.path
      → (now : Option Value) → now ≡ option_and_then (λ (task : TaskState). get task.variables p) state
      → (old mid new : List ℕ) → mid ≡ old ++ text_of_lines (some_lines c t (program_of c t) state (take k cells)) → new ≡ mid ++ text_of_lines (changed_line (task_path t p) (Some v) now)
      → new ≡ old ++ text_of_lines (some_lines c t (program_of c t) state (take m cells))
  variables_step t u is cells of r fits opening k m x low at next state v v_is p path now now_is old mid new before after =
      let there : slice_get cells k ≡ Some x = at_place cells k x low at in
      let one : fits.0 ≡ u = same_Some fits.0 u (sym fits.1.program ∙ is) in
      let own : IsTaskOf d t u = subst (λ (w : ProgramUnit). IsTaskOf d t w) one fits.1 in
      let rows : Fits (own_cells d u) r = subst (λ (w : ProgramUnit). Fits (own_cells d w) r) one fits.2 in
      let shown : view (own_cells d u) r ≡ opening_variables d u = sym (own_view_is d t u r is) ∙ opening in
      let first : Some v ≡ get (opening_variables d u) x.path = first_is (own_cells d u) (own_once d runs t u own) r rows (opening_variables d u) shown k x v (ap (λ (xs : List Cell). slice_get xs k) (sym of) ∙ there) v_is in
      let value : now ≡ option_and_then (λ (task : TaskState). get task.variables x.path) state = now_is ∙ ap (λ (q : Text). option_and_then (λ (task : TaskState). get task.variables q) state) path in
      let line : changed_line (task_path t p) (Some v) now ≡ changed_line (task_path t x.path) (Some v) now = ap (λ (q : Text). changed_line (task_path t q) (Some v) now) path in
      let whole : some_lines d t (program_of d t) state (take m cells) ≡ some_lines d t (program_of d t) state (take k cells) ++ changed_line (task_path t x.path) (Some v) now =
      some_more d t u (program_of d t) state cells k m x is there next (Some v) now first value in
      let here : (n : ℕ) → some_lines d t (program_of d t) state (take n cells) ≡ some_lines c t (program_of c t) state (take n cells) = λ n. ap (λ (y : Config). some_lines y t (program_of y t) state (take n cells)) same in
      same_lines old new _ _
      (ap₂ (λ (a b : List (List ℕ)). a ++ b) (sym (here k)) line ∙ (sym whole ∙ here m))
      (both_lines old mid new (some_lines c t (program_of c t) state (take k cells)) (changed_line (task_path t p) (Some v) now) before after)

-- TASKS

-- one task more
pub tasks_step :
    (c : Config) (g : Group) (k m : ℕ) → m ≡ k + 1 → (old mid new : List ℕ) → mid ≡ old ++ text_of_lines (tasks_lines c g 0 k) → new ≡ mid ++ text_of_lines (task_lines c k (program_of c k) (task_at g k))
    → new ≡ old ++ text_of_lines (tasks_lines c g 0 m)
tasks_step c g k m next old mid new before after =
    let here : k ≡ 0 + k = omega arith in
    let line : task_lines c k (program_of c k) (task_at g k) ≡ task_lines c (0 + k) (program_of c (0 + k)) (task_at g (0 + k)) = ap (λ n. task_lines c n (program_of c n) (task_at g n)) here in
    same_lines old new _ _ (ap (λ (ls : List (List ℕ)). tasks_lines c g 0 k ++ ls) line ∙ sym (tasks_more c g 0 k m next))
    (both_lines old mid new (tasks_lines c g 0 k) (task_lines c k (program_of c k) (task_at g k)) before after)

-- all of them
pub tasks_done :
    (c : Config) (g : Group) (t n : ℕ) → n + 1 ≤ t → t ≤ n + 1 → n ≡ (sizes_of c).cars → (old new : List ℕ) → new ≡ old ++ text_of_lines (tasks_lines c g 0 t)
    → new ≡ old ++ text_of_lines (tasks_lines c g 0 (suc (sizes_of c).cars))
tasks_done c g t n low high is old new e =
    let all : t ≡ suc (sizes_of c).cars = omega (arith, low, high, is) in
    same_lines old new _ _ (ap (tasks_lines c g 0) all) e

-- THE WHOLE

-- pieces of a state, one after another
pub state_put :
    (old t1 t2 t3 t4 t5 t6 t7 t8 first conf tickets : List ℕ) (fields cars slots globals tasks : List (List ℕ)) → t1 ≡ old ++ text_of_lines (first ∷ []) → t2 ≡ t1 ++ text_of_lines (conf ∷ [])
    → t3 ≡ t2 ++ text_of_lines fields → t4 ≡ t3 ++ text_of_lines cars → t5 ≡ t4 ++ text_of_lines (tickets ∷ []) → t6 ≡ t5 ++ text_of_lines slots → t7 ≡ t6 ++ text_of_lines globals → t8 ≡ t7 ++ text_of_lines tasks
    → (tickets_is : List ℕ) (fields_are cars_are slots_are : List (List ℕ)) → tickets ≡ tickets_is → fields ≡ fields_are → cars ≡ cars_are → slots ≡ slots_are
    → t8 ≡ old ++ text_of_lines (first ∷ (conf ∷ ((fields_are ++ cars_are) ++ ((tickets_is ∷ slots_are) ++ (globals ++ tasks)))))
state_put old t1 t2 t3 t4 t5 t6 t7 t8 first conf tickets fields cars slots globals tasks e1 e2 e3 e4 e5 e6 e7 e8 tickets_is fields_are cars_are slots_are et ef ec es =
    let group : t8 ≡ t6 ++ text_of_lines (globals ++ tasks) = both_lines t6 t7 t8 globals tasks e7 e8 in
    let calls : t6 ≡ t4 ++ text_of_lines (tickets ∷ slots) = both_lines t4 t5 t6 (tickets ∷ []) slots e5 e6 in
    let image : t4 ≡ t2 ++ text_of_lines (fields ++ cars) = both_lines t2 t3 t4 fields cars e3 e4 in
    let from_calls : t8 ≡ t4 ++ text_of_lines ((tickets ∷ slots) ++ (globals ++ tasks)) = both_lines t4 t6 t8 (tickets ∷ slots) (globals ++ tasks) calls group in
    let from_image : t8 ≡ t2 ++ text_of_lines ((fields ++ cars) ++ ((tickets ∷ slots) ++ (globals ++ tasks))) = both_lines t2 t4 t8 (fields ++ cars) ((tickets ∷ slots) ++ (globals ++ tasks)) image from_calls in
    let from_conf : t8 ≡ t1 ++ text_of_lines (conf ∷ ((fields ++ cars) ++ ((tickets ∷ slots) ++ (globals ++ tasks)))) =
    both_lines t1 t2 t8 (conf ∷ []) ((fields ++ cars) ++ ((tickets ∷ slots) ++ (globals ++ tasks))) e2 from_image in
    let whole : t8 ≡ old ++ text_of_lines (first ∷ (conf ∷ ((fields ++ cars) ++ ((tickets ∷ slots) ++ (globals ++ tasks))))) =
    both_lines old t1 t8 (first ∷ []) (conf ∷ ((fields ++ cars) ++ ((tickets ∷ slots) ++ (globals ++ tasks)))) e1 from_conf in
    let same : (fields ++ cars) ++ ((tickets ∷ slots) ++ (globals ++ tasks)) ≡ (fields_are ++ cars_are) ++ ((tickets_is ∷ slots_are) ++ (globals ++ tasks)) =
    ap₂ (λ (a b : List (List ℕ)). a ++ b) (ap₂ (λ (a b : List (List ℕ)). a ++ b) ef ec) (ap₂ (λ (a : List ℕ) (b : List (List ℕ)). (a ∷ b) ++ (globals ++ tasks)) et es) in
    whole ∙ ap (λ (ls : List (List ℕ)). old ++ text_of_lines (first ∷ (conf ∷ ls))) same
