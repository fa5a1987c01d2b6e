-- A state reads back.
use Rattle.std.proofs.Common.{◌≡◌, ℕ, zero, suc, ◌+◌, ◌≤◌, ◌≤ℤ◌, ℤ, pos, negsuc, nat_abs, Bool, true, false, List, [], ◌∷◌, ◌++◌, map, length, length-append, refl, sym, ap, ◌∙◌, cond, subst, Some, None, Option, arith}
use Rattle.std.specs.Prelude.{Contains, slice_get, is_some}
use Rattle.std.specs.Ordering.{eq_by_cmp}
use Rattle.std.proofs.lemmas.Int.{ints}
use Rattle.std.proofs.lemmas.Option.{same_Some}
use Rattle.il_syntax.specs.declared.tree.Config.{Config}
use Rattle.il_syntax.specs.declared.tree.Scalar.{Scalar}
use Rattle.il_syntax.specs.declared.tree.Unit.{Unit as ProgramUnit}
use Rattle.il_statics.specs.Declarations.{declared_limits}
use Rattle.base_maps.specs.NameMap.{Text, order, get, from_entries, get-empty, get-insert, same_map}
use Rattle.base_maps.proofs.Texts.{same_text}
use Rattle.il_semantics.specs.declared.value.Value.{Value}
use Rattle.il_semantics.specs.Meaning.{entities}
use Rattle.il_semantics.specs.Ranges.{HoldsTask, task_scalars, global_scalars}
use Rattle.il_semantics.specs.Scan.{opening_variables, opening_globals, restricted}
use Rattle.il_semantics.specs.State.{Values}
use Rattle.il_semantics_laws.specs.Accepted.{IsAccepted}
use Rattle.il_semantics_laws.proofs.Lists.{at_head, in_tail, in_map, of_map}
use Rattle.il_semantics_laws.proofs.Opening.{variables_open, globals_open}
use Rattle.il_semantics_laws.proofs.Paths.{value_of, path_of}
use Rattle.load_slots.specs.declared.flat.Cell.{Cell}
use Rattle.load_slots.specs.Layout.{cell, view_of, value_by, AreOnce}
use Rattle.load_slots.specs.Program.{own_cells, seen_cells, own_values, global_cells, global_values}
use Rattle.load_slots.specs.Whole.{first_rows}
use Rattle.load_slots.proofs.Globals.{globals_once}
use Rattle.load_slots.proofs.Openings.{own_opening}
use Rattle.load_slots.proofs.Placed.{in_front}
use Rattle.load_slots.proofs.Tasks.{cells_once, program_among}
use Rattle.scan_task.proofs.Changed.{own_declared}
use Rattle.scan_task.proofs.Shared.{shallow_cells}
use Rattle.scan_task.proofs.Sizes.{few_cars, floors_within, slots_within}
use Rattle.group_spec.specs.declared.calls.Slot.{Slot}
use Rattle.group_spec.specs.declared.image.CarFields.{CarFields}
use Rattle.group_spec.specs.declared.image.CarOutputs.{CarOutputs}
use Rattle.group_spec.specs.Image.{sizes_of}
use Rattle.group_spec.specs.Snapshot.{task_name, program_of}
use Rattle.group_spec.specs.World.{World, Group, TaskState, task_at}
use Rattle.group_laws.specs.Accepted.{IsSound}
use Rattle.group_laws.specs.Holding.{RestsWell, SeatHolds}
use Rattle.group_laws.specs.Tasks.{IsTaskOf}
use Rattle.group_laws.proofs.Given.{external_are}
use Rattle.group_laws.proofs.Kept.{get_entries_at}
use Rattle.group_laws.proofs.Tasks.{task_accepted}
use Rattle.group_state.specs.Text.{cars_lines, slots_lines, image_lines, calls_lines, globals_lines, global_path, tasks_lines, task_path, end_line, last_lines, state_lines}
use Rattle.group_state.specs.Heads.{variables_at, TakesHead}
use Rattle.group_state.specs.Variables.{reached, left, TakesGlobals, TakesTasks}
use Rattle.group_state.specs.Reading.{IsState}
use Rattle.group_state_laws.specs.Laws.{Is32Bytes, with_declared, begun, AreDeclaredAlone, StateReadsBack, GroupReadsBack}
use Rattle.group_state_laws.proofs.Lined.{lined, lined_first, no_byte}
use Rattle.group_state_laws.proofs.HeadBack.{head_back}
use Rattle.group_state_laws.proofs.VarsBack.{IsFree, AreKept, IsOnWay, variables_back, begin_way}
use Rattle.group_state_laws.proofs.TasksBack.{path_line, IsTaskKept, IsSeatKept, tasks_free, tasks_back}
use Rattle.group_state_laws.proofs.FitCells.{own_cells_fit, global_cells_fit, global_pointless}

-- CELLS AND PATHS

at_contains : {X : Type 0} (xs : List X) (k : ℕ) (x : X) → slice_get xs k ≡ Some x → Contains xs x
at_contains [] k x e = absurd (cc)
at_contains (y ∷ xs) zero x e = subst (Contains (y ∷ xs)) (same_Some y x e) (at_head y xs)
at_contains (y ∷ xs) (suc k) x e = in_tail y xs x (at_contains xs k x e)

place_of : {X : Type 0} (xs : List X) (x : X) → Contains xs x → (k : ℕ) × (slice_get xs k ≡ Some x)
place_of [] x (k, low, same) = absurd (omega (arith, low))
place_of (y ∷ xs) x (zero, low, same) = (0, ap Some same)
place_of (y ∷ xs) x (suc k, low, same) = let more = place_of xs x (k, omega (arith, low), same) in (suc more.0, more.1)

none_some : {X : Type 0} (x : X) → ◌≡◌ {A = Option X} None (Some x) → ⊥
none_some x e = cc

once_front : (xs ys : List Cell) → AreOnce (xs ++ ys) → AreOnce xs
once_front [] ys once = tt
once_front (x ∷ xs) ys once = (λ k y at. once.0 k y (in_front xs ys k y at), once_front xs ys once.1)

-- no cell has this path
abbrev HasNoCell : List Cell → Text → Type 0
HasNoCell cells q = (k : ℕ) (x : Cell) → slice_get cells k ≡ Some x → x.path ≡ q → ⊥

-- the values of rows have no other paths than those of the cells
view_none : (cells : List Cell) (zs : List ℤ) (bs : List Bool) (q : Text) → HasNoCell cells q → get (view_of cells zs bs) q ≡ None
view_none [] zs bs q none = get-empty q
view_none (x ∷ cells) [] bs q none = get-empty q
view_none (x ∷ cells) (z ∷ zs) [] q none = get-empty q
view_none (x ∷ cells) (z ∷ zs) (b ∷ bs) q none =
    get-insert (view_of cells zs bs) x.path (value_by (declared_limits x.scalar) z b) q ∙ by (eq_by_cmp order q x.path) refl (view_none cells zs bs q (λ k. none (suc k)))
  where
    by : (t : Bool) → eq_by_cmp order q x.path ≡ t → get (view_of cells zs bs) q ≡ None → cond t (Some (value_by (declared_limits x.scalar) z b)) (get (view_of cells zs bs) q) ≡ None
    by true is more = absurd (none 0 x refl (sym (same_text q x.path is)))
    by false is more = more

-- a map of entries has no other paths than theirs
entries_none : (es : List (Text × Value)) (q : Text) → (Contains (map (λ e. e.0) es) q → ⊥) → get (from_entries es) q ≡ None
entries_none [] q none = get-empty q
entries_none (e ∷ es) q none =
    get-insert (from_entries es) e.0 e.1 q ∙ by (eq_by_cmp order q e.0) refl (entries_none es q (λ has. none (in_tail e.0 (map (λ d. d.0) es) q has)))
  where
    by : (t : Bool) → eq_by_cmp order q e.0 ≡ t → get (from_entries es) q ≡ None → cond t (Some e.1) (get (from_entries es) q) ≡ None
    by true is more = absurd (none (subst (Contains (map (λ (d : Text × Value). d.0) (e ∷ es))) (sym (same_text q e.0 is)) (at_head e.0 (map (λ d. d.0) es))))
    by false is more = more

get_restricted : (start end : Values) (q : Text) → get (restricted start end) q ≡ cond (is_some (get start q)) (get end q) None
unfolding restricted get
get_restricted start end q = get_entries_at end start.list q

-- A TASK

module _ (c : Config) (sound : IsSound c) where
  module _ (t : ℕ) (u : ProgramUnit) (is : IsTaskOf c t u) (few : (sizes_of c).cars ≤ 255) (x : TaskState) (holds : HoldsTask c u x.variables) (closed : x.tickets ≡ None) where
    accepted : IsAccepted c u
    accepted = task_accepted c sound t u is

    opening_none : (q : Text) → HasNoCell (own_cells c u) q → get (opening_variables c u) q ≡ None
    opening_none q none =
        ap (λ (m : Values). get m q) (sym (own_opening c u accepted)) ∙ view_none (own_cells c u) (first_rows (own_values c u)).numbers (first_rows (own_values c u)).flags q none

    -- what isn't there at the opening isn't there
    none_else : (q : Text) → get (opening_variables c u) q ≡ None → get x.variables q ≡ None
    none_else q none = by (get x.variables q) refl
      where
        by : (o : Option Value) → get x.variables q ≡ o → o ≡ None
        by None at = refl
        by (Some v) at =
            let p = path_of (task_scalars c u) q (holds.only q v at) in
            let there = value_of (opening_variables c u) (task_scalars c u) p.0 (variables_open c u accepted).each p.1 in
            absurd (none_some there.0 (sym none ∙ (ap (get (opening_variables c u)) (sym p.2) ∙ there.1)))

    kept_one : AreKept (task_path t) x.variables (own_cells c u)
    kept_one k y at =
        let has = value_of x.variables (task_scalars c u) (y.path, y.scalar) holds.each (own_declared c u accepted y (at_contains (own_cells c u) k y at)) in
        let fit = own_cells_fit c sound.declared sound.written u (program_among c u accepted) k y at in
        record { value = has.0; is = has.1; of = has.2; narrow = fit.narrow has.0 has.2; one = path_line t y.path (let within = is.within in omega (arith, within, few)) fit.one }

    task_kept : IsTaskKept c t u x
    task_kept = record {
      closed = closed;
      kept = kept_one;
      once = once_front (own_cells c u) (seen_cells c u) (cells_once c u accepted);
      others = λ q none. let opens = opening_none q none in opens ∙ sym (none_else q opens);
    }

  -- GLOBALS

  opens_globals : (q : Text) → Contains (map (λ p. p.0) (global_scalars c)) q → is_some (get (opening_globals c) q) ≡ true
  opens_globals q has =
      let p = path_of (global_scalars c) q has in
      let there = value_of (opening_globals c) (global_scalars c) p.0 (globals_open c sound.written sound.declared) p.1 in
      ap is_some (ap (get (opening_globals c)) (sym p.2) ∙ there.1)

  -- a global cell is of a declared global
  global_declared : (k : ℕ) (y : Cell) → slice_get (global_cells c) k ≡ Some y → Contains (global_scalars c) (y.path, y.scalar)
  global_declared k y at =
      let w = of_map (λ (p : Text × Scalar). cell p.0 p.1) (global_scalars c) y (subst (λ xs. Contains xs y) (shallow_cells c (entities c.globals)) (at_contains (global_cells c) k y at)) in
      subst (λ (x : Cell). Contains (global_scalars c) (x.path, x.scalar)) w.2 w.1

  -- and each declared global has a cell
  global_found : (q : Text) → Contains (map (λ p. p.0) (global_scalars c)) q → HasNoCell (global_cells c) q → ⊥
  global_found q has none =
      let p = path_of (global_scalars c) q has in
      let among : Contains (global_cells c) (cell p.0.0 p.0.1) = subst (λ xs. Contains xs (cell p.0.0 p.0.1)) (sym (shallow_cells c (entities c.globals))) (in_map (λ (s : Text × Scalar). cell s.0 s.1) (global_scalars c) p.0 p.1) in
      let place = place_of (global_cells c) (cell p.0.0 p.0.1) among in
      none place.0 (cell p.0.0 p.0.1) place.1 p.2

  globals_none : (q : Text) → HasNoCell (global_cells c) q → get (opening_globals c) q ≡ None
  unfolding opening_globals
  globals_none q none = entries_none (global_values c) q (λ has. global_found q (subst (λ ts. Contains ts q) (external_are c (entities c.globals)) has) none)

  -- globals that the configuration declares alone are those that are left of them
  declared_are : (values : Values) → AreDeclaredAlone c values → restricted (opening_globals c) values ≡ values
  declared_are values alone = same_map (restricted (opening_globals c) values) values (λ q. get_restricted (opening_globals c) values q ∙ by q (get (opening_globals c) q) refl (get values q) refl)
    where
      by : (q : Text) (o : Option Value) → get (opening_globals c) q ≡ o → (p : Option Value) → get values q ≡ p → cond (is_some (get (opening_globals c) q)) (get values q) None ≡ get values q
      by q (Some v) is p at = ap (λ x. cond (is_some x) (get values q) None) is
      by q None is None at = ap (λ x. cond (is_some x) (get values q) None) is ∙ sym at
      by q None is (Some v) at = let no : false ≡ true = sym (ap is_some is) ∙ opens_globals q (alone q v at) in absurd (no_such no)
        where
          no_such : false ≡ true → ⊥
          no_such e = cc

-- THE NUMBERS OF LINES

cars_count : (number : ℕ) (fields : List CarFields) (outputs : List CarOutputs) → length outputs ≡ length fields → length (cars_lines number fields outputs) ≡ length fields
cars_count number [] outputs same = refl
cars_count number (f ∷ fields) [] same = absurd (omega (arith, same))
cars_count number (f ∷ fields) (o ∷ outputs) same = let more = cars_count (number + 1) fields outputs (omega (arith, same)) in omega (arith, more)

slots_count : (number : ℕ) (slots : List Slot) → length (slots_lines number slots) ≡ length slots
slots_count number [] = refl
slots_count number (slot ∷ slots) = let more = slots_count (number + 1) slots in omega (arith, more)

-- A WORLD THAT RESTS

below : (z : ℤ) → pos 1 ≤ℤ z → z ≤ℤ pos 255 → nat_abs z ≤ 255
below (pos n) h k = omega (arith, ints, k)
below (negsuc n) h k = absurd (omega (arith, ints, h))

module _ (c : Config) (sound : IsSound c) (w : World) (rests : RestsWell c w) where
  abbrev g : Group
  g = w.group

  few : (sizes_of c).cars ≤ 255
  few = let most = few_cars c sound.declared in omega (arith, most)

  low_floors : (sizes_of c).floors ≤ 255
  low_floors = let h = floors_within c sound.declared in below c.floors.value (omega (arith, ints, h.0)) (omega (arith, ints, h.1))

  low_slots : (sizes_of c).slots ≤ 255
  low_slots = let h = slots_within c sound.declared in below c.slots.value h.0 (omega (arith, ints, h.1))

  seats : (t : ℕ) → t ≤ (sizes_of c).cars → IsSeatKept c t (program_of c t) (task_at g t)
  seats t within = by (program_of c t) refl (task_at g t) (subst (λ o. SeatHolds c t 0 (task_at g t) o) (rests.closed t) (rests.holds.each t))
    where
      by : (o : Option ProgramUnit) → program_of c t ≡ o → (s : Option TaskState) → SeatHolds c t 0 s None → IsSeatKept c t o s
      by None is None h = tt
      by None is (Some x) h = none_some h.unit (sym is ∙ h.is.program)
      by (Some u) is None h = none_some u (sym (h within) ∙ is)
      by (Some u) is (Some x) h =
          let same : u ≡ h.unit = same_Some u h.unit (sym is ∙ h.is.program) in
          subst (λ (v : ProgramUnit). IsTaskKept c t v x) (sym same) (task_kept c sound t h.unit h.is few x h.variables h.scanning)

  -- THE HEAD

  head_is : (digest : List ℕ) → Is32Bytes digest → (rest : List ℕ) → TakesHead (sizes_of c) digest (lined (state_lines c digest w) rest) g.image g.calls (lined (last_lines c g) rest)
  head_is digest own rest =
      let range = rests.holds.ranges in
      let tickets = rests.holds.tickets in
      head_back (sizes_of c) low_floors few low_slots rest digest g.image g.calls (last_lines c g) own range.fields rests.holds.obeys tickets.last range.slots range.each_slot tickets.distinct

  -- THE GLOBALS

  abbrev kept : Values
  kept = restricted (opening_globals c) g.globals

  abbrev tasks : List (List ℕ)
  tasks = tasks_lines c g 0 (suc (sizes_of c).cars) ++ end_line ∷ []

  globals_are : AreKept global_path g.globals (global_cells c)
  globals_are k y at =
      let has = value_of g.globals (global_scalars c) (y.path, y.scalar) rests.holds.ranges.globals (global_declared c sound k y at) in
      let fit = global_cells_fit c sound.declared sound.written k y at in
      record { value = has.0; is = has.1; of = has.2; narrow = fit.narrow has.0 has.2; one = fit.one }

  globals_same : (k : ℕ) (y : Cell) → slice_get (global_cells c) k ≡ Some y → get kept y.path ≡ get g.globals y.path
  globals_same k y at =
      get_restricted (opening_globals c) g.globals y.path
      ∙ ap (λ b. cond b (get g.globals y.path) None) (opens_globals c sound y.path (in_map (λ (p : Text × Scalar). p.0) (global_scalars c) (y.path, y.scalar) (global_declared c sound k y at)))

  globals_free : (k : ℕ) (y : Cell) → slice_get (global_cells c) k ≡ Some y → IsFree y.path tasks
  globals_free k y at =
      tasks_free c g few seats (suc (sizes_of c).cars) 0 (omega arith) y.path (λ u path low high e. no_byte 46 y.path (task_name u) path (global_pointless c sound.declared sound.written k y at) e)

  globals_way : IsOnWay global_path (opening_globals c) g.globals kept (opening_globals c) (global_cells c)
  globals_way =
      begin_way global_path (opening_globals c) g.globals kept (global_cells c)
      (λ q none. let opens = globals_none c sound q none in opens ∙ sym (get_restricted (opening_globals c) g.globals q ∙ ap (λ o. cond (is_some o) (get g.globals q) None) opens))

  globals_back : (rest : List ℕ) (line last : ℕ) → last ≡ line + length (globals_lines c g.globals) → TakesGlobals c (lined (last_lines c g) rest) line (reached kept (lined tasks rest) last)
  globals_back rest line last count =
      variables_back global_path (opening_globals c) g.globals (λ p q e. e) kept tasks rest (global_cells c) (opening_globals c) line last (globals_once c sound.declared sound.written) globals_are globals_same globals_free globals_way count

  -- THE TASKS

  all_tasks : (rest : List ℕ) (line last : ℕ) → last ≡ line + length (tasks_lines c g 0 (suc (sizes_of c).cars)) → TakesTasks c 0 (suc (sizes_of c).cars) (left (lined tasks rest) line) g.tasks (left (lined (end_line ∷ []) rest) last)
  all_tasks rest line last count =
      tasks_back c g few seats (suc (sizes_of c).cars) 0 g.tasks rests.holds.tasks (omega arith) (λ k. let same : 0 + k ≡ k = omega arith in ap (task_at g) same) rest line last count

  -- THE WHOLE

  pub lines_are : (digest : List ℕ) → length (state_lines c digest w) + 1 ≡ variables_at (sizes_of c) + length (globals_lines c g.globals) + length (tasks_lines c g 0 (suc (sizes_of c).cars))
  lines_are digest =
      let image = length-append (image_lines g.image) (calls_lines g.calls ++ last_lines c g) in
      let calls = length-append (calls_lines g.calls) (last_lines c g) in
      let globals = length-append (globals_lines c g.globals) tasks in
      let all = length-append (tasks_lines c g 0 (suc (sizes_of c).cars)) (end_line ∷ []) in
      let cars = cars_count 1 g.image.fields.cars g.image.outputs rests.holds.obeys.cars in
      let slots = slots_count 1 g.calls.slots in
      let many_cars = rests.holds.ranges.fields.cars in
      let many_slots = rests.holds.ranges.slots in
      omega (arith, image, calls, globals, all, cars, slots, many_cars, many_slots)

  pub state_is : (digest : List ℕ) → Is32Bytes digest → (rest : List ℕ) → IsState c digest (lined (state_lines c digest w) rest) (begun (with_declared c g) rest (length (state_lines c digest w) + 1))
  state_is digest own rest =
      let line : ℕ = variables_at (sizes_of c) + length (globals_lines c g.globals) in
      record {
        behind_head = lined (last_lines c g) rest;
        behind_globals = left (lined tasks rest) line;
        head = head_is digest own rest;
        globals = globals_back rest (variables_at (sizes_of c)) line refl;
        last = lined (end_line ∷ []) rest;
        tasks = all_tasks rest line (length (state_lines c digest w) + 1) (lines_are digest);
        ends = lined_first end_line [] rest;
      }

pub state_reads_back : StateReadsBack
state_reads_back c sound digest own w rests rest = state_is c sound w rests digest own rest

pub group_reads_back : GroupReadsBack
group_reads_back c sound digest own w rests alone rest =
    subst (λ (values : Values). IsState c digest (lined (state_lines c digest w) rest) (begun (record w.group { globals = values }) rest (length (state_lines c digest w) + 1))) (declared_are c sound w.group.globals alone)
    (state_is c sound w rests digest own rest)
