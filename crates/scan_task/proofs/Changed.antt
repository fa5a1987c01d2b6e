-- A variable that is given another value of its declared set.
use Rattle.std.proofs.Common.{◌≡◌, ℕ, zero, suc, ◌<◌, ◌≤◌, ◌⊎◌, inl, inr, Bool, true, false, List, [], ◌∷◌, ◌++◌, map, length, slice_get, refl, sym, ap, ap₂, ◌∙◌, cond, subst, Some, None, Option, Result, Ok, Err, ℤ, pos, ◌+ℤ◌, Contains, arith}
use Rattle.std.specs.Prelude.{option_map, option_and_then, bytes_eq, slice_index_or, if◌then◌else◌}
use Rattle.std.specs.Ordering.{eq_by_cmp}
use Rattle.std.proofs.lemmas.List.{map-append}
use Rattle.std.proofs.lemmas.List.Elements.{Contains-append_left, Contains-append_right, Contains-append_cases}
use Rattle.std.proofs.lemmas.Option.{same_Some}
use Rattle.il_syntax.specs.declared.tree.Config.{Config}
use Rattle.il_syntax.specs.declared.tree.Scalar.{Scalar}
use Rattle.il_syntax.specs.declared.tree.Subrange.{Subrange}
use Rattle.il_syntax.specs.declared.tree.Unit.{Unit as ProgramUnit}
use Rattle.il_syntax.specs.declared.tree.UnitKind.{UnitKind}
use Rattle.il_syntax.specs.declared.tree.UnitKind.TheVariants.{Function, FunctionBlock, Program}
use Rattle.il_syntax.specs.declared.tree.Form.{Form}
use Rattle.il_syntax.specs.declared.tree.Form.TheVariants.{Scalar as ScalarForm, Array as ArrayForm, Block as BlockForm}
use Rattle.il_statics.specs.Declarations.{declared_limits}
use Rattle.il_statics.specs.Names.{is_function, is_function_kind}
use Rattle.il_semantics.specs.declared.value.Value.{Value}
use Rattle.il_semantics.specs.declared.value.Value.TheVariants.{Boolean, Integer}
use Rattle.base_maps.specs.NameMap.{Text, order, get, insert, get-insert, same_map}
use Rattle.base_maps.proofs.Texts.{same_text}
use Rattle.il_semantics.specs.Values.{IsOf, IsValueIn, is_of, is_value_in}
use Rattle.il_semantics.specs.Meaning.{Entity, under, element_path, width, entities, own_entities, block_entities, depth}
use Rattle.il_semantics.specs.Ranges.{HaveValues, HoldsTask, HoldGlobals, element_scalars, scalars_at, entity_scalars, instance_scalars, own_scalars, function_scalars_by, function_scalars, task_scalars, global_scalars}
use Rattle.il_semantics.specs.Scan.{used_units}
use Rattle.il_semantics_laws.specs.Accepted.{IsAccepted}
use Rattle.il_semantics_laws.specs.Listed.{HaveOneType, given_scalars}
use Rattle.il_semantics_laws.proofs.Declared.{one_unit}
use Rattle.il_semantics_laws.proofs.Fresh.{within_is}
use Rattle.il_semantics_laws.proofs.Going.{within_yes}
use Rattle.il_semantics_laws.proofs.Listing.{keeps_listed, used_stack}
use Rattle.il_semantics_laws.proofs.Lists.{in_nothing, at_head, in_tail, in_map, of_map}
use Rattle.il_semantics_laws.proofs.Opening.{globals_once}
use Rattle.il_semantics_laws.proofs.Paths.{value_of, values_of, path_of, has_insert}
use Rattle.il_semantics_laws.proofs.Used.{used_among}
use Rattle.load_slots.specs.declared.flat.Cell.{Cell}
use Rattle.load_slots.specs.Cells.{element_cells, cells_at, entity_cells, instance_cells}
use Rattle.load_slots.specs.Flattened.{function_entities}
use Rattle.load_slots.specs.Layout.{cell, Rows, Fits, view}
use Rattle.load_slots.specs.Paths.{slot_at}
use Rattle.load_slots.specs.Program.{task_functions, function_cells, functions_cells, variable_cells, own_cells, seen_cells, program_cells, global_cells}
use Rattle.load_slots.proofs.Frames.{of_task_functions}
use Rattle.load_slots.proofs.Openings.{variables_same}
use Rattle.load_slots.proofs.Paired.{slot_named}
use Rattle.load_slots.proofs.Tasks.{fresh_cells}
use Rattle.scan_image.specs.Image.{with_slot}
use Rattle.scan_task.specs.declared.setting.Unset.{Unset}
use Rattle.scan_task.specs.declared.setting.Unset.TheVariants.{Unknown, Outside}
use Rattle.scan_task.specs.Scanning.{IsRunnable, value_at, own_view, variables_in, FitsOwn, OwnsDeclared}
use Rattle.scan_task.specs.Setting.{SetsRows, SetsOwn, SetsGlobals, HasSlot, SetsSlot}
use Rattle.scan_task.specs.Sharing.{globals_in, FitsGlobals}
use Rattle.scan_task.proofs.Copied.{reads_path, puts, put_fits}
use Rattle.scan_task.proofs.Given.{cells_of, kind_by}
use Rattle.scan_task.proofs.Restarts.{same_unit}
use Rattle.scan_task.proofs.Scans.{accepted}
use Rattle.scan_task.proofs.Shared.{shallow_cells}

-- CELLS AND THEIR SCALARS

elements_deep : (n : ℕ) (path : Text) (z : ℤ) (s : Scalar) → element_cells n path z s ≡ cells_of (element_scalars n path z s)
elements_deep zero path z s = refl
elements_deep (suc n) path z s = ap (λ xs. cell (element_path path z) s ∷ xs) (elements_deep n path (z +ℤ pos 1) s)

module _ (inner : Text → Text → List Cell) (below : Text → Text → List (Text × Scalar)) (same : (path block : Text) → inner path block ≡ cells_of (below path block)) where
  form_deep : (path : Text) (f : Form) → cells_at inner path f ≡ cells_of (scalars_at below path f)
  form_deep path (ScalarForm s) = refl
  form_deep path (ArrayForm bounds element) = elements_deep (width bounds) path bounds.lower element
  form_deep path (BlockForm block) = same path block

  entities_deep : (path : Text) (es : List Entity) → entity_cells inner path es ≡ cells_of (entity_scalars below path es)
  entities_deep path [] = refl
  entities_deep path (e ∷ es) =
      ap₂ (λ xs ys. xs ++ ys) (form_deep (under path e.name) e.form) (entities_deep path es)
      ∙ sym (map-append (λ (p : Text × Scalar). cell p.0 p.1) (scalars_at below (under path e.name) e.form) (entity_scalars below path es))

instances_deep : (n : ℕ) (c : Config) (path block : Text) → instance_cells n c path block ≡ cells_of (instance_scalars n c path block)
instances_deep zero c path block = refl
instances_deep (suc n) c path block = entities_deep (instance_cells n c) (instance_scalars n c) (instances_deep n c) path (block_entities c block)

-- a cell of scalars is that of one
scalar_of : (ps : List (Text × Scalar)) (x : Cell) → Contains (cells_of ps) x → Contains ps (x.path, x.scalar)
scalar_of ps x has = let w = of_map (λ (p : Text × Scalar). cell p.0 p.1) ps x has in subst (λ (y : Cell). Contains ps (y.path, y.scalar)) w.2 w.1

never : false ≡ true → ⊥
never e = cc

nothing_is : (v : Value) → ◌≡◌ {A = Option Value} None (Some v) → ⊥
nothing_is v e = cc

-- A TASK'S VARIABLES

module _ (c : Config) (p : ProgramUnit) (accepted : IsAccepted c p) where
  own_scalar : (x : Cell) → Contains (variable_cells c p) x → Contains (own_scalars c p) (x.path, x.scalar)
  own_scalar x has =
      scalar_of (own_scalars c p) x
      (subst (λ xs. Contains xs x) (sym (variables_same c p accepted) ∙ entities_deep (instance_cells depth c) (instance_scalars depth c) (instances_deep depth c) [] (own_entities p)) has)

  function_of : (us : List ProgramUnit) (x : Cell) → Contains (functions_cells c us) x → (v : ProgramUnit) × Contains us v × Contains (function_cells c v) x
  function_of [] x has = absurd (in_nothing x has)
  function_of (u ∷ us) x has = by (Contains-append_cases (function_cells c u) (functions_cells c us) x has) (function_of us x)
    where
      by : Contains (function_cells c u) x ⊎ Contains (functions_cells c us) x → (Contains (functions_cells c us) x → (v : ProgramUnit) × Contains us v × Contains (function_cells c v) x) → (v : ProgramUnit) × Contains (u ∷ us) v × Contains (function_cells c v) x
      by (inl a) more = (u, at_head u us, a)
      by (inr b) more = let r = more b in (r.0, in_tail u us r.0 r.1, r.2)

  function_scalar : (v : ProgramUnit) → Contains c.units v → is_function v ≡ true → (x : Cell) → Contains (function_cells c v) x → Contains (function_scalars_by c v v.kind) (x.path, x.scalar)
  function_scalar v among is x has = by v.kind is
    where
      here : Contains (entity_scalars (instance_scalars zero c) v.name.name (function_entities v)) (x.path, x.scalar)
      here =
          scalar_of (entity_scalars (instance_scalars zero c) v.name.name (function_entities v)) x
          (subst (λ xs. Contains xs x) (sym (fresh_cells c p accepted v among is) ∙ entities_deep (instance_cells zero c) (instance_scalars zero c) (instances_deep zero c) v.name.name (function_entities v)) has)

      by : (k : UnitKind) → is_function_kind k ≡ true → Contains (function_scalars_by c v k) (x.path, x.scalar)
      by (Function s place) kind = here
      by FunctionBlock kind = absurd (never kind)
      by Program kind = absurd (never kind)

  in_functions : (us : List ProgramUnit) (v : ProgramUnit) (y : Text × Scalar) → Contains us v → Contains (function_scalars_by c v v.kind) y → Contains (function_scalars c us) y
  in_functions [] v y among has = absurd (in_nothing v among)
  in_functions (u ∷ us) v y (zero, low, same) has =
      Contains-append_left (function_scalars_by c u u.kind) (function_scalars c us) y (subst (λ (w : ProgramUnit). Contains (function_scalars_by c w w.kind) y) (sym same) has)
  in_functions (u ∷ us) v y (suc n, low, same) has = Contains-append_right (function_scalars_by c u u.kind) (function_scalars c us) y (in_functions us v y (n, omega arith, same) has)

  used : (v : ProgramUnit) → Contains (task_functions c p) v → Contains (used_units depth c p) v
  used v has =
      let t = of_task_functions c p v has in
      let r = used_stack c p depth p [] refl t.2.0 t.2.1 in
      subst (Contains (used_units depth c p)) (one_unit c accepted.declared t.2.0 v (used_among c r.0 t.2.0 r.2.0) t.0 t.2.2) t.2.1

  -- each own slot is of a variable of the task, with its type
  pub own_declared : (x : Cell) → Contains (own_cells c p) x → Contains (task_scalars c p) (x.path, x.scalar)
  own_declared x has = by (Contains-append_cases (functions_cells c (task_functions c p)) (variable_cells c p) x has)
    where
      by : Contains (functions_cells c (task_functions c p)) x ⊎ Contains (variable_cells c p) x → Contains (task_scalars c p) (x.path, x.scalar)
      by (inl a) =
          let f = function_of (task_functions c p) x a in
          let t = of_task_functions c p f.0 f.1 in
          Contains-append_right (own_scalars c p) (function_scalars c (used_units depth c p)) (x.path, x.scalar) (in_functions (used_units depth c p) f.0 (x.path, x.scalar) (used f.0 f.1) (function_scalar f.0 t.0 t.1 x f.2))
      by (inr b) = Contains-append_left (own_scalars c p) (function_scalars c (used_units depth c p)) (x.path, x.scalar) (own_scalar x b)

  -- no path of a variable has two types
  pub one_type : HaveOneType (task_scalars c p)
  one_type x y a b same = (keeps_listed c p accepted).once x y (Contains-append_left (task_scalars c p) (given_scalars c p) x a) (Contains-append_left (task_scalars c p) (given_scalars c p) y b) same

-- TESTS OF VALUES

value_yes : (o : Option Subrange) (v : Value) → is_value_in o v ≡ true → IsValueIn o v
value_yes None (Boolean b) is = tt
value_yes None (Integer z) is = cc
value_yes (Some s) (Boolean b) is = cc
value_yes (Some s) (Integer z) is = within_is s z is

value_no : (o : Option Subrange) (v : Value) → is_value_in o v ≡ false → ¬ IsValueIn o v
value_no None (Boolean b) is lies = cc
value_no None (Integer z) is lies = lies
value_no (Some s) (Boolean b) is lies = lies
value_no (Some s) (Integer z) is lies = let bad : true ≡ false = sym (within_yes s z lies.0 lies.1) ∙ is in cc

-- SLOTS

next_of : (o : Option ℕ) (k : ℕ) → option_map suc o ≡ Some k → (j : ℕ) × (o ≡ Some j) × (k ≡ suc j)
next_of None k e = cc
next_of (Some j) k e = (j, refl, sym (same_Some (suc j) k e))

slot_within : (xs : List Cell) (path : Text) (k : ℕ) → slot_at xs path ≡ Some k → k < length xs
slot_within [] path k e = cc
slot_within (x ∷ xs) path k e = by (bytes_eq x.path path) e (slot_within xs path)
  where
    by : (b : Bool) → (if b then Some 0 else option_map suc (slot_at xs path)) ≡ Some k → ((j : ℕ) → slot_at xs path ≡ Some j → j < length xs) → k < length (x ∷ xs)
    by true is more = let same : 0 ≡ k = same_Some 0 k is in omega (arith, same)
    by false is more = let w = next_of (slot_at xs path) k is in let low = more w.0 w.1 in let same = w.2 in omega (arith, same, low)

slot_front : (xs ys : List Cell) (path : Text) (k : ℕ) → slot_at xs path ≡ Some k → slot_at (xs ++ ys) path ≡ Some k
slot_front [] ys path k e = cc
slot_front (x ∷ xs) ys path k e = by (bytes_eq x.path path) e (slot_front xs ys path)
  where
    by : (b : Bool) → (if b then Some 0 else option_map suc (slot_at xs path)) ≡ Some k → ((j : ℕ) → slot_at xs path ≡ Some j → slot_at (xs ++ ys) path ≡ Some j) → (if b then Some 0 else option_map suc (slot_at (xs ++ ys) path)) ≡ Some k
    by true is more = is
    by false is more = let w = next_of (slot_at xs path) k is in ap (option_map suc) (more w.0 w.1) ∙ ap Some (sym w.2)

slot_back : (xs ys : List Cell) (path : Text) (k : ℕ) → slot_at (xs ++ ys) path ≡ Some k → k < length xs → slot_at xs path ≡ Some k
slot_back [] ys path k e low = absurd (omega (arith, low))
slot_back (x ∷ xs) ys path k e low = by (bytes_eq x.path path) e (slot_back xs ys path)
  where
    by : (b : Bool) → (if b then Some 0 else option_map suc (slot_at (xs ++ ys) path)) ≡ Some k → ((j : ℕ) → slot_at (xs ++ ys) path ≡ Some j → j < length xs → slot_at xs path ≡ Some j) → (if b then Some 0 else option_map suc (slot_at xs path)) ≡ Some k
    by true is more = is
    by false is more = let w = next_of (slot_at (xs ++ ys) path) k is in let same = w.2 in ap (option_map suc) (more w.0 w.1 (omega (arith, same, low))) ∙ ap Some (sym w.2)

front_get : (xs ys : List Cell) (k : ℕ) (x : Cell) → slice_get (xs ++ ys) k ≡ Some x → k < length xs → slice_get xs k ≡ Some x
front_get [] ys k x e low = absurd (omega (arith, low))
front_get (y ∷ xs) ys zero x e low = e
front_get (y ∷ xs) ys (suc k) x e low = front_get xs ys k x e (omega (arith, low))

found_at : (xs : List Cell) (k : ℕ) (x : Cell) → slice_get xs k ≡ Some x → Contains xs x
found_at [] k x e = cc
found_at (y ∷ xs) zero x e = subst (Contains (y ∷ xs)) (same_Some y x e) (at_head y xs)
found_at (y ∷ xs) (suc k) x e = in_tail y xs x (found_at xs k x e)

-- what the first slots of some are among these
pub first_sets : {A : Type 0} (own seen : List Cell) (r : Rows) (path : Text) (value : Value) (result : Result A Unset) (after : Rows) → SetsSlot (own ++ seen) (length own) r path value result after → SetsSlot own (length own) r path value result after
first_sets own seen r path value (Ok done) after h =
    let s = h.0 in
    (record { slot = s.slot; cell = s.cell; at = slot_back own seen path s.slot s.at s.low; low = s.low; here = front_get own seen s.slot s.cell s.here s.low }, h.1, h.2)
first_sets own seen r path value (Err Unknown) after h = (λ k at. h.0 k (slot_front own seen path k at), h.1)
first_sets own seen r path value (Err Outside) after h =
    let s = h.0 in
    (record { slot = s.slot; cell = s.cell; at = slot_back own seen path s.slot s.at s.low; low = s.low; here = front_get own seen s.slot s.cell s.here s.low }, h.1, h.2)

pub no_slot : (k : ℕ) → ◌≡◌ {A = Option ℕ} None (Some k) → ⊥
no_slot k e = cc

-- the cell at an index
pub stands_here : (xs : List Cell) (j : ℕ) (y : Cell) → j < length xs → y ≡ slice_index_or xs j y → slice_get xs j ≡ Some y
stands_here [] j y below e = absurd (omega (arith, below))
stands_here (x ∷ xs) zero y below e = ap Some (sym e)
stands_here (x ∷ xs) (suc j) y below e = stands_here xs j y (omega (arith, below)) e

-- ROWS WITH NAMES

module _ (own : List Cell) (ps : List (Text × Scalar)) (declared : (x : Cell) → Contains own x → Contains ps (x.path, x.scalar)) (once : HaveOneType ps) (r : Rows) (fits : Fits own r) (have : HaveValues (view own r) ps) where
  -- a declared path has a slot
  slot_there : (path : Text) → Contains (map (λ p. p.0) ps) path → (k : ℕ) × (slot_at own path ≡ Some k)
  slot_there path has =
      let w = path_of ps path has in
      let v = value_of (view own r) ps w.0 have w.1 in
      by v.0 (slot_at own path) refl (reads_path own r fits path ∙ ap (get (view own r)) (sym w.2) ∙ v.1)
    where
      by : (v : Value) (o : Option ℕ) → slot_at own path ≡ o → option_and_then (value_at own r) o ≡ Some v → (k : ℕ) × (slot_at own path ≡ Some k)
      by v None at e = absurd (nothing_is v e)
      by v (Some k) at e = (k, at)

  unknown : (path : Text) → ((k : ℕ) → slot_at own path ≡ Some k → length own ≤ k) → ¬ Contains (map (λ p. p.0) ps) path
  unknown path far has =
      let w = slot_there path has in
      let no = far w.0 w.1 in
      let low = slot_within own path w.0 w.1 in omega (arith, no, low)

  module _ (path : Text) (s : HasSlot own (length own) path) where
    named : s.cell.path ≡ path
    named = same_Some s.cell.path path (ap (option_map (λ (x : Cell). x.path)) (sym s.here) ∙ slot_named own path (Some s.slot) (sym s.at))

    member : Contains ps (path, s.cell.scalar)
    member = subst (λ (t : Text). Contains ps (t, s.cell.scalar)) named (declared s.cell (found_at own s.slot s.cell s.here))

    module _ (value : Value) (is : is_of s.cell.scalar value ≡ true) where
      lies : IsOf s.cell.scalar value
      lies = value_yes (declared_limits s.cell.scalar) value is

      puts_it : view own (with_slot r s.slot value) ≡ insert (view own r) path value
      puts_it = same_map _ _ (λ q.
          puts own r.numbers r.flags s.cell s.slot value fits.numbers fits.flags (ap (slot_at own) named ∙ s.at) s.here (kind_by (declared_limits s.cell.scalar) value lies) q
          ∙ ap (λ (t : Text). cond (eq_by_cmp order q t) (Some value) (get (view own r) q)) named ∙ sym (get-insert (view own r) path value q))

      have_still : HaveValues (insert (view own r) path value) ps
      have_still =
          values_of (insert (view own r) path value) ps
          (λ p has. has_insert (view own r) path value p (value_of (view own r) ps p have has) (λ same. subst (λ t. IsOf t value) (once (path, s.cell.scalar) p member has (sym same)) lies))

      only_still : ((q : Text) (w : Value) → get (view own r) q ≡ Some w → Contains (map (λ p. p.0) ps) q) → (q : Text) (w : Value) → get (insert (view own r) path value) q ≡ Some w → Contains (map (λ p. p.0) ps) q
      only_still only q w e = by (eq_by_cmp order q path) refl (sym (get-insert (view own r) path value q) ∙ e)
        where
          by : (b : Bool) → eq_by_cmp order q path ≡ b → cond b (Some value) (get (view own r) q) ≡ Some w → Contains (map (λ p. p.0) ps) q
          by true same f = subst (Contains (map (λ (p : Text × Scalar). p.0) ps)) (sym (same_text q path same)) (in_map (λ (p : Text × Scalar). p.0) ps (path, s.cell.scalar) member)
          by false same f = only q w f

  module _ (path : Text) (value : Value) where
    pub sets_rows : {A : Type 0} (result : Result A Unset) (after : Rows) → SetsSlot own (length own) r path value result after → SetsRows ps (view own) r path value result after
    sets_rows (Ok done) after h = (h.0.cell.scalar, member path h.0, lies path h.0 value h.1, ap (view own) h.2 ∙ puts_it path h.0 value h.1)
    sets_rows (Err Unknown) after h = (unknown path h.0, h.1)
    sets_rows (Err Outside) after h = ((h.0.cell.scalar, member path h.0, value_no (declared_limits h.0.cell.scalar) value h.1), h.2)

    pub fits_rows : {A : Type 0} (result : Result A Unset) (after : Rows) → SetsSlot own (length own) r path value result after → Fits own after
    fits_rows (Ok done) after h = subst (Fits own) (sym h.2) (put_fits own r h.0.slot value fits)
    fits_rows (Err Unknown) after h = subst (Fits own) (sym h.1) fits
    fits_rows (Err Outside) after h = subst (Fits own) (sym h.2) fits

    pub have_rows : {A : Type 0} (result : Result A Unset) (after : Rows) → SetsSlot own (length own) r path value result after → HaveValues (view own after) ps
    have_rows (Ok done) after h = subst (λ m. HaveValues m ps) (sym (ap (view own) h.2 ∙ puts_it path h.0 value h.1)) (have_still path h.0 value h.1)
    have_rows (Err Unknown) after h = subst (λ (x : Rows). HaveValues (view own x) ps) (sym h.1) have
    have_rows (Err Outside) after h = subst (λ (x : Rows). HaveValues (view own x) ps) (sym h.2) have

    pub only_rows : {A : Type 0} (result : Result A Unset) (after : Rows) → SetsSlot own (length own) r path value result after → ((q : Text) (w : Value) → get (view own r) q ≡ Some w → Contains (map (λ p. p.0) ps) q) → (q : Text) (w : Value) → get (view own after) q ≡ Some w → Contains (map (λ p. p.0) ps) q
    only_rows (Ok done) after h only q w e = only_still path h.0 value h.1 only q w (ap (λ m. get m q) (sym (ap (view own) h.2 ∙ puts_it path h.0 value h.1)) ∙ e)
    only_rows (Err Unknown) after h only q w e = only q w (ap (λ (x : Rows). get (view own x) q) (sym h.1) ∙ e)
    only_rows (Err Outside) after h only q w e = only q w (ap (λ (x : Rows). get (view own x) q) (sym h.2) ∙ e)

-- A TASK

module _ {A : Type 0} (c : Config) (runs : IsRunnable c) (task : ℕ) (r : Rows) (fits : FitsOwn c task r) (own : OwnsDeclared c task (variables_in c task r)) (cells : List Cell) (count : ℕ) (cells_are : cells ≡ program_cells c fits.0) (count_is : count ≡ length (own_cells c fits.0))
    (path : Text) (value : Value) (result : Result A Unset) (after : Rows) (sets : SetsSlot cells count r path value result after) where
  abbrev u : ProgramUnit
  u = fits.0

  abbrev well : IsAccepted c u
  well = accepted c runs task u fits.1

  view_here : (x : Rows) → variables_in c task x ≡ view (own_cells c u) x
  unfolding own_view
  view_here x = ap (λ o. own_view c o x) fits.1.program

  held : HoldsTask c u (view (own_cells c u) r)
  held = subst (HoldsTask c u) (view_here r) (own u fits.1.program)

  sets_here : SetsSlot (own_cells c u) (length (own_cells c u)) r path value result after
  sets_here =
      first_sets (own_cells c u) (seen_cells c u) r path value result after
      (subst (λ n. SetsSlot (program_cells c u) n r path value result after) count_is (subst (λ xs. SetsSlot xs count r path value result after) cells_are sets))

  set_here : SetsRows (task_scalars c u) (view (own_cells c u)) r path value result after
  set_here = sets_rows (own_cells c u) (task_scalars c u) (own_declared c u well) (one_type c u well) r fits.2 held.each path value result after sets_here

  pub own_set : SetsOwn c task r path value result after
  own_set w other = subst (λ (v : ProgramUnit). SetsRows (task_scalars c v) (variables_in c task) r path value result after) (same_unit c task u w fits.1 other) (named result set_here)
    where
      named : (o : Result A Unset) → SetsRows (task_scalars c u) (view (own_cells c u)) r path value o after → SetsRows (task_scalars c u) (variables_in c task) r path value o after
      named (Ok done) h = (h.0, h.1, h.2, view_here after ∙ h.3 ∙ ap (λ m. insert m path value) (sym (view_here r)))
      named (Err Unknown) h = h
      named (Err Outside) h = h

  pub own_fits_after : FitsOwn c task after
  own_fits_after = (u, fits.1, fits_rows (own_cells c u) (task_scalars c u) (own_declared c u well) (one_type c u well) r fits.2 held.each path value result after sets_here)

  pub own_after : OwnsDeclared c task (variables_in c task after)
  own_after w named =
      subst (λ (v : ProgramUnit). HoldsTask c v (variables_in c task after)) (same_Some u w (sym fits.1.program ∙ named))
      (subst (HoldsTask c u) (sym (view_here after))
      (record {
        each = have_rows (own_cells c u) (task_scalars c u) (own_declared c u well) (one_type c u well) r fits.2 held.each path value result after sets_here;
        only = only_rows (own_cells c u) (task_scalars c u) (own_declared c u well) (one_type c u well) r fits.2 held.each path value result after sets_here held.only;
      }))

-- THE GLOBALS

module _ {A : Type 0} (c : Config) (runs : IsRunnable c) (r : Rows) (fits : FitsGlobals c r) (shared : HoldGlobals c (globals_in c r)) (cells : List Cell) (count : ℕ) (cells_are : cells ≡ global_cells c) (count_is : count ≡ length (global_cells c))
    (path : Text) (value : Value) (result : Result A Unset) (after : Rows) (sets : SetsSlot cells count r path value result after) where
  global_declared : (x : Cell) → Contains (global_cells c) x → Contains (global_scalars c) (x.path, x.scalar)
  global_declared x has = scalar_of (global_scalars c) x (subst (λ xs. Contains xs x) (shallow_cells c (entities c.globals)) has)

  globals_one : HaveOneType (global_scalars c)
  globals_one = globals_once c runs.declared runs.written

  sets_globals : SetsSlot (global_cells c) (length (global_cells c)) r path value result after
  sets_globals = subst (λ n. SetsSlot (global_cells c) n r path value result after) count_is (subst (λ xs. SetsSlot xs count r path value result after) cells_are sets)

  pub globals_set : SetsGlobals c r path value result after
  globals_set = sets_rows (global_cells c) (global_scalars c) global_declared globals_one r fits shared path value result after sets_globals

  pub globals_fit_after : FitsGlobals c after
  globals_fit_after = fits_rows (global_cells c) (global_scalars c) global_declared globals_one r fits shared path value result after sets_globals

  pub globals_after : HoldGlobals c (globals_in c after)
  globals_after = have_rows (global_cells c) (global_scalars c) global_declared globals_one r fits shared path value result after sets_globals
