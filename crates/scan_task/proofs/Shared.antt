-- The globals that a task's program lists, and those that it writes.
use Rattle.std.proofs.Common.{◌≡◌, ℕ, zero, suc, ◌*◌, ◌≤◌, ◌<◌, Bool, true, false, List, [], ◌∷◌, ◌++◌, map, filter, drop, length, slice_get, refl, sym, ap, ap₂, ◌∙◌, cond, subst, Some, ℤ, pos, ◌+ℤ◌, ◌≤ℤ◌, nat_abs, Contains, All, codes, arith}
use Rattle.std.specs.Prelude.{◌==◌, bytes_eq, option_map, slice_index_or, if◌then◌else◌}
use Rattle.std.specs.Ordering.{eq_by_cmp}
use Rattle.std.specs.Fmt.{signed_decimal}
use Rattle.std.proofs.lemmas.Bool.{ne_eqb}
use Rattle.std.proofs.lemmas.List.{length-append, length-drop, length-map, map-append}
use Rattle.std.proofs.lemmas.List.Elements.{filter-append, All-map, All-contains_itself}
use Rattle.std.proofs.lemmas.Option.{same_Some}
use Rattle.std.proofs.lemmas.Slice.Eq.{bytes_eq-Decides}
use Rattle.il_syntax.specs.declared.tree.Config.{Config}
use Rattle.il_syntax.specs.declared.tree.Scalar.{Scalar}
use Rattle.il_syntax.specs.declared.tree.Step.{Step}
use Rattle.il_syntax.specs.declared.tree.Unit.{Unit as ProgramUnit}
use Rattle.il_syntax.specs.declared.tree.Form.{Form}
use Rattle.il_syntax.specs.declared.tree.Form.TheVariants.{Scalar as ScalarForm, Array as ArrayForm, Block as BlockForm}
use Rattle.il_statics.specs.Declarations.{declared_limits}
use Rattle.il_statics.specs.Faults.{HasNoFault, Broken, Declaring}
use Rattle.il_statics.specs.Written.{IsWritten}
use Rattle.il_semantics.specs.declared.value.Value.{Value}
use Rattle.base_maps.specs.NameMap.{Text, order, get, from_entries, with_entries, get-insert, same_map}
use Rattle.il_semantics.specs.Values.{IsOf}
use Rattle.il_semantics.specs.State.{Values}
use Rattle.il_semantics.specs.Meaning.{Entity, under, element_path, width, entities, own_entities}
use Rattle.il_semantics.specs.Ranges.{HasValue, HaveValues, HoldGlobals, element_scalars, scalars_at, entity_scalars, instance_scalars, external_scalars, global_scalars}
use Rattle.il_semantics.specs.Scan.{entries_at, written_paths, paths_of, opening_globals}
use Rattle.il_semantics_laws.specs.Accepted.{IsAccepted}
use Rattle.il_semantics_laws.specs.Listed.{HaveOneType, SharesGlobals}
use Rattle.il_semantics_laws.proofs.Externals.{shares_globals}
use Rattle.il_semantics_laws.proofs.Lists.{in_nothing, at_head, in_tail}
use Rattle.il_semantics_laws.proofs.Opening.{globals_open}
use Rattle.il_semantics_laws.proofs.Paths.{value_of, values_of}
use Rattle.il_semantics_laws.proofs.Texts.{element_is}
use Rattle.base_maps.proofs.Texts.{same_text}
use Rattle.load_slots.specs.declared.flat.Cell.{Cell}
use Rattle.load_slots.specs.Cells.{element_cells, cells_at, entity_cells, instance_cells, IsPlain, AreNamed}
use Rattle.load_slots.specs.Flattened.{place_or_zero}
use Rattle.load_slots.specs.Layout.{cell, Rows, Fits, value_by, number_part, flag_part, view}
use Rattle.load_slots.specs.Paths.{slot_at}
use Rattle.load_slots.specs.Program.{own_cells, program_cells, global_cells, global_values}
use Rattle.load_slots.specs.Whole.{first_rows}
use Rattle.load_slots.proofs.Distinct.{declared_named}
use Rattle.load_slots.proofs.Tasks.{program_among}
use Rattle.scan_loop.specs.Going.{Stored}
use Rattle.group_spec.specs.Image.{sizes_of}
use Rattle.group_spec.specs.Snapshot.{program_of, written_globals}
use Rattle.group_laws.specs.Tasks.{IsSized, IsTaskOf}
use Rattle.group_laws.proofs.Given.{external_are}
use Rattle.group_laws.proofs.Kept.{as_many}
use Rattle.group_laws.proofs.Seen.{given_scalars, row, firsts, calls, waiting, from_row, to_row, car_row, fields, outputs, places, motors, assigns}
use Rattle.group_laws.proofs.Tasks.{is_sized}
use Rattle.scan_image.specs.declared.image.TheConstants.{CAR_VALUES}
use Rattle.scan_task.specs.declared.sharing.Transfer.{Transfer}
use Rattle.scan_task.specs.Scanning.{IsRunnable, IsScanOf, kept_of, state_of}
use Rattle.load_scope.specs.StoredNames.{is_stored}
use Rattle.scan_task.specs.Sharing.{globals_in, FitsGlobals, external_cells, image_count, between, slot_in, base_name, stores_cell, transfer, transfers, taken}
use Rattle.scan_task.specs.Starting.{shared_value, AreListed}
use Rattle.scan_task.proofs.Copied.{between_is, reads_path, shared_is, IsShared, taken_is, taken_fits}
use Rattle.scan_task.proofs.Given.{cells_of, kind_by, seen_cells_are}
use Rattle.scan_task.proofs.Outgoing.{kept_have, reads_here}
use Rattle.scan_task.proofs.Scans.{sound_of, accepted}

-- CELLS

shallow_elements : (n : ℕ) (path : Text) (z : ℤ) (s : Scalar) → element_cells n path z s ≡ cells_of (element_scalars n path z s)
shallow_elements zero path z s = refl
shallow_elements (suc n) path z s = ap (λ xs. cell (element_path path z) s ∷ xs) (shallow_elements n path (z +ℤ pos 1) s)

shallow_form : (c : Config) (path : Text) (f : Form) → cells_at (instance_cells zero c) path f ≡ cells_of (scalars_at (instance_scalars zero c) path f)
shallow_form c path (ScalarForm s) = refl
shallow_form c path (ArrayForm bounds element) = shallow_elements (width bounds) path bounds.lower element
shallow_form c path (BlockForm block) = refl

-- the cells of scalars and arrays are those of their scalars
pub shallow_cells : (c : Config) (es : List Entity) → entity_cells (instance_cells zero c) [] es ≡ cells_of (entity_scalars (instance_scalars zero c) [] es)
shallow_cells c [] = refl
shallow_cells c (e ∷ es) =
    ap₂ (λ xs ys. xs ++ ys) (shallow_form c (under [] e.name) e.form) (shallow_cells c es)
    ∙ sym (map-append (λ (p : Text × Scalar). cell p.0 p.1) (scalars_at (instance_scalars zero c) (under [] e.name) e.form) (entity_scalars (instance_scalars zero c) [] es))

cell_paths : (ps : List (Text × Scalar)) → map (λ (x : Cell). x.path) (cells_of ps) ≡ map (λ (p : Text × Scalar). p.0) ps
cell_paths [] = refl
cell_paths (p ∷ ps) = ap (λ l. p.0 ∷ l) (cell_paths ps)

-- the paths of the cells of scalars and arrays
pub paths_are : (c : Config) (es : List Entity) → map (λ (x : Cell). x.path) (entity_cells (instance_cells zero c) [] es) ≡ paths_of es
paths_are c es = ap (map (λ (x : Cell). x.path)) (shallow_cells c es) ∙ cell_paths (entity_scalars (instance_scalars zero c) [] es) ∙ sym (external_are c es)

-- THE NAME OF A PATH

other_byte : (b : ℕ) → (b ≡ 91 → ⊥) → (b == 91) ≡ false
other_byte b never = ne_eqb b 91 never

base_plain : (name : Text) → IsPlain name → base_name name ≡ name
base_plain [] plain = refl
base_plain (b ∷ bs) plain = ap (λ t. if t then [] else b ∷ base_name bs) (other_byte b plain.1) ∙ ap (λ l. b ∷ l) (base_plain bs plain.2)

base_front : (name rest : Text) → IsPlain name → base_name (name ++ 91 ∷ rest) ≡ name
base_front [] rest plain = refl
base_front (b ∷ bs) rest plain = ap (λ t. if t then [] else b ∷ base_name (bs ++ 91 ∷ rest)) (other_byte b plain.1) ∙ ap (λ l. b ∷ l) (base_front bs rest plain.2)

base_element : (name : Text) (z : ℤ) → IsPlain name → base_name (element_path name z) ≡ name
base_element name z plain = ap base_name (element_is name z) ∙ base_front name (signed_decimal z ++ codes "]") plain

-- STORES

module _ (c : Config) (steps : List Step) where
  none_twice : (b : Bool) → ◌≡◌ {A = List Cell} [] (cond b [] [])
  none_twice true = refl
  none_twice false = refl

  kept_elements : (b : Bool) (name : Text) → IsPlain name → is_stored steps name ≡ b → (n : ℕ) (z : ℤ) (s : Scalar) → filter (stores_cell steps) (element_cells n name z s) ≡ cond b (element_cells n name z s) []
  kept_elements b name plain is zero z s = none_twice b
  kept_elements b name plain is (suc n) z s =
      ap (λ t. if t then cell (element_path name z) s ∷ filter (stores_cell steps) (element_cells n name (z +ℤ pos 1) s) else filter (stores_cell steps) (element_cells n name (z +ℤ pos 1) s)) (ap (is_stored steps) (base_element name z plain) ∙ is)
      ∙ by b (kept_elements b name plain is n (z +ℤ pos 1) s)
    where
      by : (t : Bool) → filter (stores_cell steps) (element_cells n name (z +ℤ pos 1) s) ≡ cond t (element_cells n name (z +ℤ pos 1) s) []
          → (if t then cell (element_path name z) s ∷ filter (stores_cell steps) (element_cells n name (z +ℤ pos 1) s) else filter (stores_cell steps) (element_cells n name (z +ℤ pos 1) s)) ≡ cond t (element_cells (suc n) name z s) []
      by true rest = ap (λ l. cell (element_path name z) s ∷ l) rest
      by false rest = rest

  kept_form : (b : Bool) (name : Text) → IsPlain name → is_stored steps name ≡ b → (f : Form) → filter (stores_cell steps) (cells_at (instance_cells zero c) name f) ≡ cond b (cells_at (instance_cells zero c) name f) []
  kept_form b name plain is (ScalarForm s) = ap (λ t. if t then cell name s ∷ [] else []) (ap (is_stored steps) (base_plain name plain) ∙ is) ∙ by b
    where
      by : (t : Bool) → (if t then cell name s ∷ [] else []) ≡ cond t (cell name s ∷ []) []
      by true = refl
      by false = refl
  kept_form b name plain is (ArrayForm bounds element) = kept_elements b name plain is (width bounds) bounds.lower element
  kept_form b name plain is (BlockForm block) = none_twice b

  -- the cells of the variables into which a body stores
  pub stored_cells : (es : List Entity) → AreNamed es → filter (stores_cell steps) (entity_cells (instance_cells zero c) [] es) ≡ entity_cells (instance_cells zero c) [] (filter (λ (e : Entity). is_stored steps e.name) es)
  stored_cells [] named = refl
  stored_cells (e ∷ es) named =
      filter-append (stores_cell steps) (cells_at (instance_cells zero c) (under [] e.name) e.form) (entity_cells (instance_cells zero c) [] es)
      ∙ ap₂ (λ xs ys. xs ++ ys) (kept_form (is_stored steps e.name) e.name named.0 refl e.form) (stored_cells es named.4)
      ∙ by (is_stored steps e.name)
    where
      by : (b : Bool) → cond b (cells_at (instance_cells zero c) (under [] e.name) e.form) [] ++ entity_cells (instance_cells zero c) [] (filter (λ (d : Entity). is_stored steps d.name) es)
          ≡ entity_cells (instance_cells zero c) [] (cond b (e ∷ filter (λ (d : Entity). is_stored steps d.name) es) (filter (λ (d : Entity). is_stored steps d.name) es))
      by true = refl
      by false = refl

named_rest : (xs ys : List Entity) → AreNamed (xs ++ ys) → AreNamed ys
named_rest [] ys named = named
named_rest (x ∷ xs) ys named = named_rest xs ys named.4

-- the paths of the globals that a program writes
pub written_are : (c : Config) → HasNoFault (Broken Declaring c) → IsWritten c → (u : ProgramUnit) → Contains c.units u → map (λ (x : Cell). x.path) (filter (stores_cell u.body.steps) (external_cells c u)) ≡ written_paths u
written_are c unbroken written u among =
    ap (map (λ (x : Cell). x.path)) (stored_cells c u.body.steps (entities u.externals) (named_rest (own_entities u) (entities u.externals) (declared_named c unbroken written u among)))
    ∙ paths_are c (filter (λ (e : Entity). is_stored u.body.steps e.name) (entities u.externals))

-- HOW MANY

row_count : (name : Text) (size : ℤ) (s : Scalar) → pos 1 ≤ℤ size → length (row name size s) ≡ nat_abs size
row_count name size s some = elements (width (record { lower = pos 1; upper = size })) (pos 1) ∙ as_many size some
  where
    elements : (n : ℕ) (z : ℤ) → length (element_scalars n name z s) ≡ n
    elements zero z = refl
    elements (suc n) z = ap suc (elements n (z +ℤ pos 1))

cells_count : (ps : List (Text × Scalar)) → length (cells_of ps) ≡ length ps
cells_count [] = refl
cells_count (p ∷ ps) = ap suc (cells_count ps)

calls_count : (c : Config) → IsSized c → length (calls c) ≡ 4 * (sizes_of c).slots
calls_count c sized =
    let a = length-append (waiting c ++ from_row c ++ to_row c) (car_row c) in
    let b = length-append (waiting c ++ from_row c) (to_row c) in
    let d = length-append (waiting c) (from_row c) in
    let e : length (waiting c) ≡ (sizes_of c).slots = row_count _ c.slots.value _ sized.slots in
    let f : length (from_row c) ≡ (sizes_of c).slots = row_count _ c.slots.value _ sized.slots in
    let g : length (to_row c) ≡ (sizes_of c).slots = row_count _ c.slots.value _ sized.slots in
    let h : length (car_row c) ≡ (sizes_of c).slots = row_count _ c.slots.value _ sized.slots in omega (arith, a, b, d, e, f, g, h)

-- how many slots of the image a task sees
pub given_count : (c : Config) → IsSized c → (t : ℕ) → length (given_scalars c t) ≡ image_count (sizes_of c) t
given_count c sized zero =
    let a = length-append (firsts c ++ calls c) (places c ++ motors c ++ assigns c) in
    let b = length-append (firsts c) (calls c) in
    let d = length-append (places c ++ motors c) (assigns c) in
    let e = length-append (places c) (motors c) in
    let n = calls_count c sized in
    let six : length (firsts c) ≡ 6 = refl in
    let p : length (places c) ≡ (sizes_of c).cars = row_count _ c.cars.value _ sized.cars in
    let m : length (motors c) ≡ (sizes_of c).cars = row_count _ c.cars.value _ sized.cars in
    let s : length (assigns c) ≡ (sizes_of c).slots = row_count _ c.slots.value _ sized.slots in omega (arith, a, b, d, e, n, six, p, m, s)
given_count c sized (suc k) =
    let a = length-append (firsts c ++ calls c) (fields c ++ outputs c) in
    let b = length-append (firsts c) (calls c) in
    let n = calls_count c sized in
    let six : length (firsts c) ≡ 6 = refl in
    let ten : length (fields c ++ outputs c) ≡ CAR_VALUES = refl in omega (arith, a, b, n, six, ten)

-- THE FIRST SLOT OF A PATH

-- the first cell of a path is of the type of each scalar of the path
first_slot : (ps : List (Text × Scalar)) → HaveOneType ps → (p : Text × Scalar) → Contains ps p → (k : ℕ) × (slot_at (cells_of ps) p.0 ≡ Some k) × (slice_get (cells_of ps) k ≡ Some (cell p.0 p.1))
first_slot [] once p has = absurd (in_nothing p has)
first_slot (r ∷ ps) once p has = by_test (λ there. first_slot ps (λ x y a b. once x y (in_tail r ps x a) (in_tail r ps y b)) p there) (bytes_eq r.0 p.0) refl
  where
    rest : (n : ℕ) → (low : n < length (r ∷ ps)) → slice_index_or (r ∷ ps) n p ≡ p → bytes_eq r.0 p.0 ≡ false → Contains ps p
    rest zero low same test = let wrong : true ≡ false = sym ((bytes_eq-Decides r.0 p.0).1 (ap (λ (x : Text × Scalar). x.0) same)) ∙ test in cc
    rest (suc n) low same test = (n, omega (arith, low), same)

    by_test : (Contains ps p → (k : ℕ) × (slot_at (cells_of ps) p.0 ≡ Some k) × (slice_get (cells_of ps) k ≡ Some (cell p.0 p.1))) → (t : Bool) → bytes_eq r.0 p.0 ≡ t → (k : ℕ) × (slot_at (cells_of (r ∷ ps)) p.0 ≡ Some k) × (slice_get (cells_of (r ∷ ps)) k ≡ Some (cell p.0 p.1))
    by_test more true test =
        let path : r.0 ≡ p.0 = (bytes_eq-Decides r.0 p.0).0 test in
        let scalar : r.1 ≡ p.1 = once r p (at_head r ps) has path in
        (0, ap (λ b. if b then Some 0 else option_map suc (slot_at (cells_of ps) p.0)) test, ap₂ (λ (q : Text) (s : Scalar). Some (cell q s)) path scalar)
    by_test more false test =
        let w = more (rest has.0 has.1 has.2 test) in
        (suc w.0, ap (λ b. if b then Some 0 else option_map suc (slot_at (cells_of ps) p.0)) test ∙ ap (option_map suc) w.1, w.2)

-- a cell of scalars is one of a scalar
some_scalar : (ps : List (Text × Scalar)) (x : Cell) → Contains (cells_of ps) x → (p : Text × Scalar) × Contains ps p × (cell p.0 p.1 ≡ x)
some_scalar [] x has = absurd (in_nothing x has)
some_scalar (p ∷ ps) x (zero, low, same) = (p, at_head p ps, same)
some_scalar (p ∷ ps) x (suc n, low, same) = let w = some_scalar ps x (n, omega (arith, low), same) in (w.0, in_tail p ps w.0 w.1, w.2)

-- what a filter leaves is there
of_filter : (test : Cell → Bool) (xs : List Cell) (x : Cell) → Contains (filter test xs) x → Contains xs x
of_filter test [] x has = has
of_filter test (y ∷ xs) x has = by (λ there. of_filter test xs x there) (test y) has
  where
    in_front : (Contains (filter test xs) x → Contains xs x) → Contains (y ∷ filter test xs) x → Contains (y ∷ xs) x
    in_front rest (zero, low, same) = (0, omega arith, same)
    in_front rest (suc n, low, same) = in_tail y xs x (rest (n, omega (arith, low), same))

    by : (Contains (filter test xs) x → Contains xs x) → (b : Bool) → Contains (if b then y ∷ filter test xs else filter test xs) x → Contains (y ∷ xs) x
    by rest true there = in_front rest there
    by rest false there = in_tail y xs x (rest there)

stands_within : (cells : List Cell) (k : ℕ) (x : Cell) → slice_get cells k ≡ Some x → k < length cells
stands_within [] k x is = cc
stands_within (c ∷ cs) zero x is = omega arith
stands_within (c ∷ cs) (suc k) x is = let h = stands_within cs k x is in omega (arith, h)

-- A TASK'S EXTERNALS

module _ (c : Config) (runs : IsRunnable c) (task : ℕ) (u : ProgramUnit) (is : IsTaskOf c task u) where
  abbrev well : IsAccepted c u
  well = accepted c runs task u is

  abbrev among : Contains c.units u
  among = program_among c u well

  cells_are : program_cells c u ≡ own_cells c u ++ (external_cells c u ++ cells_of (given_scalars c task))
  cells_are =
      ap (λ xs. own_cells c u ++ xs)
      (seen_cells_are c (sound_of c runs) task u is ∙ map-append (λ (p : Text × Scalar). cell p.0 p.1) (external_scalars c u) (given_scalars c task)
      ∙ ap (λ xs. xs ++ cells_of (given_scalars c task)) (sym (shallow_cells c (entities u.externals))))

  -- they are between the task's own variables and the image
  pub externals_are : (cells : List Cell) (own image : ℕ) → cells ≡ program_cells c u → own ≡ length (own_cells c u) → image ≡ image_count (sizes_of c) task → between own image cells ≡ external_cells c u
  externals_are cells own image same first last =
      ap (between own image) (same ∙ cells_are)
      ∙ between_is (own_cells c u) (external_cells c u) (cells_of (given_scalars c task)) own image first (last ∙ sym (given_count c (is_sized c runs.declared) task) ∙ sym (cells_count (given_scalars c task)))

  -- there is room for both
  pub externals_room : (cells : List Cell) (own image : ℕ) → cells ≡ program_cells c u → own ≡ length (own_cells c u) → image ≡ image_count (sizes_of c) task → (own ≤ length cells) × (image ≤ length (drop own cells))
  externals_room cells own image same first last =
      let n = ap length (same ∙ cells_are) ∙ length-append (own_cells c u) (external_cells c u ++ cells_of (given_scalars c task)) in
      let m = length-append (external_cells c u) (cells_of (given_scalars c task)) in
      let k = cells_count (given_scalars c task) ∙ given_count c (is_sized c runs.declared) task in
      let d = length-drop own cells in
      let low : own ≤ length cells = omega (arith, n, first) in
      (low, omega (arith, n, m, k, d, first, last))

  -- THE GLOBALS OF A PROGRAM

  shares : SharesGlobals c u
  shares = shares_globals c u well

  external_there : (globals : Values) → HoldGlobals c globals → HaveValues globals (external_scalars c u)
  external_there globals hold = values_of globals (external_scalars c u) (λ p has. value_of globals (global_scalars c) p hold (shares.externals p has))

  -- the values at the slots of what a program lists
  pub lists : (r : Rows) → FitsGlobals c r → HoldGlobals c (globals_in c r) → AreListed c task (map (shared_value (global_cells c) r) (map (slot_in (global_cells c)) (external_cells c u))) (globals_in c r)
  lists r fits hold = (
    u,
    is,
    hold,
    ap (λ l. map (λ (e : Text × Value). e.1) (entries_at (globals_in c r) l)) (external_are c (entities u.externals))
        ∙ each (external_scalars c u) (external_there (globals_in c r) hold)
        ∙ ap (λ xs. map (shared_value (global_cells c) r) (map (slot_in (global_cells c)) xs)) (sym (shallow_cells c (entities u.externals))),
  )
    where
      each : (ps : List (Text × Scalar)) → HaveValues (globals_in c r) ps → map (λ (e : Text × Value). e.1) (entries_at (globals_in c r) (map (λ (p : Text × Scalar). p.0) ps)) ≡ map (shared_value (global_cells c) r) (map (slot_in (global_cells c)) (cells_of ps))
      each [] have = refl
      each (p ∷ ps) have =
          rw have.0.1 (ap₂ (λ (v : Value) (l : List Value). v ∷ l) (sym (shared_is (global_cells c) r (globals_in c r) (reads_path (global_cells c) r fits) (cell p.0 p.1) have.0.0 have.0.1)) (each ps have.1))

  -- what a scan keeps of them
  module _ (s : Stored) (scan : IsScanOf c task s) where
    abbrev values : Values
    values = (state_of (kept_of c task s)).values

    there : (p : Text × Scalar) → Contains (external_scalars c u) p → HasValue values p
    there p has = value_of values (external_scalars c u) p (kept_have c runs task s scan u is) has

    shared : (x : Cell) → Contains (filter (stores_cell u.body.steps) (external_cells c u)) x → IsShared (global_cells c) values x
    shared x has =
        let w = some_scalar (external_scalars c u) x (subst (λ xs. Contains xs x) (shallow_cells c (entities u.externals)) (of_filter (stores_cell u.body.steps) (external_cells c u) x has)) in
        let v = there w.0 w.1 in
        let f = first_slot (global_scalars c) shares.once w.0 (shares.externals w.0 w.1) in
        subst (IsShared (global_cells c) values) w.2
        (record {
          slot = f.0;
          at = ap (λ xs. slot_at xs w.0.0) (shallow_cells c (entities c.globals)) ∙ f.1;
          stands = ap (λ xs. slice_get xs f.0) (shallow_cells c (entities c.globals)) ∙ f.2;
          value = v.0;
          is = v.1;
          kind = kind_by (declared_limits w.0.1) v.0 v.2;
        })

    -- copies of what the program writes leave the globals of the definitions
    pub takes : (r after : Rows) → FitsGlobals c r → after ≡ taken r s.rows (program_cells c u) (transfers u.body.steps (program_cells c u) (global_cells c) (external_cells c u)) → globals_in c after ≡ written_globals (program_of c task) (globals_in c r) values
    takes r after fits wrote =
        ap (globals_in c) wrote
        ∙ taken_is (global_cells c) (program_cells c u) s.rows values (reads_here c runs task s scan u is) (filter (stores_cell u.body.steps) (external_cells c u)) shared r fits
        ∙ ap (λ ps. with_entries (globals_in c r) (entries_at values ps)) (written_are c runs.declared runs.written u among)
        ∙ ap (λ o. written_globals o (globals_in c r) values) (sym is.program)

    pub takes_fits : (r after : Rows) → FitsGlobals c r → after ≡ taken r s.rows (program_cells c u) (transfers u.body.steps (program_cells c u) (global_cells c) (external_cells c u)) → FitsGlobals c after
    takes_fits r after fits wrote = subst (FitsGlobals c) (sym wrote) (taken_fits (global_cells c) (program_cells c u) s.rows values (reads_here c runs task s scan u is) (filter (stores_cell u.body.steps) (external_cells c u)) r fits)

    -- each goes to a slot of the globals
    pub takes_within : All (λ (t : Transfer). t.to < length (global_cells c)) (transfers u.body.steps (program_cells c u) (global_cells c) (external_cells c u))
    takes_within = each (filter (stores_cell u.body.steps) (external_cells c u)) shared
      where
        each : (xs : List Cell) → ((x : Cell) → Contains xs x → IsShared (global_cells c) values x) → All (λ (t : Transfer). t.to < length (global_cells c)) (map (transfer (program_cells c u) (global_cells c)) xs)
        each xs all =
            All-map (λ (t : Transfer). t.to < length (global_cells c)) (transfer (program_cells c u) (global_cells c)) xs
            (λ k d low. let x : Cell = slice_index_or xs k d in let w = all x (All-contains_itself xs k d low) in subst (λ (n : ℕ). n < length (global_cells c)) (sym (ap place_or_zero w.at)) (stands_within (global_cells c) w.slot x w.stands))

-- THE OPENING

module _ (q : Text) where
  first_at : (ps : List (Text × Scalar)) (vs : List (Text × Value)) → map (λ (v : Text × Value). v.0) vs ≡ map (λ (p : Text × Scalar). p.0) ps → ((p : Text × Scalar) → Contains ps p → p.0 ≡ q → HasValue (from_entries vs) p) → get (view (cells_of ps) (first_rows vs)) q ≡ get (from_entries vs) q
  first_at [] [] same each = refl
  first_at [] (v ∷ vs) same each = cc
  first_at (p ∷ ps) [] same each = cc
  first_at (p ∷ ps) (v ∷ vs) same each =
      get-insert (view (cells_of ps) (first_rows vs)) p.0 (value_by (declared_limits p.1) (number_part v.1) (flag_part v.1)) q
      ∙ ap (λ (t : Text). cond (eq_by_cmp order q t) (Some (value_by (declared_limits p.1) (number_part v.1) (flag_part v.1))) (get (view (cells_of ps) (first_rows vs)) q)) (sym path)
      ∙ by (λ others all. first_at ps vs others all) (eq_by_cmp order q v.0) refl ∙ sym (get-insert (from_entries vs) v.0 v.1 q)
    where
      path : v.0 ≡ p.0
      path = cc

      others : map (λ (w : Text × Value). w.0) vs ≡ map (λ (r : Text × Scalar). r.0) ps
      others = cc

      by : (map (λ (w : Text × Value). w.0) vs ≡ map (λ (r : Text × Scalar). r.0) ps → ((r : Text × Scalar) → Contains ps r → r.0 ≡ q → HasValue (from_entries vs) r) → get (view (cells_of ps) (first_rows vs)) q ≡ get (from_entries vs) q)
          → (b : Bool) → eq_by_cmp order q v.0 ≡ b → cond b (Some (value_by (declared_limits p.1) (number_part v.1) (flag_part v.1))) (get (view (cells_of ps) (first_rows vs)) q) ≡ cond b (Some v.1) (get (from_entries vs) q)
      by rest true is =
          let here : HasValue (from_entries (v ∷ vs)) p = each p (at_head p ps) (sym path ∙ sym (same_text q v.0 is)) in
          let value : here.0 ≡ v.1 = same_Some here.0 v.1 (sym here.1 ∙ ap (get (from_entries (v ∷ vs))) (sym path ∙ sym (same_text q v.0 is)) ∙ get-insert (from_entries vs) v.0 v.1 q ∙ ap (λ b. cond b (Some v.1) (get (from_entries vs) q)) is) in
          ap Some (kind_by (declared_limits p.1) v.1 (subst (IsOf p.1) value here.2))
      by rest false is =
          rest others
          (λ r has named. let there = each r (in_tail p ps r has) named in
          (there.0, ap (λ o. o) (sym (get-insert (from_entries vs) v.0 v.1 r.0 ∙ ap (λ b. cond b (Some v.1) (get (from_entries vs) r.0)) (ap (λ (t : Text). eq_by_cmp order t v.0) named ∙ is))) ∙ there.1, there.2))

same_length : (ps : List (Text × Scalar)) (vs : List (Text × Value)) → map (λ (v : Text × Value). v.0) vs ≡ map (λ (p : Text × Scalar). p.0) ps → Fits (cells_of ps) (first_rows vs)
same_length ps vs same = let n = sym (length-map vs (λ (v : Text × Value). v.0)) ∙ ap length same ∙ length-map ps (λ (p : Text × Scalar). p.0) ∙ sym (cells_count ps) in record { numbers = length-map vs _ ∙ n; flags = length-map vs _ ∙ n }

module _ (c : Config) (runs : IsRunnable c) (r : Rows) (first : r ≡ first_rows (global_values c)) where
  paths_same : map (λ (v : Text × Value). v.0) (global_values c) ≡ map (λ (p : Text × Scalar). p.0) (global_scalars c)
  paths_same = external_are c (entities c.globals)

  -- there is a row for each global
  pub globals_fit : FitsGlobals c r
  globals_fit = subst (FitsGlobals c) (sym first) (subst (λ xs. Fits xs (first_rows (global_values c))) (sym (shallow_cells c (entities c.globals))) (same_length (global_scalars c) (global_values c) paths_same))

  -- they are those of the definitions
  pub globals_open_as : globals_in c r ≡ opening_globals c
  unfolding opening_globals
  globals_open_as =
      ap (globals_in c) first ∙ ap (λ xs. view xs (first_rows (global_values c))) (shallow_cells c (entities c.globals))
      ∙ same_map _ _ (λ q. first_at q (global_scalars c) (global_values c) paths_same (λ p has named. value_of (from_entries (global_values c)) (global_scalars c) p (globals_open c runs.written runs.declared) has))
