-- The flat code and the slots of the task of a program mean its tree, and show its variables as they open.
use Rattle.std.proofs.Common.{◌≡◌, ◌≢◌, ℕ, zero, suc, ◌+◌, ◌<◌, ◌≤◌, ◌⊎◌, inl, inr, Bool, true, false, List, [], ◌∷◌, ◌++◌, map, length, slice_get, refl, sym, ap, ap₂, ◌∙◌, cond, Option, Some, None, subst, ◌^◌, arith, append_assoc, append-nil, length-append, codes}
use Rattle.std.specs.Prelude.{Contains, bytes_eq, if◌then◌else◌, find, filter, ◌&&◌}
use Rattle.std.proofs.lemmas.List.Elements.{Contains-append_cases}
use Rattle.std.proofs.lemmas.Option.{same_Some}
use Rattle.il_syntax.specs.ElementaryTypes.{plain}
use Rattle.il_syntax.specs.declared.tree.Elementary.TheVariants.{Time}
use Rattle.il_syntax.specs.declared.tree.Scalar.{Scalar}
use Rattle.il_syntax.specs.declared.tree.Place.{Place}
use Rattle.il_syntax.specs.declared.tree.Named.{Named}
use Rattle.il_syntax.specs.declared.tree.Operand.{Operand as Written}
use Rattle.il_syntax.specs.declared.tree.Form.{Form}
use Rattle.il_syntax.specs.declared.tree.Form.TheVariants.{Scalar as ScalarForm, Block as BlockForm}
use Rattle.il_syntax.specs.declared.tree.Instruction.TheVariants.{Invoke}
use Rattle.il_syntax.specs.declared.tree.Unit.{Unit as ProgramUnit}
use Rattle.il_syntax.specs.declared.tree.UnitKind.{UnitKind}
use Rattle.il_syntax.specs.declared.tree.UnitKind.TheVariants.{Function, FunctionBlock, Program}
use Rattle.il_syntax.specs.declared.tree.Config.{Config}
use Rattle.il_syntax.specs.declared.tree.Declaration.{Declaration}
use Rattle.il_statics.specs.Names.{is_predeclared, unit_named, function_named, function_block_named, form_named, is_function, is_function_kind, is_program, is_program_kind}
use Rattle.il_statics.specs.Declarations.{ScalarsAlone, admitted_variables, written_types, second_unit}
use Rattle.il_statics.specs.Faults.{duplicate, HasNoFault, Broken, Declaring}
use Rattle.base_maps.specs.NameMap.{Text}
use Rattle.il_semantics.specs.declared.value.Value.{Value}
use Rattle.il_semantics.specs.Step.{instruction_at}
use Rattle.il_semantics.specs.Meaning.{Entity, under, member_path, entities, own_entities, result_entities, block_entities, instance_values, fresh_values}
use Rattle.il_semantics_laws.specs.Agreement.{HasUse, IsStack, CallsBy}
use Rattle.il_semantics_laws.specs.Accepted.{IsAccepted}
use Rattle.il_semantics_laws.proofs.Lists.{at_head, in_tail, in_map, AreDistinct, distinct_names}
use Rattle.il_semantics_laws.proofs.Named.{name_of, result_form, function_is_unit, found_unit}
use Rattle.il_semantics_laws.proofs.Fresh.{IsEntity, of_entities, function_kind}
use Rattle.il_semantics_laws.proofs.Declared.{one_unit}
use Rattle.il_semantics_laws.proofs.Meant.{program_is, input_typed, output_typed, variable_typed, is_scalar, instance_of, inputs_seen, time_is_seen, block_among}
use Rattle.il_semantics_laws.proofs.Stacks.{is_shallow, top_among}
use Rattle.il_semantics_laws.proofs.Used.{used_among, instance_used, calls_are_uses, no_standard}
use Rattle.load_slots.specs.declared.flat.Cell.{Cell}
use Rattle.load_slots.specs.declared.flat.UnitCode.{UnitCode}
use Rattle.load_slots.specs.Layout.{cell, AreOnce}
use Rattle.load_slots.specs.Flattened.{HasFunction, IsPlaced, placed, AreFresh, fresh_from, function_entities}
use Rattle.load_slots.specs.Coded.{IsUnit, IsNumbered, IsCode}
use Rattle.load_slots.specs.Cells.{Stands, cells_at, entity_cells, instance_cells, offset_in, form_in, HasNone, AreNamed}
use Rattle.load_slots.specs.Places.{form_width, entities_width, block_width, IsLayout, seen_image, unit_entities, capped, declared_in, deepest, height_to, any_block, use_height}
use Rattle.load_slots.specs.Whole.{number_in, unit_code, AreOf}
use Rattle.load_slots.specs.Program.{is_used, task_functions, function_cells, functions_cells, base_in, base_of, variable_cells, seen_cells, program_cells, program_names, now_slot, program_code}
use Rattle.load_slots.proofs.Declared.{own, declared_is, unit_form, no_others, block_alone, block_is_no_function}
use Rattle.load_slots.proofs.Tested.{image_is, stand_here}
use Rattle.load_slots.proofs.Placed.{stands_first, stands_second, task_once, other_name, instances_under}
use Rattle.load_slots.proofs.IsPlaced.{layout, entities_size, offset_below, member_under, scalar_stands, instance_stands, offset_is, has_cells}
use Rattle.load_slots.proofs.Opening.{entities_of}
use Rattle.load_slots.proofs.Uses.{unit_found, uses_most, uses_fall, tall, heights}
use Rattle.load_slots.proofs.Distinct.{plain_of, none_each, blocks_named, unit_entities_named, no_unit_seen}
use Rattle.load_slots.proofs.Begins.{function_initial}
use Rattle.load_slots.proofs.Frames.{function_in_task, of_task_functions, frame_stands, frame_room, base_end, IsFramed, AreApart, frames_once}
use Rattle.il_semantics_laws.proofs.Listing.{of_filter, stack_used}

-- the slots of two lists of declarations
pub cells-append : (inner : Text → Text → List Cell) (path : Text) (es ds : List Entity) → entity_cells inner path (es ++ ds) ≡ entity_cells inner path es ++ entity_cells inner path ds
cells-append inner path [] ds = refl
cells-append inner path (e ∷ es) ds =
    ap (λ xs. cells_at inner (under path e.name) e.form ++ xs) (cells-append inner path es ds) ∙ sym (append_assoc (cells_at inner (under path e.name) e.form) (entity_cells inner path es) (entity_cells inner path ds))

-- scalars alone have the same slots, whatever instances have
pub scalars_same : (one other : Text → Text → List Cell) (path : Text) (es : List Entity) → ((e : Entity) → Contains es e → (s : Scalar) × (e.form ≡ ScalarForm s)) → entity_cells one path es ≡ entity_cells other path es
scalars_same one other path [] each = refl
scalars_same one other path (e ∷ es) each =
    let here = each e (at_head e es) in
    ap₂ ◌++◌ (ap (cells_at one (under path e.name)) here.1 ∙ sym (ap (cells_at other (under path e.name)) here.1)) (scalars_same one other path es (λ d has. each d (in_tail e es d has)))

-- what is put into slots that are somewhere
fresh_all : (cells : List Cell) (base k : ℕ) (xs : List Cell) (vs : List (Text × Value)) → AreOf xs vs → ((j : ℕ) (x : Cell) → slice_get xs j ≡ Some x → slice_get cells (base + (k + j)) ≡ Some x) → AreFresh cells base (fresh_from k xs vs) vs
fresh_all cells base k [] [] all stand = tt
fresh_all cells base k [] (v ∷ vs) all stand = absurd all
fresh_all cells base k (x ∷ xs) [] all stand = absurd all
fresh_all cells base k (x ∷ xs) (v ∷ vs) all stand = (
  record {
    place = k;
    scalar = x.scalar;
    to = refl;
    from = refl;
    kind = all.1;
    stands = ap (slice_get cells) (let e : base + k ≡ base + (k + 0) = omega arith in e) ∙ stand 0 x refl ∙ ap (λ path. Some (cell path x.scalar)) all.0;
  },
  fresh_all cells base (suc k) xs vs all.2 (λ j y is. ap (slice_get cells) (let e : base + (suc k + j) ≡ base + (k + suc j) = omega arith in e) ∙ stand (suc j) y is),
)

-- what is in a list of codes is that of a unit
mapped : {A : Type 0} (g : ProgramUnit → A) (us : List ProgramUnit) (i : ℕ) (code : A) → slice_get (map g us) i ≡ Some code → (u : ProgramUnit) × (slice_get us i ≡ Some u) × (g u ≡ code)
mapped g [] i code is = cc
mapped g (u ∷ us) zero code is = (u, refl, same_Some (g u) code is)
mapped g (u ∷ us) (suc i) code is = mapped g us i code is

-- the first unit of a name is at its number
numbered : {A : Type 0} (g : ProgramUnit → A) (us : List ProgramUnit) (name : Text) (v : ProgramUnit) → find (λ u. bytes_eq u.name.name name) us ≡ Some v → slice_get (map g us) (number_in us name) ≡ Some (g v)
numbered g [] name v is = cc
numbered g (u ∷ us) name v is = by_test (bytes_eq u.name.name name) is (numbered g us name v)
  where
    by_test : (b : Bool) → cond b (Some u) (find (λ u. bytes_eq u.name.name name) us) ≡ Some v → (find (λ u. bytes_eq u.name.name name) us ≡ Some v → slice_get (map g us) (number_in us name) ≡ Some (g v))
        → slice_get (g u ∷ map g us) (if b then 0 else suc (number_in us name)) ≡ Some (g v)
    by_test true is more = ap (λ w. Some (g w)) (same_Some u v is)
    by_test false is more = more is

pub at_contains : (us : List ProgramUnit) (i : ℕ) (u : ProgramUnit) → slice_get us i ≡ Some u → Contains us u
at_contains [] i u is = cc
at_contains (w ∷ us) zero u is = subst (Contains (w ∷ us)) (same_Some w u is) (at_head w us)
at_contains (w ∷ us) (suc i) u is = in_tail w us u (at_contains us i u is)

found_by : (b : Bool) (o : Option ProgramUnit) (v : ProgramUnit) → (if b then None else o) ≡ Some v → o ≡ Some v
found_by true o v is = cc
found_by false o v is = is

-- the variables of a function are scalars
pub scalar_forms : (c : Config) → HasNoFault (Broken Declaring c) → (v : ProgramUnit) → Contains c.units v → is_function v ≡ true → (e : Entity) → Contains (function_entities v) e → (s : Scalar) × (e.form ≡ ScalarForm s)
scalar_forms c unbroken v among is e has = by_result (Contains-append_cases (own_entities v) (result_entities v.kind v.name.name) e has)
  where
    kind : (s : Scalar) × (place : Place) × (v.kind ≡ Function s place)
    kind = function_kind v.kind v refl is

    of_list : (ds : List Declaration) → ((d : Declaration) → Contains ds d → Contains (written_types c) (ScalarsAlone, d.declared)) → IsEntity ds e → (s : Scalar) × (e.form ≡ ScalarForm s)
    of_list ds typed l =
        let s = is_scalar c unbroken l.declaration.declared (typed l.declaration l.among) in
        (s.0, sym (ap (λ (x : Entity). x.form) l.same) ∙ s.1)

    by_input : Contains (entities v.inputs) e ⊎ Contains (entities v.outputs) e → (s : Scalar) × (e.form ≡ ScalarForm s)
    by_input (inl a) = of_list v.inputs (λ d h. input_typed c v d among h) (of_entities v.inputs e a)
    by_input (inr a) = of_list v.outputs (λ d h. output_typed c v d among h) (of_entities v.outputs e a)

    by_variable : Contains (entities v.inputs ++ entities v.outputs) e ⊎ Contains (entities v.variables) e → (s : Scalar) × (e.form ≡ ScalarForm s)
    by_variable (inl a) = by_input (Contains-append_cases (entities v.inputs) (entities v.outputs) e a)
    by_variable (inr a) = of_list v.variables (λ d h. subst (λ (k : UnitKind). Contains (written_types c) (admitted_variables k, d.declared)) kind.2 (variable_typed c v d among h)) (of_entities v.variables e a)

    of_result : Contains (result_entities (Function kind.0 kind.1) v.name.name) e → (s : Scalar) × (e.form ≡ ScalarForm s)
    of_result (zero, low, same) = (kind.0, sym (ap (λ (x : Entity). x.form) same))
    of_result (suc n, low, same) = absurd (omega arith)

    by_result : Contains (own_entities v) e ⊎ Contains (result_entities v.kind v.name.name) e → (s : Scalar) × (e.form ≡ ScalarForm s)
    by_result (inl a) = by_variable (Contains-append_cases (entities v.inputs ++ entities v.outputs) (entities v.variables) e a)
    by_result (inr a) = of_result (subst (λ (k : UnitKind). Contains (result_entities k v.name.name) e) kind.2 a)

module _ (c : Config) (p : ProgramUnit) (accepted : IsAccepted c p) where
  unbroken : HasNoFault (Broken Declaring c)
  unbroken = accepted.declared

  abbrev inner : Text → Text → List Cell
  inner = instance_cells deepest c

  abbrev wide : Text → ℕ
  wide = block_width deepest c

  laid : IsLayout c inner wide
  laid = layout c (height_to any_block (block_entities c) 18) (heights c unbroken accepted.ordered) deepest (tall c unbroken accepted.ordered)

  blocks : (block : Text) → AreNamed (block_entities c block)
  blocks = blocks_named c unbroken accepted.written

  program_found : unit_named c p.name.name ≡ Some p
  program_found = (program_is c p.name.name p accepted.program).0

  program_kind : is_program p ≡ true
  program_kind = (program_is c p.name.name p accepted.program).1

  pub program_among : Contains c.units p
  program_among = found_unit c p.name.name p program_found

  abbrev fs : List ProgramUnit
  fs = task_functions c p

  abbrev cells : List Cell
  cells = program_cells c p

  -- A UNIT'S NAMES

  unit_names_once : (u : ProgramUnit) → Contains c.units u → AreNamed (unit_entities c u)
  unit_names_once u among = unit_entities_named c unbroken u accepted.written among

  forms : (u : ProgramUnit) → Contains c.units u → (name : Text) (f : Form) → form_named c u name ≡ Some f → form_in (declared_in c u.name.name) name ≡ Some f
  forms u among name f is = ap (λ es. form_in es name) (declared_is c u (unit_found c unbroken u among)) ∙ unit_form c u (unit_names_once u among) (image_is c u) name f is

  declared_once : (u : ProgramUnit) → Contains c.units u → AreNamed (declared_in c u.name.name)
  declared_once u among = subst AreNamed (sym (declared_is c u (unit_found c unbroken u among))) (unit_names_once u among)

  -- FUNCTIONS

  is_no_program : (k : UnitKind) → is_function_kind k ≡ true → is_program_kind k ≡ false
  is_no_program (Function s place) is = refl
  is_no_program FunctionBlock is = cc
  is_no_program Program is = cc

  -- a function's declarations are its variables and its result
  function_alone : (v : ProgramUnit) → Contains c.units v → is_function v ≡ true → declared_in c v.name.name ≡ function_entities v
  function_alone v among is =
      declared_is c v (unit_found c unbroken v among)
      ∙ ap (λ es. own_entities v ++ (result_entities v.kind v.name.name ++ es)) (no_others c v (is_no_program v.kind is) (accepted.written.externals v among (is_no_program v.kind is)))
      ∙ ap (λ es. own_entities v ++ es) (append-nil (result_entities v.kind v.name.name))

  function_named_once : (v : ProgramUnit) → Contains c.units v → is_function v ≡ true → AreNamed (function_entities v)
  function_named_once v among is = subst AreNamed (function_alone v among is) (declared_once v among)

  -- they are scalars
  function_scalars : (v : ProgramUnit) → Contains c.units v → is_function v ≡ true → (e : Entity) → Contains (function_entities v) e → (s : Scalar) × (e.form ≡ ScalarForm s)
  function_scalars v among is e has = scalar_forms c unbroken v among is e has

  fs_among : (v : ProgramUnit) → Contains fs v → Contains c.units v
  fs_among v has = (of_task_functions c p v has).0

  fs_functions : (v : ProgramUnit) → Contains fs v → is_function v ≡ true
  fs_functions v has = (of_task_functions c p v has).1

  fs_alone : (w v : ProgramUnit) → Contains fs w → Contains fs v → w.name.name ≡ v.name.name → w ≡ v
  fs_alone w v a b same = one_unit c unbroken w v (fs_among w a) (fs_among v b) same

  -- the program is none of them
  other_name_than : (w : ProgramUnit) → Contains fs w → w.name.name ≢ p.name.name
  other_name_than w has same =
      let one : w ≡ p = one_unit c unbroken w p (fs_among w has) program_among same in
      let wrong : true ≡ false = sym program_kind ∙ ap is_program (sym one) ∙ is_no_program w.kind (fs_functions w has) in cc

  -- PATHS

  program_cells_are : entity_cells inner [] (unit_entities c p) ≡ variable_cells c p ++ seen_cells c p
  program_cells_are = cells-append inner [] (own_entities p) (result_entities p.kind p.name.name ++ (entities p.externals ++ seen_image c p)) ∙ ap (λ es. variable_cells c p ++ entity_cells inner [] es) (by_kind p.kind program_kind)
    where
      by_kind : (k : UnitKind) → is_program_kind k ≡ true → result_entities k p.name.name ++ (entities p.externals ++ seen_image c p) ≡ entities p.externals ++ seen_image c p
      by_kind (Function s place) is = cc
      by_kind FunctionBlock is = cc
      by_kind Program is = refl

  cells_are : functions_cells c fs ++ entity_cells inner [] (unit_entities c p) ≡ cells
  cells_are = ap (λ xs. functions_cells c fs ++ xs) program_cells_are ∙ sym (append_assoc (functions_cells c fs) (variable_cells c p) (seen_cells c p))

  no_function_seen : (v : ProgramUnit) → Contains fs v → HasNone (unit_entities c p) v.name.name
  no_function_seen v has = none_each (unit_entities c p) v.name.name (λ y h. no_unit_seen c unbroken p v program_among (fs_among v has) y (by_kind p.kind program_kind y h))
    where
      by_kind : (k : UnitKind) → is_program_kind k ≡ true → (y : Entity) → Contains (own_entities p ++ (result_entities k p.name.name ++ (entities p.externals ++ seen_image c p))) y → Contains (own_entities p ++ (entities p.externals ++ seen_image c p)) y
      by_kind (Function s place) is y h = cc
      by_kind FunctionBlock is y h = cc
      by_kind Program is y h = h

  framed : IsFramed c blocks fs (entity_cells inner [] (unit_entities c p))
  framed = record {
    plain = λ v has. plain_of v.name.name (accepted.written.headings v (fs_among v has)).no_point (accepted.written.headings v (fs_among v has)).no_bracket;
    some = λ v has. (accepted.written.headings v (fs_among v has)).some;
    own = λ v has. function_named_once v (fs_among v has) (fs_functions v has);
    elsewhere = λ v has k y is. other_name inner (instances_under c blocks deepest) [] (unit_entities c p) (unit_names_once p program_among) v.name.name (no_function_seen v has) k y is;
  }

  cells_apart : (test : ProgramUnit → Bool) (us : List ProgramUnit) → AreDistinct (map (λ (u : ProgramUnit). u.name.name) us) → AreApart c blocks (filter test us)
  cells_apart test [] apart = tt
  cells_apart test (u ∷ us) apart = by_test (test u) (cells_apart test us apart.1)
    where
      by_test : (b : Bool) → AreApart c blocks (filter test us) → AreApart c blocks (cond b (u ∷ filter test us) (filter test us))
      by_test true more = (λ w has same. apart.0 (subst (Contains (map (λ (x : ProgramUnit). x.name.name) us)) same (in_map (λ (x : ProgramUnit). x.name.name) us w (of_filter test us w has).0)), more)
      by_test false more = more

  -- no two slots of the task have one path
  pub cells_once : AreOnce (program_cells c p)
  cells_once =
      subst AreOnce cells_are (frames_once c blocks fs (entity_cells inner [] (unit_entities c p)) framed
      (cells_apart (λ v. is_function v && is_used c p v) c.units (distinct_names (λ (u : ProgramUnit). u.name.name) c.units (λ u again. unbroken 20 u.place (duplicate refl (second_unit u again refl)))))
      (task_once c blocks deepest (unit_entities c p) (unit_names_once p program_among)))

  -- FRAMES

  parts_stand : Stands cells 0 (functions_cells c fs ++ entity_cells inner [] (unit_entities c p))
  parts_stand = subst (Stands cells 0) (sym cells_are) (stand_here cells)

  base_is : base_of c p p.name.name ≡ length (functions_cells c fs)
  base_is = base_end c fs p.name.name other_name_than

  program_stands : Stands cells (base_of c p p.name.name) (entity_cells inner [] (declared_in c p.name.name))
  program_stands =
      subst (λ es. Stands cells (base_of c p p.name.name) (entity_cells inner [] es)) (sym (declared_is c p program_found))
      (subst (λ b. Stands cells b (entity_cells inner [] (unit_entities c p))) (let e : 0 + length (functions_cells c fs) ≡ length (functions_cells c fs) = omega arith in e ∙ sym base_is)
      (stands_second cells 0 (functions_cells c fs) (entity_cells inner [] (unit_entities c p)) parts_stand))

  program_room : base_of c p p.name.name + entities_width wide (declared_in c p.name.name) ≤ length cells
  program_room =
      subst (λ es. base_of c p p.name.name + entities_width wide es ≤ length cells) (sym (declared_is c p program_found))
      (beside (base_of c p p.name.name) (length (functions_cells c fs)) (entities_width wide (unit_entities c p)) (length (entity_cells inner [] (unit_entities c p))) (length cells)
      base_is (entities_size inner wide laid.sizes [] (unit_entities c p)) (sym (length-append (functions_cells c fs) (entity_cells inner [] (unit_entities c p))) ∙ ap length cells_are))
    where
      beside : (b l w m n : ℕ) → b ≡ l → m ≡ w → l + m ≡ n → b + w ≤ n
      beside b l w m n e f g = omega (arith, e, f, g)

  function_stands : (v : ProgramUnit) → Contains fs v → Stands cells (base_of c p v.name.name) (entity_cells inner v.name.name (declared_in c v.name.name))
  function_stands v has =
      subst (λ es. Stands cells (base_of c p v.name.name) (entity_cells inner v.name.name es)) (sym (function_alone v (fs_among v has) (fs_functions v has)))
      (subst (λ b. Stands cells b (function_cells c v)) (let e : 0 + base_in c fs v.name.name ≡ base_in c fs v.name.name = omega arith in e)
      (frame_stands c cells fs 0 fs_alone (stands_first cells 0 (functions_cells c fs) (entity_cells inner [] (unit_entities c p)) parts_stand) v has))

  function_room : (v : ProgramUnit) → Contains fs v → base_of c p v.name.name + entities_width wide (declared_in c v.name.name) ≤ length cells
  function_room v has =
      subst (λ es. base_of c p v.name.name + entities_width wide es ≤ length cells) (sym (function_alone v (fs_among v has) (fs_functions v has)))
      (beside (base_of c p v.name.name) (entities_width wide (function_entities v)) (length (functions_cells c fs)) (length (entity_cells inner [] (unit_entities c p))) (length cells)
      (frame_room c fs fs_alone v has) (sym (length-append (functions_cells c fs) (entity_cells inner [] (unit_entities c p))) ∙ ap length cells_are))
    where
      beside : (b w l m n : ℕ) → b + w ≤ l → l + m ≡ n → b + w ≤ n
      beside b w l m n le e = omega (arith, le, e)

  -- A FUNCTION'S FRAME

  module _ (v : ProgramUnit) (among : Contains c.units v) (is : is_function v ≡ true) where
    some : v.name.name ≡ [] → ⊥
    some = (accepted.written.headings v among).some

    -- its scalars are laid out alike however deep instances go
    pub fresh_cells : entity_cells (instance_cells zero c) v.name.name (function_entities v) ≡ function_cells c v
    fresh_cells = scalars_same (instance_cells zero c) inner v.name.name (function_entities v) (function_scalars v among is)

    pub fresh_are : AreOf (entity_cells (instance_cells zero c) v.name.name (function_entities v)) (fresh_values c v)
    fresh_are = entities_of (instance_cells zero c) (instance_values zero c) (λ path block. tt) v.name.name (function_entities v) (function_initial c unbroken v among)

    module _ (base : ℕ) (stand : Stands cells base (entity_cells inner v.name.name (declared_in c v.name.name))) (small : entities_width wide (declared_in c v.name.name) < 2 ^ 63) where
      variable_stands : (name : Text) (s : Scalar) → form_named c v name ≡ Some (ScalarForm s) → slice_get cells (base + (program_names c v.name.name).offset name) ≡ Some (cell (member_path v.name.name name) s)
      variable_stands name s form =
          ap (λ k. slice_get cells (base + k)) (offset_is c inner wide laid blocks cells (declared_in c) (number_in c.units) v (declared_once v among) (forms v among) v.name.name base stand small name (ScalarForm s) (forms v among name (ScalarForm s) form))
          ∙ scalar_stands c inner wide laid blocks cells v.name.name (declared_in c v.name.name) base stand name s (forms v among name (ScalarForm s) form) ∙ ap (λ q. Some (cell q s)) (member_under v.name.name name some)

      has_function : (u : ProgramUnit) (function : Text) → function_named c function ≡ Some v → HasFunction c (program_names c u.name.name) (program_names c v.name.name) cells function v base
      has_function u function named = record {
        inputs = λ e s has form.
            ap (λ t. slice_get cells (base + capped (offset_in (form_width wide) (declared_in c t) e.0))) (sym called) ∙ variable_stands e.0 s (inputs_seen c unbroken v function e named has ∙ ap Some form);
        first = λ word. ap (λ t. capped (offset_in (form_width wide) (declared_in c t) word)) called;
        result = λ s place kind. variable_stands v.name.name s (result_form c v s place kind);
        fresh = fresh_all cells base 0 (entity_cells (instance_cells zero c) v.name.name (function_entities v)) (fresh_values c v) fresh_are
            (λ j x here. ap (slice_get cells) (let e : base + (0 + j) ≡ base + j = omega arith in e) ∙ stand j x (ap (λ xs. slice_get xs j) (ap (entity_cells inner v.name.name) (function_alone v among is) ∙ sym fresh_cells) ∙ here));
      }
        where
          called : v.name.name ≡ function
          called = name_of c function v (function_is_unit c function v named).0

  -- ALL FRAMES

  instance_is_use : (u v : ProgramUnit) (instance block : Text) → Contains c.units u → form_named c u instance ≡ Some (BlockForm block) → function_block_named c block ≡ Some v → HasUse c u v
  instance_is_use u v instance block among form function = instance_used c unbroken u v instance block (instance_of c unbroken u instance block among form).0 function

  call_is_use : (u v : ProgramUnit) (place : ℕ) (function : Named) (operands : List Written) → Contains c.units u → instruction_at u.body place ≡ Invoke function operands → function_named c function.name ≡ Some v → HasUse c u v
  call_is_use u v place function operands among is named =
      calls_are_uses c unbroken u v place among (subst (CallsBy c u v) (sym is) (no_standard c unbroken function.name v (function_is_unit c function.name v named).0, named))

  -- a function that a unit of the task calls is one of the task's
  called_in_task : (u v : ProgramUnit) (us : List ProgramUnit) → IsStack c p v (u ∷ us) → is_function v ≡ true → Contains fs v
  called_in_task u v us stack is =
      let short : length (u ∷ us) < 16 = is_shallow c p program_among unbroken accepted.ordered v (u ∷ us) stack in
      function_in_task c p v (top_among c p program_among unbroken accepted.ordered v (u ∷ us) stack) is (stack_used c p 16 v u us stack (omega (arith, short)))

  block_declared : (block : Text) (v : ProgramUnit) → function_block_named c block ≡ Some v → block_entities c block ≡ declared_in c v.name.name
  block_declared block v function =
      let among = block_among c block v function in
      sym (declared_is c v (unit_found c unbroken v among) ∙ block_alone c block v function (accepted.written.externals v among (block_is_no_function v.kind (own c block v function).kind).1))

  block_size : (block : Text) → wide block ≡ entities_width wide (block_entities c block)
  block_size block = sym (laid.sizes [] block) ∙ ap length (laid.unfolds [] block) ∙ entities_size inner wide laid.sizes [] (block_entities c block)

  abbrev IsAt : ProgramUnit → Text → ℕ → Type 0
  IsAt u path base = Stands cells base (entity_cells inner path (declared_in c u.name.name)) × (base + entities_width wide (declared_in c u.name.name) ≤ length cells)

  narrow : (u : ProgramUnit) (path : Text) (base : ℕ) → length cells < 2 ^ 63 → IsAt u path base → entities_width wide (declared_in c u.name.name) < 2 ^ 63
  narrow u path base fits is = let room : base + entities_width wide (declared_in c u.name.name) ≤ length cells = is.1 in omega (arith, room, fits)

  nested : length cells < 2 ^ 63 → (u : ProgramUnit) → Contains c.units u → (path : Text) (base : ℕ) → IsAt u path base → (instance block : Text) (v : ProgramUnit) → form_named c u instance ≡ Some (BlockForm block) → function_block_named c block ≡ Some v
      → IsAt v (under path instance) (base + (program_names c u.name.name).offset instance)
  nested fits u among path base is instance block v form function =
      let found : form_in (declared_in c u.name.name) instance ≡ Some (BlockForm block) = forms u among instance (BlockForm block) form in
      let o : ℕ = offset_in (form_width wide) (declared_in c u.name.name) instance in
      let most : o + wide block ≤ entities_width wide (declared_in c u.name.name) = offset_below wide (declared_in c u.name.name) instance (BlockForm block) found in
      let room : base + entities_width wide (declared_in c u.name.name) ≤ length cells = is.1 in
      let size : wide block ≡ entities_width wide (block_entities c block) = block_size block in
      let led = offset_is c inner wide laid blocks cells (declared_in c) (number_in c.units) u (declared_once u among) (forms u among) path base is.0 (narrow u path base fits is) instance (BlockForm block) found in
      subst (λ k. IsAt v (under path instance) (base + k)) (sym led)
      (subst (λ es. Stands cells (base + o) (entity_cells inner (under path instance) es) × (base + o + entities_width wide es ≤ length cells)) (block_declared block v function)
      (instance_stands c inner wide laid blocks cells path (declared_in c u.name.name) base is.0 instance block found, omega (arith, most, room, size)))

  function_at : (function : Text) (v : ProgramUnit) → function_named c function ≡ Some v → Contains fs v → IsAt v v.name.name (base_of c p function)
  function_at function v named has =
      subst (λ t. IsAt v v.name.name (base_of c p t)) (name_of c function v (function_is_unit c function v named).0) (function_stands v has, function_room v has)

  placed_from : length cells < 2 ^ 63 → (n : ℕ) (u : ProgramUnit) (us : List ProgramUnit) → IsStack c p u us → 16 ≤ n + length us → (path : Text) (base : ℕ) → IsAt u path base → IsPlaced c (program_names c) (base_of c p) cells u path base
  placed_from fits zero u us stack deep path base is = let short : length us < 16 = is_shallow c p program_among unbroken accepted.ordered u us stack in absurd (omega (arith, short, deep))
  placed_from fits (suc n) u us stack deep path base is =
      let among : Contains c.units u = top_among c p program_among unbroken accepted.ordered u us stack in
      let deeper : 16 ≤ n + suc (length us) = omega (arith, deep) in
      placed u path base
      (has_cells c inner wide laid blocks cells (declared_in c) (number_in c.units) u (declared_once u among) (forms u among) path base is.0 (narrow u path base fits is) is.1)
      (λ instance block v form function.
      placed_from fits n v (u ∷ us) (instance_is_use u v instance block among form function, stack) deeper (under path instance) (base + (program_names c u.name.name).offset instance) (nested fits u among path base is instance block v form function))
      (λ place function operands v call named.
      let uses = call_is_use u v place function operands among call named in
      let at = function_at function.name v named (called_in_task u v us (uses, stack) (function_is_unit c function.name v named).1) in
      has_function v (used_among c u v uses) (function_is_unit c function.name v named).1 (base_of c p function.name) at.0 (narrow v v.name.name (base_of c p function.name) fits at) u function.name named)
      (λ place function operands v call named.
      let uses = call_is_use u v place function operands among call named in
      placed_from fits n v (u ∷ us) (uses, stack) deeper v.name.name (base_of c p function.name) (function_at function.name v named (called_in_task u v us (uses, stack) (function_is_unit c function.name v named).1)))

  -- the program's variables, those of its instances, and of the functions that are called, are where names lead
  pub program_is_placed : length (program_cells c p) < 2 ^ 63 → IsPlaced c (program_names c) (base_of c p) (program_cells c p) p [] (base_of c p p.name.name)
  program_is_placed fits = placed_from fits 16 p [] refl (omega arith) [] (base_of c p p.name.name) (program_stands, program_room)

  -- THE CODE

  code_of_unit : (i : ℕ) (code : UnitCode) → slice_get (map (unit_code (program_names c) c) c.units) i ≡ Some code → (u : ProgramUnit) × IsUnit c (program_names c) code u
  code_of_unit i code is =
      let w = mapped (unit_code (program_names c) c) c.units i code is in
      (w.0, subst (λ code. IsUnit c (program_names c) code w.0) w.2 (record { named = refl; found = unit_found c unbroken w.0 (at_contains c.units i w.0 w.1); means = refl; function = refl }))

  number_of_unit : (name : Text) (v : ProgramUnit) → unit_named c name ≡ Some v → IsNumbered (program_code c p) (base_of c p) (number_in c.units name) name
  number_of_unit name v is =
      let found : find (λ u. bytes_eq u.name.name name) c.units ≡ Some v = found_by (is_predeclared c name) (find (λ u. bytes_eq u.name.name name) c.units) v is in
      record {
        code = unit_code (program_names c) c v;
        stands = numbered (unit_code (program_names c) c) c.units name v found;
        named = name_of c name v is;
        base = numbered (λ (u : ProgramUnit). base_of c p u.name.name) c.units name v found ∙ ap (λ t. Some (base_of c p t)) (name_of c name v is);
      }

  now_stands : slice_get cells (now_slot c p) ≡ Some (cell (codes "NOW") (plain Time))
  now_stands =
      subst (λ es. slice_get cells (base_of c p p.name.name + offset_in (form_width wide) es (codes "NOW")) ≡ Some (cell (codes "NOW") (plain Time))) (declared_is c p program_found)
      (scalar_stands c inner wide laid blocks cells [] (declared_in c p.name.name) (base_of c p p.name.name) program_stands (codes "NOW") (plain Time)
      (forms p program_among (codes "NOW") (ScalarForm (plain Time)) (time_is_seen c unbroken p program_among program_kind)))

  -- the flat code means the tree
  pub program_is_code : IsCode (program_code c p)
  program_is_code = record {
    names = program_names c;
    bases = base_of c p;
    once = cells_once;
    now = now_stands;
    units = code_of_unit;
    numbered = λ unit name v is. number_of_unit name v is;
    height = use_height c 17;
    counted = λ name. some_height 16 name;
    falls = λ u v instance block found form function. let among = found_unit c u.name.name u found in uses_fall c unbroken accepted.ordered u v among (instance_is_use u v instance block among form function);
    falls_to = λ u v place function operands found is named. let among = found_unit c u.name.name u found in uses_fall c unbroken accepted.ordered u v among (call_is_use u v place function operands among is named);
    most = λ u found. uses_most c unbroken accepted.ordered u (found_unit c u.name.name u found);
  }
    where
      some_height : (n : ℕ) (name : Text) → 0 < use_height c (suc n) name
      some_height n name = omega arith

  -- by the names of its units, and the bases of the frames
  pub names_are : program_is_code.names ≡ program_names c
  unfolding program_is_code
  names_are = refl

  pub bases_are : program_is_code.bases ≡ base_of c p
  unfolding program_is_code
  bases_are = refl
