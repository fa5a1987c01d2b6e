-- The values of a configuration's variables have 64 bits, and their paths are on one line.
use Rattle.std.proofs.Common.{◌≡◌, ℕ, zero, suc, ◌^◌, ◌<◌, ℤ, pos, negsuc, ◌+ℤ◌, ◌≤ℤ◌, Bool, true, false, ◌&&◌, List, [], ◌∷◌, ◌++◌, refl, sym, Some, None, Option, subst, ◌⊎◌, inl, inr, codes, arith}
use Rattle.std.specs.Prelude.{Contains, flat_map, int_le, if◌then◌else◌, FitsSigned, slice_get}
use Rattle.std.specs.Fmt.{signed_decimal}
use Rattle.std.specs.Int.{w64}
use Rattle.std.specs.List.{AllByRecursion}
use Rattle.std.proofs.lemmas.Int.{ints}
use Rattle.std.proofs.lemmas.List.Elements.{Contains-append_right, Contains-append_cases}
use Rattle.std.proofs.lemmas.Option.{same_Some}
use Rattle.il_syntax.specs.ElementaryTypes.{limits, is_whole, plain, LiesIn}
use Rattle.il_syntax.specs.declared.tree.Config.{Config}
use Rattle.il_syntax.specs.declared.tree.Declaration.{Declaration}
use Rattle.il_syntax.specs.declared.tree.Elementary.{Elementary}
use Rattle.il_syntax.specs.declared.tree.Elementary.TheVariants.{Bool as BoolType, Sint, Int, Dint, Usint, Uint, Udint, Time}
use Rattle.il_syntax.specs.declared.tree.Form.{Form}
use Rattle.il_syntax.specs.declared.tree.Form.TheVariants.{Scalar as ScalarForm, Array as ArrayForm, Block as BlockForm}
use Rattle.il_syntax.specs.declared.tree.Scalar.{Scalar}
use Rattle.il_syntax.specs.declared.tree.Subrange.{Subrange}
use Rattle.il_syntax.specs.declared.tree.Unit.{Unit as ProgramUnit}
use Rattle.il_syntax.specs.declared.tree.UnitKind.{UnitKind}
use Rattle.il_syntax.specs.declared.tree.UnitKind.TheVariants.{Function, FunctionBlock, Program}
use Rattle.il_syntax.specs.declared.tree.WrittenType.{WrittenType}
use Rattle.il_statics.specs.declared.names.StandardBlock.{StandardBlock}
use Rattle.il_statics.specs.Declarations.{Admitted, ScalarsAlone, ScalarsAndArrays, admitted_variables, admits_arrays, result_types, types_in, unit_types, written_types, unit_declarations, type_numbers, bounds_numbers, subrange_numbers, unless, has_value}
use Rattle.il_statics.specs.Faults.{HasNoFault, Broken, Declaring}
use Rattle.il_statics.specs.Names.{or_else, with_forms}
use Rattle.il_statics.specs.Written.{IsWord, IsWritten}
use Rattle.il_statics.proofs.Every.{all_of, every_block, first_of_two, second_of_two}
use Rattle.base_maps.specs.NameMap.{Text}
use Rattle.il_semantics.specs.declared.value.Value.{Value}
use Rattle.il_semantics.specs.declared.value.Value.TheVariants.{Boolean, Integer}
use Rattle.il_semantics.specs.Meaning.{Entity, under, element_path, width, entities, uninitialized, own_entities, result_entities, block_entities}
use Rattle.il_semantics.specs.Values.{IsOf, IsValueIn}
use Rattle.il_semantics_laws.proofs.Declared.{from_inputs, from_outputs, from_variables}
use Rattle.il_semantics_laws.proofs.Fresh.{of_entities, within_is}
use Rattle.il_semantics_laws.proofs.Lists.{at_head, in_tail, in_map, in_flat_map}
use Rattle.il_semantics_laws.proofs.Meant.{no_22, no_25, input_typed, output_typed, variable_typed, result_typed}
use Rattle.load_slots.specs.declared.flat.Cell.{Cell}
use Rattle.load_slots.specs.Cells.{element_cells, cells_at, entity_cells, instance_cells, IsPlain, IsShort, HasShort, AreNamed}
use Rattle.load_slots.specs.Flattened.{function_entities}
use Rattle.load_slots.specs.Making.{all_words}
use Rattle.load_slots.specs.Places.{deepest}
use Rattle.load_slots.specs.Program.{task_functions, function_cells, functions_cells, own_cells, global_cells}
use Rattle.load_slots.proofs.Counted.{words_are}
use Rattle.load_slots.proofs.Distinct.{each_of, own_named, globals_named}
use Rattle.load_slots.proofs.Frames.{of_task_functions}
use Rattle.load_slots.proofs.Tested.{of_blocks}
use Rattle.trace_text.specs.Reading.{Without, IsOneLine}
use Rattle.trace_text.proofs.Bytes.{each_append}
use Rattle.group_state.specs.Variables.{IsNarrow}
use Rattle.group_state_laws.proofs.Lined.{has_none, without_by, both_without, signed_without}

-- NUMBERS OF 64 BITS

-- a number of an integer type, or of TIME
number_narrow : (e : Elementary) (z : ℤ) → LiesIn (limits e) z → (negsuc (2 ^ 62) ≤ℤ z) × (z ≤ℤ pos (2 ^ 62))
number_narrow BoolType z h = absurd h
number_narrow Sint z h = (omega (arith, ints, h.0), omega (arith, ints, h.1))
number_narrow Int z h = (omega (arith, ints, h.0), omega (arith, ints, h.1))
number_narrow Dint z h = (omega (arith, ints, h.0), omega (arith, ints, h.1))
number_narrow Usint z h = (omega (arith, ints, h.0), omega (arith, ints, h.1))
number_narrow Uint z h = (omega (arith, ints, h.0), omega (arith, ints, h.1))
number_narrow Udint z h = (omega (arith, ints, h.0), omega (arith, ints, h.1))
number_narrow Time z h = (omega (arith, ints, h.0), omega (arith, ints, h.1))

fits : (z : ℤ) → negsuc (2 ^ 62) ≤ℤ z → z ≤ℤ pos (2 ^ 62) → FitsSigned w64 z
fits (pos n) h k = record { sfits = omega (arith, ints, k) }
fits (negsuc n) h k = record { sfits = omega (arith, ints, h) }

has_lies : (e : Elementary) (z : ℤ) → has_value e z ≡ true → LiesIn (limits e) z
has_lies BoolType z h = cc
has_lies Sint z h = within_is _ z h
has_lies Int z h = within_is _ z h
has_lies Dint z h = within_is _ z h
has_lies Usint z h = within_is _ z h
has_lies Uint z h = within_is _ z h
has_lies Udint z h = within_is _ z h
has_lies Time z h = within_is _ z h

-- each value of a scalar type has 64 bits
abbrev pub IsNarrowScalar : Scalar → Type 0
IsNarrowScalar s = (v : Value) → IsOf s v → IsNarrow v

limits_narrow : (e : Elementary) (v : Value) → IsValueIn (limits e) v → IsNarrow v
limits_narrow e (Boolean b) h = tt
limits_narrow e (Integer z) h = by (limits e) refl h
  where
    by : (o : Option Subrange) → limits e ≡ o → IsValueIn o (Integer z) → FitsSigned w64 z
    by None is k = absurd k
    by (Some r) is k = let n = number_narrow e z (subst (λ o. LiesIn o z) (sym is) k) in fits z n.0 n.1

passes : (b : Bool) (n : ℕ) → (Contains (unless b n) n → ⊥) → b ≡ true
passes true n none = refl
passes false n none = absurd (none (at_head n []))

range_narrow : (e : Elementary) (r : Subrange) → (Contains (subrange_numbers e (Some r)) 22 → ⊥) → (Contains (subrange_numbers e (Some r)) 25 → ⊥) → (v : Value) → IsValueIn (Some r) v → IsNarrow v
range_narrow e r no_empty no_other (Boolean b) h = tt
range_narrow e r no_empty no_other (Integer z) h = by (is_whole e) no_empty no_other
  where
    by : (b : Bool) → (Contains (if b then unless (has_value e r.lower && has_value e r.upper && int_le r.lower r.upper) 22 else 25 ∷ []) 22 → ⊥)
        → (Contains (if b then unless (has_value e r.lower && has_value e r.upper && int_le r.lower r.upper) 22 else 25 ∷ []) 25 → ⊥) → FitsSigned w64 z
    by false a k = absurd (k (at_head 25 []))
    by true a k =
        let all = passes (has_value e r.lower && has_value e r.upper && int_le r.lower r.upper) 22 a in
        let two = first_of_two (has_value e r.lower && has_value e r.upper) (int_le r.lower r.upper) all in
        let low = number_narrow e r.lower (has_lies e r.lower (first_of_two (has_value e r.lower) (has_value e r.upper) two)) in
        let high = number_narrow e r.upper (has_lies e r.upper (second_of_two (has_value e r.lower) (has_value e r.upper) two)) in
        fits z (omega (arith, ints, low.0, h.0)) (omega (arith, ints, high.1, h.1))

scalar_narrow : (s : Scalar) → ((r : Subrange) → s.subrange ≡ Some r → (Contains (subrange_numbers s.elementary (Some r)) 22 → ⊥) × (Contains (subrange_numbers s.elementary (Some r)) 25 → ⊥)) → IsNarrowScalar s
scalar_narrow s none = by s.subrange refl
  where
    by : (o : Option Subrange) → s.subrange ≡ o → (v : Value) → IsValueIn (or_else o (limits s.elementary)) v → IsNarrow v
    by None is v h = limits_narrow s.elementary v h
    by (Some r) is v h = let n = none r is in range_narrow s.elementary r n.0 n.1 v h

-- a plain type
plain_narrow : (e : Elementary) → IsNarrowScalar (plain e)
plain_narrow e v h = limits_narrow e v h

-- TYPES

abbrev pub IsNarrowForm : Form → Type 0
IsNarrowForm (ScalarForm s) = IsNarrowScalar s
IsNarrowForm (ArrayForm bounds s) = IsNarrowScalar s
IsNarrowForm (BlockForm block) = Unit {0}

module _ (c : Config) (unbroken : HasNoFault (Broken Declaring c)) where
  -- the types that are written (22, 25)
  type_narrow : (a : Admitted) (t : WrittenType) → Contains (written_types c) (a, t) → IsNarrowForm t.form
  unfolding type_numbers
  type_narrow a t among = by t.form refl
    where
      inside : (bounds : Subrange) (s : Scalar) (r : Subrange) → s.subrange ≡ Some r → (n : ℕ) → Contains (subrange_numbers s.elementary (Some r)) n
          → Contains (unless (admits_arrays a) 25 ++ bounds_numbers bounds ++ subrange_numbers s.elementary s.subrange) n
      inside bounds s r some n has =
          Contains-append_right (unless (admits_arrays a) 25 ++ bounds_numbers bounds) (subrange_numbers s.elementary s.subrange) n (subst (λ o. Contains (subrange_numbers s.elementary o) n) (sym some) has)

      by : (f : Form) → t.form ≡ f → IsNarrowForm f
      by (ScalarForm s) is = scalar_narrow s (λ r some. (
        λ has. no_22 c unbroken a t among (subst (λ (f : Form). Contains (type_numbers c a f) 22) (sym is) (subst (λ o. Contains (subrange_numbers s.elementary o) 22) (sym some) has)),
        λ has. no_25 c unbroken a t among (subst (λ (f : Form). Contains (type_numbers c a f) 25) (sym is) (subst (λ o. Contains (subrange_numbers s.elementary o) 25) (sym some) has)),
      ))
      by (ArrayForm bounds s) is = scalar_narrow s (λ r some. (
        λ has. no_22 c unbroken a t among (subst (λ (f : Form). Contains (type_numbers c a f) 22) (sym is) (inside bounds s r some 22 has)),
        λ has. no_25 c unbroken a t among (subst (λ (f : Form). Contains (type_numbers c a f) 25) (sym is) (inside bounds s r some 25 has)),
      ))
      by (BlockForm block) is = tt

-- DECLARED NAMES

-- a byte that a list doesn't contain isn't there
lacks_byte : (stop : ℕ) (xs : List ℕ) → (Contains xs stop → ⊥) → Without stop xs
lacks_byte stop [] none = tt
lacks_byte stop (x ∷ xs) none = (λ same. none (subst (λ (y : ℕ). Contains (x ∷ xs) y) same (at_head x xs)), lacks_byte stop xs (λ has. none (in_tail x xs stop has)))

-- a word is on one line
word_in_line : (name : Text) → IsWord name → IsOneLine name
word_in_line name word = lacks_byte 10 name word.no_feed

-- a variable whose name is on one line, of a type whose values have 64 bits
pub record IsFit (e : Entity) : Type 0 where
  pub one : IsOneLine e.name
  pub narrow : IsNarrowForm e.form
  pub short : HasShort e.form

abbrev pub AreFit : List Entity → Type 0
AreFit es = AllByRecursion IsFit es

fit_by : (es : List Entity) → ((e : Entity) → Contains es e → IsFit e) → AreFit es
fit_by [] each = tt
fit_by (e ∷ es) each = (each e (at_head e es), fit_by es (λ d h. each d (in_tail e es d h)))

short_of : (es : List Entity) → AreNamed es → (e : Entity) → Contains es e → HasShort e.form
short_of [] named e (k, low, same) = absurd (omega (arith, low))
short_of (d ∷ es) named e (zero, low, same) = subst (λ (x : Entity). HasShort x.form) same named.3
short_of (d ∷ es) named e (suc k, low, same) = short_of es named.4 e (k, omega (arith, low), same)

-- the names of standard blocks
abbrev words_in_line : StandardBlock → Bool
words_in_line b = all_of (λ w. has_none 10 w.0) (all_words b)

all_in_line : (b : StandardBlock) → words_in_line b ≡ true
all_in_line = every_block words_in_line refl

module _ (c : Config) (unbroken : HasNoFault (Broken Declaring c)) (written : IsWritten c) where
  -- what a unit declares
  module _ (u : ProgramUnit) (among : Contains c.units u) where
    listed_fit : (ds : List Declaration) (a : Admitted) → ((d : Declaration) → Contains ds d → Contains (unit_declarations u) d) → ((d : Declaration) → Contains ds d → Contains (written_types c) (a, d.declared))
        → (e : Entity) → Contains (entities ds) e → IsOneLine e.name × IsNarrowForm e.form
    listed_fit ds a more typed e has =
        let l = of_entities ds e has in
        subst (λ (x : Entity). IsOneLine x.name × IsNarrowForm x.form) l.same (
          word_in_line l.name_of.name (written.names u l.name_of among (in_flat_map (λ (d : Declaration). d.names) (unit_declarations u) l.declaration l.name_of (more l.declaration l.among) l.listed)),
          type_narrow c unbroken a l.declaration.declared (typed l.declaration l.among),
        )

    own_each : (e : Entity) → Contains (own_entities u) e → IsOneLine e.name × IsNarrowForm e.form
    own_each e has = by_variable (Contains-append_cases (entities u.inputs ++ entities u.outputs) (entities u.variables) e has)
      where
        by_input : Contains (entities u.inputs) e ⊎ Contains (entities u.outputs) e → IsOneLine e.name × IsNarrowForm e.form
        by_input (inl a) = listed_fit u.inputs ScalarsAlone (from_inputs u) (λ d h. input_typed c u d among h) e a
        by_input (inr a) = listed_fit u.outputs ScalarsAlone (from_outputs u) (λ d h. output_typed c u d among h) e a

        by_variable : Contains (entities u.inputs ++ entities u.outputs) e ⊎ Contains (entities u.variables) e → IsOneLine e.name × IsNarrowForm e.form
        by_variable (inl a) = by_input (Contains-append_cases (entities u.inputs) (entities u.outputs) e a)
        by_variable (inr a) = listed_fit u.variables (admitted_variables u.kind) (from_variables u) (λ d h. variable_typed c u d among h) e a

    own_fit : AreFit (own_entities u)
    own_fit = fit_by (own_entities u) (λ e has. let h = own_each e has in record { one = h.0; narrow = h.1; short = short_of (own_entities u) (own_named c unbroken written u among) e has })

    -- and of a function its result
    function_fit : AreFit (function_entities u)
    function_fit = each_append IsFit (own_entities u) (result_entities u.kind u.name.name) own_fit (by u.kind refl)
      where
        by : (k : UnitKind) → u.kind ≡ k → AreFit (result_entities k u.name.name)
        by FunctionBlock is = tt
        by Program is = tt
        by (Function s place) is = (
          record {
            one = word_in_line u.name.name (written.headings u among);
            narrow = type_narrow c unbroken ScalarsAlone (record { place = place; form = ScalarForm s })
                (result_typed c u (ScalarsAlone, record { place = place; form = ScalarForm s }) among (subst (λ (k : UnitKind). Contains (result_types k) (ScalarsAlone, record { place = place; form = ScalarForm s })) (sym is) (at_head _ [])));
            short = tt;
          },
          tt,
        )

  words_fit : (ws : List (Text × Elementary)) → all_of (λ w. has_none 10 w.0) ws ≡ true → AreFit (uninitialized (with_forms ws))
  words_fit [] e = tt
  words_fit (w ∷ ws) e =
      (record { one = without_by 10 w.0 (first_of_two (has_none 10 w.0) _ e); narrow = plain_narrow w.1; short = tt }, words_fit ws (second_of_two (has_none 10 w.0) _ e))

  block_fit : (block : Text) → AreFit (block_entities c block)
  block_fit = of_blocks c AreFit tt (λ b. subst AreFit (sym (words_are b)) (words_fit (all_words b) (all_in_line b))) (each_of (λ u. AreFit (own_entities u)) c.units own_fit)

  globals_fit : AreFit (entities c.globals)
  globals_fit = fit_by (entities c.globals) each
    where
      each : (e : Entity) → Contains (entities c.globals) e → IsFit e
      each e has =
          let l = of_entities c.globals e has in
          let of : IsOneLine e.name × IsNarrowForm e.form =
          subst (λ (x : Entity). IsOneLine x.name × IsNarrowForm x.form) l.same (
            word_in_line l.name_of.name (written.globals l.name_of (in_flat_map (λ (d : Declaration). d.names) c.globals l.declaration l.name_of l.among l.listed)),
            type_narrow c unbroken ScalarsAndArrays l.declaration.declared
                (Contains-append_right (flat_map unit_types c.units) (types_in ScalarsAndArrays c.globals) _ (in_map (λ (d : Declaration). (ScalarsAndArrays, d.declared)) c.globals l.declaration l.among)),
          ) in
          record { one = of.0; narrow = of.1; short = short_of (entities c.globals) (globals_named c unbroken written) e has }

-- CELLS

-- a cell whose path is on one line, and whose values have 64 bits
pub record IsFitCell (x : Cell) : Type 0 where
  pub one : IsOneLine x.path
  pub narrow : IsNarrowScalar x.scalar

abbrev pub AreFitCells : List Cell → Type 0
AreFitCells xs = AllByRecursion IsFitCell xs

under_line : (path name : Text) → IsOneLine path → IsOneLine name → IsOneLine (under path name)
under_line [] name h k = k
under_line (b ∷ path) name h k = both_without 10 (b ∷ path ++ codes ".") name (both_without 10 (b ∷ path) (codes ".") h (λ e. omega (arith, e), tt)) k

-- an element of an array
element_without : (stop : ℕ) → stop < 48 → (45 ≡ stop → ⊥) → (path : Text) (z : ℤ) → Without stop path → FitsSigned w64 z → Without stop (element_path path z)
element_without stop low minus path z h k =
    both_without stop (path ++ codes "[" ++ signed_decimal z) (codes "]")
    (both_without stop (path ++ codes "[") (signed_decimal z) (both_without stop path (codes "[") h (λ e. omega (arith, e, low), tt)) (signed_without stop low minus z k)) (λ e. omega (arith, e, low), tt)

-- the next element
module _ (z : ℤ) (n : ℕ) (short : IsShort z (suc n)) where
  index_fits : FitsSigned w64 z
  index_fits = fits z (omega (arith, ints, short.least)) (omega (arith, ints, short.most))

  next_short : IsShort (z +ℤ pos 1) n
  next_short = record { least = omega (arith, ints, short.least); most = omega (arith, ints, short.most) }

elements_fit : (n : ℕ) (path : Text) (z : ℤ) (s : Scalar) → IsOneLine path → IsNarrowScalar s → IsShort z n → AreFitCells (element_cells n path z s)
elements_fit zero path z s one narrow short = tt
elements_fit (suc n) path z s one narrow short =
    (record { one = element_without 10 (omega arith) (λ e. omega (arith, e)) path z one (index_fits z n short); narrow = narrow }, elements_fit n path (z +ℤ pos 1) s one narrow (next_short z n short))

module _ (inner : Text → Text → List Cell) (below : (path block : Text) → IsOneLine path → AreFitCells (inner path block)) where
  form_fit : (path : Text) (f : Form) → IsOneLine path → IsNarrowForm f → HasShort f → AreFitCells (cells_at inner path f)
  form_fit path (ScalarForm s) one narrow short = (record { one = one; narrow = narrow }, tt)
  form_fit path (ArrayForm bounds s) one narrow short = elements_fit (width bounds) path bounds.lower s one narrow short
  form_fit path (BlockForm block) one narrow short = below path block one

  entities_fit : (path : Text) (es : List Entity) → IsOneLine path → AreFit es → AreFitCells (entity_cells inner path es)
  entities_fit path [] one all = tt
  entities_fit path (e ∷ es) one all =
      each_append IsFitCell (cells_at inner (under path e.name) e.form) (entity_cells inner path es) (form_fit (under path e.name) e.form (under_line path e.name one all.0.one) all.0.narrow all.0.short) (entities_fit path es one all.1)

instances_fit : (c : Config) → ((block : Text) → AreFit (block_entities c block)) → (n : ℕ) (path block : Text) → IsOneLine path → AreFitCells (instance_cells n c path block)
instances_fit c blocks zero path block one = tt
instances_fit c blocks (suc n) path block one = entities_fit (instance_cells n c) (instances_fit c blocks n) path (block_entities c block) one (blocks block)

all_at : (P : Cell → Type 0) (xs : List Cell) → AllByRecursion P xs → (k : ℕ) (x : Cell) → slice_get xs k ≡ Some x → P x
all_at P [] all k x at = absurd (cc)
all_at P (y ∷ xs) all zero x at = subst P (same_Some y x at) all.0
all_at P (y ∷ xs) all (suc k) x at = all_at P xs all.1 k x at

module _ (c : Config) (unbroken : HasNoFault (Broken Declaring c)) (written : IsWritten c) where
  inner_fit : (n : ℕ) (path block : Text) → IsOneLine path → AreFitCells (instance_cells n c path block)
  inner_fit = instances_fit c (block_fit c unbroken written)

  functions_fit : (us : List ProgramUnit) → ((v : ProgramUnit) → Contains us v → Contains c.units v) → AreFitCells (functions_cells c us)
  functions_fit [] among = tt
  functions_fit (u ∷ us) among =
      let here = among u (at_head u us) in
      each_append IsFitCell (function_cells c u) (functions_cells c us)
      (entities_fit (instance_cells deepest c) (inner_fit deepest) u.name.name (function_entities u) (word_in_line u.name.name (written.headings u here)) (function_fit c unbroken written u here))
      (functions_fit us (λ v h. among v (in_tail u us v h)))

  -- the slots of a task's variables are such
  pub own_cells_fit : (u : ProgramUnit) → Contains c.units u → (k : ℕ) (x : Cell) → slice_get (own_cells c u) k ≡ Some x → IsFitCell x
  own_cells_fit u among =
      all_at IsFitCell (own_cells c u)
      (each_append IsFitCell (functions_cells c (task_functions c u)) _ (functions_fit (task_functions c u) (λ v has. (of_task_functions c u v has).0))
      (entities_fit (instance_cells deepest c) (inner_fit deepest) [] (own_entities u) tt (own_fit c unbroken written u among)))

  -- and those of globals
  pub global_cells_fit : (k : ℕ) (x : Cell) → slice_get (global_cells c) k ≡ Some x → IsFitCell x
  global_cells_fit = all_at IsFitCell (global_cells c) (entities_fit (instance_cells zero c) (inner_fit zero) [] (entities c.globals) tt (globals_fit c unbroken written))

-- NO POINT IN THE PATH OF A GLOBAL

abbrev HasNoPoint : Cell → Type 0
HasNoPoint x = Without 46 x.path

plain_without : (name : Text) → IsPlain name → Without 46 name
plain_without [] h = tt
plain_without (b ∷ bs) h = (h.0, plain_without bs h.2)

elements_pointless : (n : ℕ) (path : Text) (z : ℤ) (s : Scalar) → Without 46 path → IsShort z n → AllByRecursion HasNoPoint (element_cells n path z s)
elements_pointless zero path z s none short = tt
elements_pointless (suc n) path z s none short =
    (element_without 46 (omega arith) (λ e. omega (arith, e)) path z none (index_fits z n short), elements_pointless n path (z +ℤ pos 1) s none (next_short z n short))

form_pointless : (c : Config) (path : Text) (f : Form) → Without 46 path → HasShort f → AllByRecursion HasNoPoint (cells_at (instance_cells zero c) path f)
form_pointless c path (ScalarForm s) none short = (none, tt)
form_pointless c path (ArrayForm bounds s) none short = elements_pointless (width bounds) path bounds.lower s none short
form_pointless c path (BlockForm block) none short = tt

entities_pointless : (c : Config) (es : List Entity) → AreNamed es → AllByRecursion HasNoPoint (entity_cells (instance_cells zero c) [] es)
entities_pointless c [] named = tt
entities_pointless c (e ∷ es) named =
    each_append HasNoPoint (cells_at (instance_cells zero c) e.name e.form) (entity_cells (instance_cells zero c) [] es) (form_pointless c e.name e.form (plain_without e.name named.0) named.3) (entities_pointless c es named.4)

pub global_pointless : (c : Config) → HasNoFault (Broken Declaring c) → IsWritten c → (k : ℕ) (x : Cell) → slice_get (global_cells c) k ≡ Some x → Without 46 x.path
global_pointless c unbroken written = all_at HasNoPoint (global_cells c) (entities_pointless c (entities c.globals) (globals_named c unbroken written))
