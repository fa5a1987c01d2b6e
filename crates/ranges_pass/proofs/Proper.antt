-- Declared ranges: operations take each of them.
use Rattle.std.proofs.Common.{◌≡◌, zero, suc, Bool, true, false, ◌&&◌, if◌then◌else◌, List, [], ◌∷◌, ◌++◌, map, Option, Some, None, option_map, option_and_then, ℤ, pos, negsuc, ◌≤ℤ◌, refl, sym, ap, ◌∙◌, subst, arith}
use Rattle.std.specs.Prelude.{Contains, find, flat_map, int_le, bytes_eq}
use Rattle.std.proofs.lemmas.Int.{ints}
use Rattle.std.proofs.lemmas.List.Elements.{Contains-append_left, Contains-append_right}
use Rattle.il_syntax.specs.declared.tree.Config.{Config}
use Rattle.il_syntax.specs.declared.tree.Place.{Place}
use Rattle.il_syntax.specs.declared.tree.Unit.{Unit as ProgramUnit}
use Rattle.il_syntax.specs.declared.tree.UnitKind.{UnitKind}
use Rattle.il_syntax.specs.declared.tree.UnitKind.TheVariants.{Function, FunctionBlock, Program}
use Rattle.il_syntax.specs.declared.tree.Declaration.{Declaration}
use Rattle.il_syntax.specs.declared.tree.Named.{Named}
use Rattle.il_syntax.specs.declared.tree.Size.{Size}
use Rattle.il_syntax.specs.declared.tree.WrittenType.{WrittenType}
use Rattle.il_syntax.specs.declared.tree.Form.{Form}
use Rattle.il_syntax.specs.declared.tree.Form.TheVariants.{Scalar as OfScalar, Array as OfArray, Block as OfBlock}
use Rattle.il_syntax.specs.declared.tree.Scalar.{Scalar}
use Rattle.il_syntax.specs.declared.tree.Subrange.{Subrange}
use Rattle.il_syntax.specs.declared.tree.Elementary.{Elementary}
use Rattle.il_syntax.specs.declared.tree.Elementary.TheVariants.{Int, Time}
use Rattle.il_syntax.specs.declared.tree.Index.{Index}
use Rattle.il_syntax.specs.declared.tree.Index.TheVariants.{Number, Variable as ByVariable}
use Rattle.il_syntax.specs.declared.tree.Reference.{Reference}
use Rattle.il_syntax.specs.declared.tree.Reference.TheVariants.{Literal as OfLiteral, Variable as OfVariable, Element as OfElement, Member as OfMember}
use Rattle.il_syntax.specs.ElementaryTypes.{limits, is_whole}
use Rattle.ranges_interval.specs.declared.Interval.{Interval}
use Rattle.ranges_interval.specs.Interval.{IsWithin, IsOperand}
use Rattle.il_statics.specs.Limits.{cars_limits, floors_limits, slots_limits}
use Rattle.il_statics.specs.declared.names.StandardBlock.{StandardBlock}
use Rattle.il_statics.specs.declared.names.Origin.{Origin}
use Rattle.il_statics.specs.declared.names.Origin.TheVariants.{Input as AsInput, Output as AsOutput, Local as AsVariable, External as AsExternal}
use Rattle.il_statics.specs.Names.{Spelling, Variable, ImageName, image_of, image_name, is_predeclared, unit_named, own_variable, variables_of, result_of, with_origin, named_forms, sees, Meaning, MeansVariable, MeansUnit, MeansStandard, meaning, meant_variable, form_named, global_meaning, outer_meaning, or_else, entry_of, standard_block, standard_variables, own_block_variables, block_variables, function_block_named, is_function, is_function_block, standard_words, with_forms}
use Rattle.il_statics.specs.Declarations.{has_value, is_within, is_within_any, unless, Admitted, ScalarsAlone, ScalarsAndArrays, admitted_variables, types_in, unit_types, written_types, type_numbers, subrange_numbers, bounds_numbers, admits_arrays, result_types, sizes_of, size_outside, type_misplaced}
use Rattle.il_statics.specs.Faults.{BreaksDeclarations, empty_range, initial_outside, other_type, HasNoFault}
use Rattle.base_maps.specs.NameMap.{Text}
use Rattle.il_semantics.specs.Meaning.{denotation, direct, indexed_by, element_of, inside, member_of, inputs_of, outputs_of}
use Rattle.il_semantics.specs.Annotation.{interval, range, WithInterval, declared_known, known_by, form_range, declared_range}
use Rattle.ranges_laws.specs.Facts.{IsFineKnown}
use Rattle.ranges_laws.specs.Prepared.{IsFineDenotation, AreFineUnits}
use Rattle.ranges_laws.proofs.Fine.{plain_fine}
use Rattle.ranges_laws.proofs.Tests.{left_true, right_true, le_is, type_operand}

-- TYPES

-- operations take what a scalar declares, or an array's elements
abbrev pub IsFineForm : Form → Type 0
IsFineForm (OfScalar s) = IsFineKnown (declared_known s)
IsFineForm (OfArray bounds element) = IsFineKnown (declared_known element)
IsFineForm (OfBlock name) = Unit {0}

-- a subrange within limits
lies_within : (o : Option Subrange) (s : Subrange) → is_within_any o s.lower ≡ true → is_within_any o s.upper ≡ true → WithInterval (option_map interval o) (λ j. IsWithin (interval s) j)
lies_within None s e f = let bad : false ≡ true = e in cc
lies_within (Some r) s e f = (le_is _ _ (left_true _ _ e), le_is _ _ (right_true _ _ f))

subrange_fine : (e : Elementary) (s : Subrange) → (Contains (subrange_numbers e (Some s)) 22 → ⊥) → (Contains (subrange_numbers e (Some s)) 25 → ⊥) → IsOperand (interval s)
subrange_fine e s empty other = by_whole (is_whole e) empty other
  where
    by_test : (b : Bool) → (has_value e s.lower && has_value e s.upper && int_le s.lower s.upper) ≡ b → (Contains (unless b 22) 22 → ⊥) → IsOperand (interval s)
    by_test false is h = absurd (h (0, omega arith, refl))
    by_test true is h = type_operand e (interval s) (le_is _ _ (right_true _ _ is)) (lies_within (limits e) s (left_true _ _ (left_true _ _ is)) (right_true _ _ (left_true _ _ is)))

    by_whole : (b : Bool) → (Contains (if b then unless (has_value e s.lower && has_value e s.upper && int_le s.lower s.upper) 22 else 25 ∷ []) 22 → ⊥) → (Contains (if b then unless (has_value e s.lower && has_value e s.upper && int_le s.lower s.upper) 22 else 25 ∷ []) 25 → ⊥) → IsOperand (interval s)
    by_whole true h k = by_test (has_value e s.lower && has_value e s.upper && int_le s.lower s.upper) refl h
    by_whole false h k = absurd (k (0, omega arith, refl))

scalar_fine : (e : Elementary) (o : Option Subrange) → (Contains (subrange_numbers e o) 22 → ⊥) → (Contains (subrange_numbers e o) 25 → ⊥) → IsFineKnown (declared_known (record { elementary = e; subrange = o }))
scalar_fine e None h k = plain_fine e
scalar_fine e (Some s) h k = subrange_fine e s h k

form_fine : (c : Config) (admitted : Admitted) (f : Form) → (Contains (type_numbers c admitted f) 22 → ⊥) → (Contains (type_numbers c admitted f) 25 → ⊥) → IsFineForm f
unfolding type_numbers
form_fine c admitted (OfScalar s) h k = scalar_fine s.elementary s.subrange h k
form_fine c admitted (OfArray bounds element) h k =
    scalar_fine element.elementary element.subrange (λ x. h (Contains-append_right (unless (admits_arrays admitted) 25 ++ bounds_numbers bounds) (subrange_numbers element.elementary element.subrange) 22 x))
    (λ x. k (Contains-append_right (unless (admits_arrays admitted) 25 ++ bounds_numbers bounds) (subrange_numbers element.elementary element.subrange) 25 x))
form_fine c admitted (OfBlock name) h k = tt

-- LISTS OF VARIABLES

abbrev pub AllFine : List (Spelling × Form) → Type 0
AllFine [] = Unit {0}
AllFine (v ∷ vs) = IsFineForm v.1 × AllFine vs

all_append : (xs ys : List (Spelling × Form)) → AllFine xs → AllFine ys → AllFine (xs ++ ys)
all_append [] ys p q = q
all_append (x ∷ xs) ys p q = (p.0, all_append xs ys p.1 q)

all_names : (form : Form) → IsFineForm form → (ns : List Named) → AllFine (map (λ n. (n.name, form)) ns)
all_names form p [] = tt
all_names form p (n ∷ ns) = (p, all_names form p ns)

all_declared : (ds : List Declaration) → ((d : Declaration) → Contains ds d → IsFineForm d.declared.form) → AllFine (named_forms ds)
all_declared [] h = tt
all_declared (d ∷ ds) h =
    all_append (map (λ n. (n.name, d.declared.form)) d.names) (named_forms ds) (all_names d.declared.form (h d (0, omega arith, refl)) d.names) (all_declared ds (λ x (k, low, e). h x (suc k, omega arith, e)))

-- what is found is the first, or after it
first_or : {X : Type 0} (P : X → Type 0) (b : Bool) (x y : X) (more : Option X) → P x → (more ≡ Some y → P y) → (if b then Some x else more) ≡ Some y → P y
first_or P true x y more p q e = let same : x ≡ y = cc in subst P same p
first_or P false x y more p q e = q e

same_some : {X : Type 0} (x y : X) → Some x ≡ Some y → x ≡ y
same_some x y e = cc

-- the form of a word
entry_fine : (vs : List (Spelling × Form)) (word : Spelling) (f : Form) → AllFine vs → entry_of vs word ≡ Some f → IsFineForm f
entry_fine vs word f p e = by_entry (find (λ v. bytes_eq v.0 word) vs) (λ v is. found vs p v is) e
  where
    found : (vs : List (Spelling × Form)) → AllFine vs → (v : Spelling × Form) → find (λ v. bytes_eq v.0 word) vs ≡ Some v → IsFineForm v.1
    found [] p v is = let bad : None ≡ Some v = is in cc
    found (x ∷ vs) p v is = first_or (λ (v : Spelling × Form). IsFineForm v.1) (bytes_eq x.0 word) x v (find (λ v. bytes_eq v.0 word) vs) p.0 (found vs p.1 v) is

    by_entry : (o : Option (Spelling × Form)) → ((v : Spelling × Form) → o ≡ Some v → IsFineForm v.1) → option_map (λ v. v.1) o ≡ Some f → IsFineForm f
    by_entry None h e = let bad : ◌≡◌ {A = Option Form} None (Some f) = e in cc
    by_entry (Some v) h e = subst IsFineForm (same_some v.1 f e) (h v refl)

abbrev AllVariables : List Variable → Type 0
AllVariables [] = Unit {0}
AllVariables (v ∷ vs) = IsFineForm v.form × AllVariables vs

variables_append : (xs ys : List Variable) → AllVariables xs → AllVariables ys → AllVariables (xs ++ ys)
variables_append [] ys p q = q
variables_append (x ∷ xs) ys p q = (p.0, variables_append xs ys p.1 q)

variables_listed : (origin : Origin) (vs : List (Spelling × Form)) → AllFine vs → AllVariables (map (λ v. record { name = v.0; form = v.1; origin = origin }) vs)
variables_listed origin [] p = tt
variables_listed origin (v ∷ vs) p = (p.0, variables_listed origin vs p.1)

variable_found : (name : Spelling) (vs : List Variable) → AllVariables vs → (v : Variable) → find (λ v. bytes_eq v.name name) vs ≡ Some v → IsFineForm v.form
variable_found name [] p v e = let bad : None ≡ Some v = e in cc
variable_found name (x ∷ vs) p v e = first_or (λ (v : Variable). IsFineForm v.form) (bytes_eq x.name name) x v (find (λ v. bytes_eq v.name name) vs) p.0 (variable_found name vs p.1 v) e

-- the type of a declaration is among those that are written
in_types : (admitted : Admitted) (ds : List Declaration) (d : Declaration) → Contains ds d → Contains (types_in admitted ds) (admitted, d.declared)
in_types admitted [] d (n, low, e) = absurd (omega arith)
in_types admitted (x ∷ ds) d (zero, low, e) = (0, omega arith, ap (λ (y : Declaration). (admitted, y.declared)) e)
in_types admitted (x ∷ ds) d (suc n, low, e) = let more = in_types admitted ds d (n, omega arith, e) in (suc more.0, omega (arith, more.1), more.2)

in_flat : {X A : Type 0} (f : X → List A) (xs : List X) (x : X) (a : A) → Contains xs x → Contains (f x) a → Contains (flat_map f xs) a
in_flat f [] x a (n, low, e) h = absurd (omega arith)
in_flat f (y ∷ xs) x a (zero, low, e) h = Contains-append_left (f y) (flat_map f xs) a (subst (λ z. Contains (f z) a) (sym e) h)
in_flat f (y ∷ xs) x a (suc n, low, e) h = Contains-append_right (f y) (flat_map f xs) a (in_flat f xs x a (n, omega arith, e) h)

-- the unit of a name is one of the units
unit_there : (c : Config) (name : Spelling) (u : ProgramUnit) → unit_named c name ≡ Some u → Contains c.units u
unit_there c name u e = by_test (is_predeclared c name) e
  where
    found : (us : List ProgramUnit) → find (λ v. bytes_eq v.name.name name) us ≡ Some u → Contains us u
    found [] e = let bad : ◌≡◌ {A = Option ProgramUnit} None (Some u) = e in cc
    found (v ∷ us) e = by_name (bytes_eq v.name.name name) (found us) e
      where
        by_name : (b : Bool) → (find (λ v. bytes_eq v.name.name name) us ≡ Some u → Contains us u) → (if b then Some v else find (λ v. bytes_eq v.name.name name) us) ≡ Some u → Contains (v ∷ us) u
        by_name true more e = (0, omega arith, same_some v u e)
        by_name false more e = let m = more e in (suc m.0, omega (arith, m.1), m.2)

    by_test : (b : Bool) → (if b then None else find (λ v. bytes_eq v.name.name name) c.units) ≡ Some u → Contains c.units u
    by_test true e = let bad : ◌≡◌ {A = Option ProgramUnit} None (Some u) = e in cc
    by_test false e = found c.units e

-- the same of one of a kind
kind_there : (c : Config) (is_it : ProgramUnit → Bool) (name : Spelling) (u : ProgramUnit) → option_and_then (λ x. if is_it x then Some x else None) (unit_named c name) ≡ Some u → Contains c.units u
kind_there c is_it name u e = by_unit (unit_named c name) refl e
  where
    by_kind : (x : ProgramUnit) (b : Bool) → (if b then Some x else None) ≡ Some u → x ≡ u
    by_kind x true e = same_some x u e
    by_kind x false e = let bad : None ≡ Some u = e in cc

    by_unit : (o : Option ProgramUnit) → unit_named c name ≡ o → option_and_then (λ x. if is_it x then Some x else None) o ≡ Some u → Contains c.units u
    by_unit None is e = let bad : ◌≡◌ {A = Option ProgramUnit} None (Some u) = e in cc
    by_unit (Some x) is e = unit_there c name u (is ∙ ap Some (by_kind x (is_it x) e))

-- NAMES OF THE IMAGE

-- sizes within their limits
record AreSizes (cars floors slots : ℤ) : Type 0 where
  cars_low : pos 1 ≤ℤ cars
  cars_high : cars ≤ℤ pos 8
  floors_low : pos 2 ≤ℤ floors
  floors_high : floors ≤ℤ pos 16
  slots_low : pos 1 ≤ℤ slots
  slots_high : slots ≤ℤ pos 64

abbrev AllImages : List ImageName → Type 0
AllImages [] = Unit {0}
AllImages (i ∷ is) = IsFineForm i.variable.form × AllImages is

find_image : (name : Spelling) (is : List ImageName) → AllImages is → (i : ImageName) → find (λ i. bytes_eq i.variable.name name) is ≡ Some i → IsFineForm i.variable.form
find_image name [] p i e = let bad : None ≡ Some i = e in cc
find_image name (x ∷ is) p i e = first_or (λ (i : ImageName). IsFineForm i.variable.form) (bytes_eq x.variable.name name) x i (find (λ i. bytes_eq i.variable.name name) is) p.0 (find_image name is p.1 i) e

-- INT within limits that lie in it
small : (a b : ℤ) → negsuc 32767 ≤ℤ a → a ≤ℤ b → b ≤ℤ pos 32767 → IsOperand (record { lo = a; hi = b })
small a b low up high = type_operand Int (record { lo = a; hi = b }) up (low, high)

images_fine : (cars floors slots : ℤ) → AreSizes cars floors slots → AllImages (image_of cars floors slots)
images_fine cars floors slots s =
    (small cars cars (omega (arith, ints)) (omega (arith, ints)) (omega (arith, ints)), (small floors floors (omega (arith, ints)) (omega (arith, ints)) (omega (arith, ints)), (small slots slots (omega (arith, ints)) (omega (arith, ints)) (omega (arith, ints)), (plain_fine Time, (small (pos 0) cars (omega (arith, ints)) (omega (arith, ints)) (omega (arith, ints)), (tt, (small (pos 1) cars (omega (arith, ints)) (omega (arith, ints)) (omega (arith, ints)), (small (pos 1) floors (omega (arith, ints)) (omega (arith, ints)) (omega (arith, ints)), (tt, (tt, (tt, (tt, (tt, (small (pos 1) floors (omega (arith, ints)) (omega (arith, ints)) (omega (arith, ints)), (small (negsuc 0) (pos 1) (omega (arith, ints)) (omega (arith, ints)) (omega (arith, ints)), (tt, (small (pos 0) floors (omega (arith, ints)) (omega (arith, ints)) (omega (arith, ints)), (small (pos 0) floors (omega (arith, ints)) (omega (arith, ints)) (omega (arith, ints)), (small (pos 0) cars (omega (arith, ints)) (omega (arith, ints)) (omega (arith, ints)), (small (negsuc 0) (pos 1) (omega (arith, ints)) (omega (arith, ints)) (omega (arith, ints)), (tt, (small (pos 0) slots (omega (arith, ints)) (omega (arith, ints)) (omega (arith, ints)), (small (pos 0) cars (omega (arith, ints)) (omega (arith, ints)) (omega (arith, ints)), tt)))))))))))))))))))))))

-- STANDARD BLOCKS

block_fine : (ws : List (Spelling × Elementary)) → AllFine (with_forms ws)
block_fine [] = tt
block_fine (w ∷ ws) = (plain_fine w.1, block_fine ws)

module _ (c : Config) (unbroken : HasNoFault (BreaksDeclarations c)) where
  written_fine : (t : Admitted × WrittenType) → Contains (written_types c) t → IsFineForm t.1.form
  written_fine t among =
      form_fine c t.0 t.1.form (λ k. unbroken 22 t.1.place (empty_range refl (t, among, k, refl))) (λ k. unbroken 25 t.1.place (other_type refl (type_misplaced (t, among, k, refl))))

  in_unit : (u : ProgramUnit) → Contains c.units u → (t : Admitted × WrittenType) → Contains (unit_types u) t → IsFineForm t.1.form
  in_unit u there t among = written_fine t (Contains-append_left (flat_map unit_types c.units) (types_in ScalarsAndArrays c.globals) t (in_flat unit_types c.units u t there among))

  -- UNITS

  result_fine : (u : ProgramUnit) → Contains c.units u → (s : Scalar) (place : Place) → u.kind ≡ Function s place → IsFineKnown (declared_known s)
  result_fine u there s place is =
      in_unit u there (ScalarsAlone, record { place = place; form = OfScalar s })
      (Contains-append_left (((result_types u.kind ++ types_in ScalarsAlone u.inputs) ++ types_in ScalarsAlone u.outputs) ++ types_in (admitted_variables u.kind) u.variables) (types_in ScalarsAndArrays u.externals) _
      (Contains-append_left ((result_types u.kind ++ types_in ScalarsAlone u.inputs) ++ types_in ScalarsAlone u.outputs) (types_in (admitted_variables u.kind) u.variables) _
      (Contains-append_left (result_types u.kind ++ types_in ScalarsAlone u.inputs) (types_in ScalarsAlone u.outputs) _
      (Contains-append_left (result_types u.kind) (types_in ScalarsAlone u.inputs) _ (subst (λ k. Contains (result_types k) (ScalarsAlone, record { place = place; form = OfScalar s })) (sym is) (0, omega arith, refl))))))

  inputs_fine : (u : ProgramUnit) → Contains c.units u → AllFine (named_forms u.inputs)
  inputs_fine u there = all_declared u.inputs (λ d among. in_unit u there (ScalarsAlone, d.declared)
      (Contains-append_left (((result_types u.kind ++ types_in ScalarsAlone u.inputs) ++ types_in ScalarsAlone u.outputs) ++ types_in (admitted_variables u.kind) u.variables) (types_in ScalarsAndArrays u.externals) _
      (Contains-append_left ((result_types u.kind ++ types_in ScalarsAlone u.inputs) ++ types_in ScalarsAlone u.outputs) (types_in (admitted_variables u.kind) u.variables) _
      (Contains-append_left (result_types u.kind ++ types_in ScalarsAlone u.inputs) (types_in ScalarsAlone u.outputs) _
      (Contains-append_right (result_types u.kind) (types_in ScalarsAlone u.inputs) _ (in_types ScalarsAlone u.inputs d among))))))

  outputs_fine : (u : ProgramUnit) → Contains c.units u → AllFine (named_forms u.outputs)
  outputs_fine u there = all_declared u.outputs (λ d among. in_unit u there (ScalarsAlone, d.declared)
      (Contains-append_left (((result_types u.kind ++ types_in ScalarsAlone u.inputs) ++ types_in ScalarsAlone u.outputs) ++ types_in (admitted_variables u.kind) u.variables) (types_in ScalarsAndArrays u.externals) _
      (Contains-append_left ((result_types u.kind ++ types_in ScalarsAlone u.inputs) ++ types_in ScalarsAlone u.outputs) (types_in (admitted_variables u.kind) u.variables) _
      (Contains-append_right (result_types u.kind ++ types_in ScalarsAlone u.inputs) (types_in ScalarsAlone u.outputs) _ (in_types ScalarsAlone u.outputs d among)))))

  locals_fine : (u : ProgramUnit) → Contains c.units u → AllFine (named_forms u.variables)
  locals_fine u there = all_declared u.variables (λ d among. in_unit u there (admitted_variables u.kind, d.declared)
      (Contains-append_left (((result_types u.kind ++ types_in ScalarsAlone u.inputs) ++ types_in ScalarsAlone u.outputs) ++ types_in (admitted_variables u.kind) u.variables) (types_in ScalarsAndArrays u.externals) _
      (Contains-append_right ((result_types u.kind ++ types_in ScalarsAlone u.inputs) ++ types_in ScalarsAlone u.outputs) (types_in (admitted_variables u.kind) u.variables) _ (in_types (admitted_variables u.kind) u.variables d among))))

  externals_fine : (u : ProgramUnit) → Contains c.units u → AllFine (named_forms u.externals)
  externals_fine u there = all_declared u.externals (λ d among. in_unit u there (ScalarsAndArrays, d.declared)
      (Contains-append_right (((result_types u.kind ++ types_in ScalarsAlone u.inputs) ++ types_in ScalarsAlone u.outputs) ++ types_in (admitted_variables u.kind) u.variables) (types_in ScalarsAndArrays u.externals) _ (in_types ScalarsAndArrays u.externals d among)))

  result_variables : (u : ProgramUnit) → Contains c.units u → (k : UnitKind) → u.kind ≡ k → AllVariables (result_of k u.name.name)
  result_variables u there (Function s place) is = (result_fine u there s place is, tt)
  result_variables u there FunctionBlock is = tt
  result_variables u there Program is = tt

  own_fine : (u : ProgramUnit) → Contains c.units u → (name : Spelling) (v : Variable) → own_variable u name ≡ Some v → IsFineForm v.form
  own_fine u there name v e =
      variable_found name (variables_of u)
      (variables_append (((result_of u.kind u.name.name ++ with_origin AsInput u.inputs) ++ with_origin AsOutput u.outputs) ++ with_origin AsVariable u.variables) (with_origin AsExternal u.externals)
      (variables_append ((result_of u.kind u.name.name ++ with_origin AsInput u.inputs) ++ with_origin AsOutput u.outputs) (with_origin AsVariable u.variables)
      (variables_append (result_of u.kind u.name.name ++ with_origin AsInput u.inputs) (with_origin AsOutput u.outputs)
      (variables_append (result_of u.kind u.name.name) (with_origin AsInput u.inputs) (result_variables u there u.kind refl) (variables_listed AsInput (named_forms u.inputs) (inputs_fine u there))) (variables_listed AsOutput (named_forms u.outputs) (outputs_fine u there)))
      (variables_listed AsVariable (named_forms u.variables) (locals_fine u there))) (variables_listed AsExternal (named_forms u.externals) (externals_fine u there))) v e

  -- THE IMAGE

  size_within : (s : Size × Subrange) → Contains (sizes_of c) s → is_within s.1 s.0.value ≡ true
  size_within s among = by_test (is_within s.1 s.0.value) refl
    where
      by_test : (b : Bool) → is_within s.1 s.0.value ≡ b → is_within s.1 s.0.value ≡ true
      by_test true e = e
      by_test false e = absurd (unbroken 23 s.0.place (initial_outside refl (size_outside s among e refl)))

  sizes_are : AreSizes c.cars.value c.floors.value c.slots.value
  sizes_are =
      let cars = size_within (c.cars, cars_limits) (0, omega arith, refl) in
      let floors = size_within (c.floors, floors_limits) (1, omega arith, refl) in
      let slots = size_within (c.slots, slots_limits) (2, omega arith, refl) in
      record {
        cars_low = le_is _ _ (left_true _ _ cars);
        cars_high = le_is _ _ (right_true _ _ cars);
        floors_low = le_is _ _ (left_true _ _ floors);
        floors_high = le_is _ _ (right_true _ _ floors);
        slots_low = le_is _ _ (left_true _ _ slots);
        slots_high = le_is _ _ (right_true _ _ slots);
      }

  image_fine : (name : Spelling) (i : ImageName) → image_name c name ≡ Some i → IsFineForm i.variable.form
  unfolding image_name
  image_fine name i e = find_image name (image_of c.cars.value c.floors.value c.slots.value) (images_fine c.cars.value c.floors.value c.slots.value sizes_are) i e

  -- ANY NAME

  -- the form of what a name means, if it is a variable
  abbrev IsFineMeaning : Option Meaning → Type 0
  IsFineMeaning (Some (MeansVariable v)) = IsFineForm v.form
  IsFineMeaning _ = Unit {0}

  global_fine : (name : Spelling) → IsFineMeaning (global_meaning c name)
  global_fine name = by_unit (unit_named c name) (is_predeclared c name)
    where
      by_unit : (o : Option ProgramUnit) (b : Bool) → IsFineMeaning (or_else (option_map MeansUnit o) (if b then Some MeansStandard else None))
      by_unit (Some u) b = tt
      by_unit None true = tt
      by_unit None false = tt

  seen_fine : (b : Bool) (v : Variable) → IsFineForm v.form → IsFineMeaning (if b then Some (MeansVariable v) else None)
  seen_fine true v p = p
  seen_fine false v p = tt

  outer_fine : (u : ProgramUnit) (name : Spelling) (o : Option ImageName) → ((i : ImageName) → o ≡ Some i → IsFineForm i.variable.form) → IsFineMeaning (outer_meaning c u name o)
  outer_fine u name None p = global_fine name
  outer_fine u name (Some i) p = seen_fine (sees c u i) i.variable (p i refl)

  means_fine : (o : Option Variable) (other : Option Meaning) → ((v : Variable) → o ≡ Some v → IsFineForm v.form) → IsFineMeaning other → IsFineMeaning (or_else (option_map MeansVariable o) other)
  means_fine None other p q = q
  means_fine (Some v) other p q = p v refl

  meaning_fine : (u : ProgramUnit) → Contains c.units u → (name : Spelling) → IsFineMeaning (meaning c u name)
  unfolding meaning
  meaning_fine u there name = means_fine (own_variable u name) (outer_meaning c u name (image_name c name)) (own_fine u there name) (outer_fine u name (image_name c name) (image_fine name))

  by_meaning : (m : Option Meaning) (f : Form) → IsFineMeaning m → option_map (λ (v : Variable). v.form) (meant_variable m) ≡ Some f → IsFineForm f
  by_meaning (Some (MeansVariable v)) f p e = subst IsFineForm (same_some v.form f e) p
  by_meaning (Some (MeansUnit u)) f p e = let bad : ◌≡◌ {A = Option Form} None (Some f) = e in cc
  by_meaning (Some MeansStandard) f p e = let bad : ◌≡◌ {A = Option Form} None (Some f) = e in cc
  by_meaning None f p e = let bad : ◌≡◌ {A = Option Form} None (Some f) = e in cc

  -- the type of a name
  form_is_fine : (u : ProgramUnit) → Contains c.units u → (name : Spelling) (f : Form) → form_named c u name ≡ Some f → IsFineForm f
  form_is_fine u there name f e = by_meaning (meaning c u name) f (meaning_fine u there name) e

  -- BLOCKS

  words_fine : (block : Text) → AllFine (inputs_of (block_variables c block)) × AllFine (outputs_of (block_variables c block))
  unfolding block_variables
  words_fine block = by_standard (standard_block block)
    where
      by_own : (o : Option ProgramUnit) → function_block_named c block ≡ o → AllFine (inputs_of (option_map own_block_variables o)) × AllFine (outputs_of (option_map own_block_variables o))
      by_own None e = (tt, tt)
      by_own (Some u) e = let there = kind_there c is_function_block block u e in (inputs_fine u there, outputs_fine u there)

      by_standard : (o : Option StandardBlock) → AllFine (inputs_of (or_else (option_map standard_variables o) (option_map own_block_variables (function_block_named c block)))) × AllFine (outputs_of (or_else (option_map standard_variables o) (option_map own_block_variables (function_block_named c block))))
      by_standard (Some b) = (block_fine (standard_words b).inputs, block_fine (standard_words b).outputs)
      by_standard None = by_own (function_block_named c block) refl

  -- what blocks and functions declare
  pub units_fine : AreFineUnits c
  units_fine = record {
    outputs = λ block word s e. entry_fine (outputs_of (block_variables c block)) word (OfScalar s) (words_fine block).1 e;
    results = λ name own s place named is. result_fine own (kind_there c is_function name own named) s place is;
  }

  -- the declared range of a name
  pub declared_operand : (u : ProgramUnit) → Contains c.units u → (name : Spelling) (i : Interval) → declared_range c u name ≡ Some i → IsOperand i
  declared_operand u there name i e = by_form (form_named c u name) refl e
    where
      by_range : (t : Elementary) (o : Option Interval) → IsFineKnown (known_by t o) → o ≡ Some i → IsOperand i
      by_range t None p e = let bad : None ≡ Some i = e in cc
      by_range t (Some j) p e = subst IsOperand (same_some j i e) p

      by_form : (o : Option Form) → form_named c u name ≡ o → option_and_then form_range o ≡ Some i → IsOperand i
      by_form None is e = let bad : ◌≡◌ {A = Option Interval} None (Some i) = e in cc
      by_form (Some (OfScalar s)) is e = by_range s.elementary (range s) (form_is_fine u there name (OfScalar s) is) e
      by_form (Some (OfArray bounds element)) is e = let bad : ◌≡◌ {A = Option Interval} None (Some i) = e in cc
      by_form (Some (OfBlock block)) is e = let bad : ◌≡◌ {A = Option Interval} None (Some i) = e in cc

  -- what an operand declares
  pub denotes_fine : (u : ProgramUnit) → Contains c.units u → (r : Reference) → IsFineDenotation (denotation c u r)
  denotes_fine u there (OfLiteral l) = tt
  denotes_fine u there (OfVariable name) = by_form (form_named c u name)
    where
      by_form : (o : Option Form) → IsFineDenotation (direct name o)
      by_form None = tt
      by_form (Some (OfScalar s)) = tt
      by_form (Some (OfArray bounds element)) = tt
      by_form (Some (OfBlock block)) = tt
  denotes_fine u there (OfElement name index) = by_form (form_named c u name) refl index
    where
      by_variable : (bounds : Subrange) (element : Scalar) (v : Spelling) (o : Option Form) → IsFineKnown (declared_known element) → IsFineDenotation (indexed_by name bounds element v o)
      by_variable bounds element v None p = tt
      by_variable bounds element v (Some (OfScalar s)) p = p
      by_variable bounds element v (Some (OfArray b e)) p = tt
      by_variable bounds element v (Some (OfBlock block)) p = tt

      by_form : (o : Option Form) → form_named c u name ≡ o → (index : Index) → IsFineDenotation (element_of (form_named c u) name index o)
      by_form None is index = tt
      by_form (Some (OfScalar s)) is index = tt
      by_form (Some (OfArray bounds element)) is (Number z) = form_is_fine u there name (OfArray bounds element) is
      by_form (Some (OfArray bounds element)) is (ByVariable v) = by_variable bounds element v (form_named c u v) (form_is_fine u there name (OfArray bounds element) is)
      by_form (Some (OfBlock block)) is index = tt
  denotes_fine u there (OfMember instance word) = by_form (form_named c u instance)
    where
      by_word : (block : Text) (o : Option Form) → ((f : Form) → o ≡ Some f → IsFineForm f) → IsFineDenotation (inside instance word o)
      by_word block None h = tt
      by_word block (Some (OfScalar s)) h = h (OfScalar s) refl
      by_word block (Some (OfArray bounds element)) h = tt
      by_word block (Some (OfBlock b)) h = tt

      by_either : (block : Text) (f : Form) (o p : Option Form) → entry_of (outputs_of (block_variables c block)) word ≡ o → entry_of (inputs_of (block_variables c block)) word ≡ p → or_else o p ≡ Some f → IsFineForm f
      by_either block f (Some x) p is also e = entry_fine (outputs_of (block_variables c block)) word f (words_fine block).1 (is ∙ e)
      by_either block f None p is also e = entry_fine (inputs_of (block_variables c block)) word f (words_fine block).0 (also ∙ e)

      by_form : (o : Option Form) → IsFineDenotation (member_of c instance word o)
      by_form None = tt
      by_form (Some (OfScalar s)) = tt
      by_form (Some (OfArray bounds element)) = tt
      by_form (Some (OfBlock block)) = by_word block (or_else (entry_of (outputs_of (block_variables c block)) word) (entry_of (inputs_of (block_variables c block)) word)) (λ f e. by_either block f (entry_of (outputs_of (block_variables c block)) word) (entry_of (inputs_of (block_variables c block)) word) refl refl e)
