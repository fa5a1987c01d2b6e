-- The premises on names and types, from the rules of declarations.
use Rattle.std.proofs.Common.{◌≡◌, Bool, true, false, List, [], ◌++◌, refl, sym, ap, ◌∙◌, Some, None, Option, subst, codes, arith, ◌⊎◌, inl, inr}
use Rattle.std.proofs.lemmas.List.Elements.{Contains-append_left, Contains-append_right, Contains-append_cases}
use Rattle.std.proofs.lemmas.Option.{same_Some}
use Rattle.std.proofs.lemmas.Slice.Eq.{bytes_eq-Decides}
use Rattle.std.specs.Prelude.{Contains, option_map, option_and_then, flat_map, if◌then◌else◌, ◌&&◌, ◌||◌, is_some, bytes_eq}
use Rattle.il_syntax.specs.ElementaryTypes.{plain}
use Rattle.il_syntax.specs.declared.tree.Elementary.TheVariants.{Time}
use Rattle.il_syntax.specs.declared.tree.Config.{Config}
use Rattle.il_syntax.specs.declared.tree.Unit.{Unit as ProgramUnit}
use Rattle.il_syntax.specs.declared.tree.UnitKind.{UnitKind}
use Rattle.il_syntax.specs.declared.tree.UnitKind.TheVariants.{Function, FunctionBlock, Program}
use Rattle.il_syntax.specs.declared.tree.Scalar.{Scalar}
use Rattle.il_syntax.specs.declared.tree.Place.{Place}
use Rattle.il_syntax.specs.declared.tree.Declaration.{Declaration}
use Rattle.il_syntax.specs.declared.tree.WrittenType.{WrittenType}
use Rattle.il_syntax.specs.declared.tree.Form.{Form}
use Rattle.il_syntax.specs.declared.tree.Form.TheVariants.{Scalar as ScalarForm, Array as ArrayForm, Block as BlockForm}
use Rattle.il_statics.specs.declared.names.StandardBlock.{StandardBlock}
use Rattle.il_statics.specs.declared.names.Audience.TheVariants.{Everybody}
use Rattle.il_statics.specs.declared.names.Role.{Role}
use Rattle.il_statics.specs.declared.names.Role.TheVariants.{Car as CarRole, Group as GroupRole}
use Rattle.il_statics.specs.Names.{Variable, ImageName, image_read, image_name, sees, standard_block, standard_function, standard_variables, BlockVariables, block_variables, own_block_variables, named_forms, own_variable, is_program, is_function_block, is_seen_by, program_role, is_predeclared, unit_named, function_named, function_block_named, program_named, meaning, MeansVariable, meant_variable, outer_meaning, form_named, or_else}
use Rattle.il_statics.specs.Declarations.{Admitted, ScalarsAlone, ScalarsAndArrays, types_in, result_types, admitted_variables, unit_types, written_types, type_numbers, instance_numbers, unit_declarations, unknown_type, type_misplaced}
use Rattle.il_statics.specs.Faults.{unknown, empty_range, other_type, HasNoFault, Broken, Declaring}
use Rattle.base_maps.specs.NameMap.{Text}
use Rattle.il_semantics_laws.specs.Agreement.{HasVariable}
use Rattle.il_statics.specs.Written.{IsWord}
use Rattle.il_semantics_laws.specs.Soundness.{HasWordNames, HasBlockWords, HasBlocks, BlocksSeeTheirOwn, InstancesAreNoFunctions, InputsAreSeen}
use Rattle.il_statics.specs.Written.{IsWritten}
use Rattle.il_semantics_laws.proofs.Blocks.{words_of}
use Rattle.il_statics.proofs.Every.{contains_all, first_of_two, second_of_two}
use Rattle.il_semantics_laws.proofs.Words.{is_word, is_no_block, word_by, words_good, apart_good, one_form, images_are_words, one_by_name, images_apart}
use Rattle.il_semantics_laws.proofs.Named.{found_unit, function_is_unit}
use Rattle.il_semantics_laws.proofs.Running.{block_is_unit, not_predeclared as is_no_standard}
use Rattle.il_semantics_laws.proofs.Lists.{in_nothing, at_head, in_map, in_flat_map, found_in, finds_some}
use Rattle.il_semantics_laws.proofs.Declared.{IsListed, listed, listed_name, entry, wider, from_inputs, from_outputs, from_variables, Owned, as_result, as_input, as_output, as_variable, as_external, owned_by_name, declared_in, images, Imaged, means, declared_once, no_unit, not_predeclared, input_means, output_means, variable_means}

-- UNITS BY NAME AND KIND

of_kind : (test : ProgramUnit → Bool) (o : Option ProgramUnit) (v : ProgramUnit) → option_and_then (λ u. if test u then Some u else None) o ≡ Some v → (o ≡ Some v) × (test v ≡ true)
of_kind test None v e = cc
of_kind test (Some w) v e = by_test (test w) refl e
  where
    by_test : (b : Bool) → test w ≡ b → (if b then Some w else None) ≡ Some v → (Some w ≡ Some v) × (test v ≡ true)
    by_test true is e = (e, ap test (sym (same_Some w v e)) ∙ is)
    by_test false is e = cc

pub program_is : (c : Config) (name : Text) (v : ProgramUnit) → program_named c name ≡ Some v → (unit_named c name ≡ Some v) × (is_program v ≡ true)
program_is c name v e = of_kind is_program (unit_named c name) v e

pub block_is : (c : Config) (name : Text) (v : ProgramUnit) → function_block_named c name ≡ Some v → (unit_named c name ≡ Some v) × (is_function_block v ≡ true)
block_is c name v e = of_kind is_function_block (unit_named c name) v e

pub function_among : (c : Config) (name : Text) (v : ProgramUnit) → function_named c name ≡ Some v → Contains c.units v
function_among c name v e = found_unit c name v (function_is_unit c name v e).0

pub block_among : (c : Config) (name : Text) (v : ProgramUnit) → function_block_named c name ≡ Some v → Contains c.units v
block_among c name v e = found_unit c name v (block_is_unit c name v e)

-- THE IMAGE

pub image_is : (c : Config) (i : ImageName) → Contains (images c) i → IsWord i.variable.name × (is_no_block i.variable.form ≡ true)
image_is c i among =
    let both = contains_all (λ (j : ImageName). is_word j.variable.name && is_no_block j.variable.form) (images c) i (images_are_words c.cars.value c.floors.value c.slots.value) among in
    (word_by i.variable.name (first_of_two _ _ both), second_of_two (is_word i.variable.name) _ both)

no_image_instance : (c : Config) (u : ProgramUnit) (name block : Text) → Imaged c u name (BlockForm block) → ⊥
no_image_instance c u name block i = let never : false ≡ true = ap is_no_block (sym i.formed) ∙ (image_is c i.image i.among).1 in cc

-- TYPES

unit_typed : (c : Config) (u : ProgramUnit) (t : Admitted × WrittenType) → Contains c.units u → Contains (unit_types u) t → Contains (written_types c) t
unit_typed c u t among has = Contains-append_left (flat_map unit_types c.units) (types_in ScalarsAndArrays c.globals) t (in_flat_map unit_types c.units u t among has)

abbrev upto_inputs : ProgramUnit → List (Admitted × WrittenType)
upto_inputs u = result_types u.kind ++ types_in ScalarsAlone u.inputs

abbrev upto_outputs : ProgramUnit → List (Admitted × WrittenType)
upto_outputs u = upto_inputs u ++ types_in ScalarsAlone u.outputs

abbrev upto_variables : ProgramUnit → List (Admitted × WrittenType)
upto_variables u = upto_outputs u ++ types_in (admitted_variables u.kind) u.variables

in_types : (a : Admitted) (ds : List Declaration) (d : Declaration) → Contains ds d → Contains (types_in a ds) (a, d.declared)
in_types a ds d among = in_map (λ (e : Declaration). (a, e.declared)) ds d among

pub result_typed : (c : Config) (u : ProgramUnit) (t : Admitted × WrittenType) → Contains c.units u → Contains (result_types u.kind) t → Contains (written_types c) t
result_typed c u t among has =
    unit_typed c u t among (Contains-append_left (upto_variables u) (types_in ScalarsAndArrays u.externals) t (Contains-append_left (upto_outputs u) (types_in (admitted_variables u.kind) u.variables) t (Contains-append_left (upto_inputs u) (types_in ScalarsAlone u.outputs) t (Contains-append_left (result_types u.kind) (types_in ScalarsAlone u.inputs) t has))))

pub input_typed : (c : Config) (u : ProgramUnit) (d : Declaration) → Contains c.units u → Contains u.inputs d → Contains (written_types c) (ScalarsAlone, d.declared)
input_typed c u d among has =
    unit_typed c u _ among (Contains-append_left (upto_variables u) (types_in ScalarsAndArrays u.externals) _ (Contains-append_left (upto_outputs u) (types_in (admitted_variables u.kind) u.variables) _ (Contains-append_left (upto_inputs u) (types_in ScalarsAlone u.outputs) _ (Contains-append_right (result_types u.kind) (types_in ScalarsAlone u.inputs) _ (in_types ScalarsAlone u.inputs d has)))))

pub output_typed : (c : Config) (u : ProgramUnit) (d : Declaration) → Contains c.units u → Contains u.outputs d → Contains (written_types c) (ScalarsAlone, d.declared)
output_typed c u d among has =
    unit_typed c u _ among (Contains-append_left (upto_variables u) (types_in ScalarsAndArrays u.externals) _ (Contains-append_left (upto_outputs u) (types_in (admitted_variables u.kind) u.variables) _ (Contains-append_right (upto_inputs u) (types_in ScalarsAlone u.outputs) _ (in_types ScalarsAlone u.outputs d has))))

pub variable_typed : (c : Config) (u : ProgramUnit) (d : Declaration) → Contains c.units u → Contains u.variables d → Contains (written_types c) (admitted_variables u.kind, d.declared)
variable_typed c u d among has =
    unit_typed c u _ among (Contains-append_left (upto_variables u) (types_in ScalarsAndArrays u.externals) _ (Contains-append_right (upto_outputs u) (types_in (admitted_variables u.kind) u.variables) _ (in_types (admitted_variables u.kind) u.variables d has)))

pub external_typed : (c : Config) (u : ProgramUnit) (d : Declaration) → Contains c.units u → Contains u.externals d → Contains (written_types c) (ScalarsAndArrays, d.declared)
external_typed c u d among has = unit_typed c u _ among (Contains-append_right (upto_variables u) (types_in ScalarsAndArrays u.externals) _ (in_types ScalarsAndArrays u.externals d has))

module _ (c : Config) (unbroken : HasNoFault (Broken Declaring c)) where
  pub no_21 : (a : Admitted) (t : WrittenType) → Contains (written_types c) (a, t) → ¬ Contains (type_numbers c a t.form) 21
  no_21 a t among has = unbroken 21 t.place (unknown refl (unknown_type ((a, t), among, has, refl)))

  pub no_22 : (a : Admitted) (t : WrittenType) → Contains (written_types c) (a, t) → ¬ Contains (type_numbers c a t.form) 22
  no_22 a t among has = unbroken 22 t.place (empty_range refl ((a, t), among, has, refl))

  pub no_25 : (a : Admitted) (t : WrittenType) → Contains (written_types c) (a, t) → ¬ Contains (type_numbers c a t.form) 25
  no_25 a t among has = unbroken 25 t.place (other_type refl (type_misplaced ((a, t), among, has, refl)))

  -- where scalars alone may be, one does (25)
  pub is_scalar : (t : WrittenType) → Contains (written_types c) (ScalarsAlone, t) → (s : Scalar) × (t.form ≡ ScalarForm s)
  unfolding type_numbers
  is_scalar t among = by_form t.form refl
    where
      by_block : (block : Text) → t.form ≡ BlockForm block → (o : Option BlockVariables) → block_variables c block ≡ o → ⊥
      by_block block is None none = no_21 ScalarsAlone t among (subst (λ (f : Form). Contains (type_numbers c ScalarsAlone f) 21) (sym is) (subst (λ o. Contains (instance_numbers ScalarsAlone o) 21) (sym none) (at_head 21 [])))
      by_block block is (Some b) some = no_25 ScalarsAlone t among (subst (λ (f : Form). Contains (type_numbers c ScalarsAlone f) 25) (sym is) (subst (λ o. Contains (instance_numbers ScalarsAlone o) 25) (sym some) (at_head 25 [])))

      by_form : (f : Form) → t.form ≡ f → (s : Scalar) × (t.form ≡ ScalarForm s)
      by_form (ScalarForm s) is = (s, is)
      by_form (ArrayForm bounds e) is = absurd (no_25 ScalarsAlone t among (subst (λ (f : Form). Contains (type_numbers c ScalarsAlone f) 25) (sym is) (at_head 25 _)))
      by_form (BlockForm block) is = absurd (by_block block is (block_variables c block) refl)

  -- a type's name is a block's (21)
  pub is_block : (a : Admitted) (t : WrittenType) (block : Text) → Contains (written_types c) (a, t) → t.form ≡ BlockForm block → (b : BlockVariables) × (block_variables c block ≡ Some b)
  unfolding type_numbers
  is_block a t block among is = by_block (block_variables c block) refl
    where
      by_block : (o : Option BlockVariables) → block_variables c block ≡ o → (b : BlockVariables) × (block_variables c block ≡ Some b)
      by_block None none = absurd (no_21 a t among (subst (λ (f : Form). Contains (type_numbers c a f) 21) (sym is) (subst (λ o. Contains (instance_numbers a o) 21) (sym none) (at_head 21 []))))
      by_block (Some b) some = (b, some)

  -- an external is no instance (25)
  pub no_instance : (t : WrittenType) (block : Text) → Contains (written_types c) (ScalarsAndArrays, t) → t.form ≡ BlockForm block → ⊥
  unfolding type_numbers
  no_instance t block among is =
      let b = is_block ScalarsAndArrays t block among is in
      no_25 ScalarsAndArrays t among (subst (λ (f : Form). Contains (type_numbers c ScalarsAndArrays f) 25) (sym is) (subst (λ o. Contains (instance_numbers ScalarsAndArrays o) 25) (sym b.1) (at_head 25 [])))

  -- an instance is among a unit's variables, and is one of a block (21, 25)
  own_instance : (u : ProgramUnit) (name block : Text) → Contains c.units u → Owned u name (BlockForm block) → IsListed u.variables name (BlockForm block) × ((b : BlockVariables) × (block_variables c block ≡ Some b))
  own_instance u name block among (as_result s place kind same is) = cc
  own_instance u name block among (as_input l) = let s = is_scalar l.declaration.declared (input_typed c u l.declaration among l.among) in let never : BlockForm block ≡ ScalarForm s.0 = sym l.formed ∙ s.1 in cc
  own_instance u name block among (as_output l) = let s = is_scalar l.declaration.declared (output_typed c u l.declaration among l.among) in let never : BlockForm block ≡ ScalarForm s.0 = sym l.formed ∙ s.1 in cc
  own_instance u name block among (as_variable l) = (l, is_block (admitted_variables u.kind) l.declaration.declared block (variable_typed c u l.declaration among l.among) l.formed)
  own_instance u name block among (as_external l) = absurd (no_instance l.declaration.declared block (external_typed c u l.declaration among l.among) l.formed)

  pub instance_of : (u : ProgramUnit) (name block : Text) → Contains c.units u → form_named c u name ≡ Some (BlockForm block) → IsListed u.variables name (BlockForm block) × ((b : BlockVariables) × (block_variables c block ≡ Some b))
  instance_of u name block among e = by_way (means c u name (BlockForm block) e)
    where
      by_way : Owned u name (BlockForm block) ⊎ Imaged c u name (BlockForm block) → IsListed u.variables name (BlockForm block) × ((b : BlockVariables) × (block_variables c block ≡ Some b))
      by_way (inl o) = own_instance u name block among o
      by_way (inr i) = absurd (no_image_instance c u name block i)

  -- THE PREMISES

  pub has_blocks : HasBlocks c
  has_blocks u name block among e = (instance_of u name block among e).1

  pub instances_apart : InstancesAreNoFunctions c
  instances_apart u f name block function among e is same =
      no_unit c unbroken u f among (function_among c function f is) name (BlockForm block) (wider u.variables (unit_declarations u) (from_variables u) name (BlockForm block) (instance_of u name block among e).0) (sym same)

  pub inputs_seen : InputsAreSeen c
  inputs_seen f function e is among = input_means c unbroken f (function_among c function f is) e.0 e.1 (listed f.inputs e.0 e.1 among)

-- WORDS

module _ (c : Config) (written : IsWritten c) where
  listed_word : (u : ProgramUnit) (name : Text) (form : Form) → Contains c.units u → IsListed (unit_declarations u) name form → IsWord name
  listed_word u name form among l = subst IsWord l.spelled (written.names u l.name_of among (listed_name (unit_declarations u) name form l))

  pub has_words : HasWordNames c
  has_words u among name form e = by_way (means c u name form e)
    where
      by_own : ((s : Scalar) × (place : Place) × (u.kind ≡ Function s place) × (u.name.name ≡ name) × (ScalarForm s ≡ form)) ⊎ IsListed (unit_declarations u) name form → IsWord name
      by_own (inl r) = subst IsWord r.3 (written.headings u among)
      by_own (inr l) = listed_word u name form among l

      by_way : Owned u name form ⊎ Imaged c u name form → IsWord name
      by_way (inl o) = by_own (declared_in u name form o)
      by_way (inr i) = subst IsWord i.spelled (image_is c i.image i.among).0

-- BLOCKS

pub own_are : (c : Config) (block : Text) (v : ProgramUnit) → function_block_named c block ≡ Some v → block_variables c block ≡ Some (own_block_variables v)
unfolding block_variables
own_are c block v e =
    ap (λ o. or_else (option_map standard_variables o) (option_map own_block_variables (function_block_named c block))) (is_no_standard c block v (block_is_unit c block v e))
    ∙ ap (λ o. option_map own_block_variables o) e

-- what a word of a block is
pub data WordOf (c : Config) (block word : Text) (form : Form) : Type 0 where
  of_standard : (s : StandardBlock) → standard_block block ≡ Some s → Contains (words_of s) (word, form) → WordOf c block word form
  of_own : (v : ProgramUnit) → function_block_named c block ≡ Some v → IsListed (unit_declarations v) word form → WordOf c block word form

own_listed : (v : ProgramUnit) (word : Text) (form : Form) → Contains (named_forms v.inputs ++ named_forms v.outputs ++ named_forms v.variables) (word, form) → IsListed (unit_declarations v) word form
own_listed v word form among = by_inner (Contains-append_cases (named_forms v.inputs ++ named_forms v.outputs) (named_forms v.variables) (word, form) among)
  where
    by_input : Contains (named_forms v.inputs) (word, form) ⊎ Contains (named_forms v.outputs) (word, form) → IsListed (unit_declarations v) word form
    by_input (inl a) = wider v.inputs (unit_declarations v) (from_inputs v) word form (listed v.inputs word form a)
    by_input (inr a) = wider v.outputs (unit_declarations v) (from_outputs v) word form (listed v.outputs word form a)

    by_inner : Contains (named_forms v.inputs ++ named_forms v.outputs) (word, form) ⊎ Contains (named_forms v.variables) (word, form) → IsListed (unit_declarations v) word form
    by_inner (inl a) = by_input (Contains-append_cases (named_forms v.inputs) (named_forms v.outputs) (word, form) a)
    by_inner (inr a) = wider v.variables (unit_declarations v) (from_variables v) word form (listed v.variables word form a)

pub word_of : (c : Config) (block word : Text) (form : Form) → HasVariable c block word form → WordOf c block word form
unfolding block_variables
word_of c block word form h = by_block (standard_block block) refl (function_block_named c block) refl h.1
  where
    by_block : (o : Option StandardBlock) → standard_block block ≡ o → (t : Option ProgramUnit) → function_block_named c block ≡ t → or_else (option_map standard_variables o) (option_map own_block_variables t) ≡ Some h.0 → WordOf c block word form
    by_block (Some s) is t at e = let same = same_Some _ _ e in of_standard s is (subst (λ (b : BlockVariables). Contains (b.inputs ++ b.outputs ++ b.inner) (word, form)) (sym same) h.2)
    by_block None is (Some v) at e = let same = same_Some _ _ e in of_own v at (own_listed v word form (subst (λ (b : BlockVariables). Contains (b.inputs ++ b.outputs ++ b.inner) (word, form)) (sym same) h.2))
    by_block None is None at e = cc

listed_entry : (ds : List Declaration) (name : Text) (form : Form) → IsListed ds name form → Contains (named_forms ds) (name, form)
listed_entry ds name form l =
    subst (λ (f : Form). Contains (named_forms ds) (name, f)) l.formed (subst (λ (t : Text). Contains (named_forms ds) (t, l.declaration.declared.form)) l.spelled (entry ds l.declaration l.name_of l.among l.listed))

is_no_program : (k : UnitKind) (v : ProgramUnit) → v.kind ≡ k → is_function_block v ≡ true → (k ≡ FunctionBlock) × (is_program v ≡ false)
is_no_program (Function s place) v is block = let never = ap (λ (k : UnitKind). is_function_block (record v { kind = k })) (sym is) ∙ block in cc
is_no_program FunctionBlock v is block = (refl, ap (λ (k : UnitKind). is_program (record v { kind = k })) is)
is_no_program Program v is block = let never = ap (λ (k : UnitKind). is_function_block (record v { kind = k })) (sym is) ∙ block in cc

module _ (c : Config) (written : IsWritten c) (unbroken : HasNoFault (Broken Declaring c)) where
  pub has_block_words : HasBlockWords c
  has_block_words = record { words = words; once = once }
    where
      words : (block word : Text) (form : Form) → HasVariable c block word form → IsWord word
      words block word form h = by_way (word_of c block word form h)
        where
          by_way : WordOf c block word form → IsWord word
          by_way (of_standard s is among) = word_by word (contains_all (λ (e : Text × Form). is_word e.0) (words_of s) (word, form) (words_good s) among)
          by_way (of_own v is l) = listed_word c written v word form (block_among c block v is) l

      once : (block word : Text) (form other : Form) → HasVariable c block word form → HasVariable c block word other → form ≡ other
      once block word form other h k = by_way (word_of c block word form h) (word_of c block word other k)
        where
          by_way : WordOf c block word form → WordOf c block word other → form ≡ other
          by_way (of_standard s is among) (of_standard t js also) = one_form (words_of s) word form other (apart_good s) among (subst (λ (b : StandardBlock). Contains (words_of b) (word, other)) (same_Some t s (sym js ∙ is)) also)
          by_way (of_standard s is among) (of_own v js l) = let never : Some s ≡ None = sym is ∙ is_no_standard c block v (block_is_unit c block v js) in cc
          by_way (of_own v is l) (of_standard s js among) = let never : Some s ≡ None = sym js ∙ is_no_standard c block v (block_is_unit c block v is) in cc
          by_way (of_own v is l) (of_own w js k) = declared_once c unbroken v (block_among c block v is) word form other l (subst (λ (x : ProgramUnit). IsListed (unit_declarations x) word other) (same_Some w v (sym js ∙ is)) k)

  -- a variable of an own block means itself in its body (20)
  pub block_means : (block : Text) (v : ProgramUnit) → function_block_named c block ≡ Some v → (word : Text) (form : Form) → HasVariable c block word form → form_named c v word ≡ Some form
  block_means block v is word form h =
      let same : own_block_variables v ≡ h.0 = same_Some _ _ (sym (own_are c block v is) ∙ h.1) in
      by_variable (Contains-append_cases (named_forms v.inputs ++ named_forms v.outputs) (named_forms v.variables) (word, form) (subst (λ (b : BlockVariables). Contains (b.inputs ++ b.outputs ++ b.inner) (word, form)) (sym same) h.2))
    where
      among : Contains c.units v
      among = block_among c block v is

      by_input : Contains (named_forms v.inputs) (word, form) ⊎ Contains (named_forms v.outputs) (word, form) → form_named c v word ≡ Some form
      by_input (inl a) = input_means c unbroken v among word form (listed v.inputs word form a)
      by_input (inr a) = output_means c unbroken v among word form (listed v.outputs word form a)

      by_variable : Contains (named_forms v.inputs ++ named_forms v.outputs) (word, form) ⊎ Contains (named_forms v.variables) (word, form) → form_named c v word ≡ Some form
      by_variable (inl a) = by_input (Contains-append_cases (named_forms v.inputs) (named_forms v.outputs) (word, form) a)
      by_variable (inr a) = variable_means c unbroken v among word form (listed v.variables word form a)

  pub blocks_see : BlocksSeeTheirOwn c
  blocks_see block v name form is e = by_way (means c v name form e)
    where
      kind : (v.kind ≡ FunctionBlock) × (is_program v ≡ false)
      kind = is_no_program v.kind v refl (block_is c block v is).1

      has : Contains (named_forms v.inputs ++ named_forms v.outputs ++ named_forms v.variables) (name, form) → HasVariable c block name form
      has among = (own_block_variables v, own_are c block v is, among)

      by_own : Owned v name form → HasVariable c block name form
      by_own (as_result s place at same formed) = let never : Function s place ≡ FunctionBlock = sym at ∙ kind.0 in cc
      by_own (as_input l) = has (Contains-append_left (named_forms v.inputs ++ named_forms v.outputs) (named_forms v.variables) _ (Contains-append_left (named_forms v.inputs) (named_forms v.outputs) _ (listed_entry v.inputs name form l)))
      by_own (as_output l) = has (Contains-append_left (named_forms v.inputs ++ named_forms v.outputs) (named_forms v.variables) _ (Contains-append_right (named_forms v.inputs) (named_forms v.outputs) _ (listed_entry v.outputs name form l)))
      by_own (as_variable l) = has (Contains-append_right (named_forms v.inputs ++ named_forms v.outputs) (named_forms v.variables) _ (listed_entry v.variables name form l))
      by_own (as_external l) = absurd (in_nothing l.declaration (subst (λ ds. Contains ds l.declaration) (written.externals v (block_among c block v is) kind.1) l.among))

      by_way : Owned v name form ⊎ Imaged c v name form → HasVariable c block name form
      by_way (inl o) = by_own o
      by_way (inr i) = let never : true ≡ false = sym i.program ∙ kind.1 in cc

-- IMAGE NAMES

-- an image name is found by its name
image_by_name : (c : Config) (i : ImageName) → Contains (images c) i → image_name c i.variable.name ≡ Some i
unfolding image_name
image_by_name c i among =
    let found = finds_some (λ (j : ImageName). bytes_eq j.variable.name i.variable.name) (images c) i among ((bytes_eq-Decides i.variable.name i.variable.name).1 refl) in
    let r = found_in (λ (j : ImageName). bytes_eq j.variable.name i.variable.name) (images c) found.0 found.1 in
    found.1 ∙ ap Some (one_by_name (λ (j : ImageName). j.variable.name) (images c) found.0 i (images_apart c.cars.value c.floors.value c.slots.value) r.0 among ((bytes_eq-Decides found.0.variable.name i.variable.name).0 r.1))

-- and predeclared
image_taken : (c : Config) (i : ImageName) → Contains (images c) i → is_predeclared c i.variable.name ≡ true
image_taken c i among = ap (λ o. is_some o || is_some (standard_function i.variable.name) || is_some (standard_block i.variable.name)) (image_by_name c i among)

-- an image name that a program sees means its variable there (20)
pub image_means : (c : Config) → HasNoFault (Broken Declaring c) → (p : ProgramUnit) → Contains c.units p → is_program p ≡ true → (i : ImageName) → Contains (images c) i → sees c p i ≡ true → form_named c p i.variable.name ≡ Some i.variable.form
unfolding meaning
image_means c unbroken p among program i has seen =
    ap (λ o. option_map (λ (x : Variable). x.form) (meant_variable (or_else (option_map MeansVariable o) (outer_meaning c p i.variable.name (image_name c i.variable.name))))) (hides_none (own_variable p i.variable.name) refl)
    ∙ ap (λ o. option_map (λ (x : Variable). x.form) (meant_variable (outer_meaning c p i.variable.name o))) (image_by_name c i has)
    ∙ ap (λ b. option_map (λ (x : Variable). x.form) (meant_variable (if b then Some (MeansVariable i.variable) else None))) seen
  where
    is_none : (v : Variable) → ((s : Scalar) × (place : Place) × (p.kind ≡ Function s place) × (p.name.name ≡ i.variable.name) × (ScalarForm s ≡ v.form)) ⊎ IsListed (unit_declarations p) i.variable.name v.form → ⊥
    is_none v (inl r) = let never : false ≡ true = sym (ap (λ (k : UnitKind). is_program (record p { kind = k })) r.2) ∙ program in cc
    is_none v (inr l) = not_predeclared c unbroken p among i.variable.name v.form l (image_taken c i has)

    hides_none : (o : Option Variable) → own_variable p i.variable.name ≡ o → own_variable p i.variable.name ≡ None
    hides_none None is = is
    hides_none (Some v) is = absurd (is_none v (declared_in p i.variable.name v.form (owned_by_name p i.variable.name v is)))

-- TIME

abbrev now_image : ImageName
now_image = image_read (codes "NOW") Everybody (ScalarForm (plain Time))

seen_by_all : (r : Option Role) → is_seen_by r Everybody ≡ true
seen_by_all None = refl
seen_by_all (Some CarRole) = refl
seen_by_all (Some GroupRole) = refl

pub time_is_seen : (c : Config) → HasNoFault (Broken Declaring c) → (p : ProgramUnit) → Contains c.units p → is_program p ≡ true → form_named c p (codes "NOW") ≡ Some (ScalarForm (plain Time))
time_is_seen c unbroken p among program =
    image_means c unbroken p among program now_image (3, omega arith, refl) (ap (λ b. b && is_seen_by (program_role c p.name.name c.programs) Everybody) program ∙ seen_by_all (program_role c p.name.name c.programs))
