-- Calls in flat code are calls of the tree.
use Rattle.std.proofs.Common.{◌≡◌, ℕ, suc, Bool, true, false, List, [], ◌∷◌, map, slice_get, refl, sym, ap, ap₂, ◌∙◌, Option, Some, None}
use Rattle.std.specs.Prelude.{option_map, option_and_then, bytes_eq, if◌then◌else◌}
use Rattle.std.proofs.lemmas.Option.{same_Some}
use Rattle.il_syntax.specs.declared.tree.Condition.{Condition}
use Rattle.il_syntax.specs.declared.tree.Argument.{Argument}
use Rattle.il_syntax.specs.declared.tree.Argument.TheVariants.{Input, Output}
use Rattle.il_syntax.specs.declared.tree.Reference.TheVariants.{Variable}
use Rattle.il_syntax.specs.declared.tree.Form.{Form}
use Rattle.il_syntax.specs.declared.tree.Form.TheVariants.{Scalar as ScalarForm, Array as ArrayForm, Block as BlockForm}
use Rattle.il_syntax.specs.declared.tree.Unit.{Unit as ProgramUnit}
use Rattle.il_syntax.specs.declared.tree.Config.{Config}
use Rattle.il_statics.specs.declared.names.StandardBlock.{StandardBlock}
use Rattle.il_statics.specs.Names.{or_else, entry_of, is_predeclared, block_variables, standard_block, function_block_named, is_function_block, unit_named, form_named}
use Rattle.il_statics.specs.Declarations.{names_of_units}
use Rattle.base_maps.specs.NameMap.{Text}
use Rattle.il_semantics.specs.Meaning.{block_entities, inputs_of, outputs_of, denotation}
use Rattle.load_scope.specs.declared.entry.BlockType.{BlockType}
use Rattle.load_scope.specs.declared.entry.BlockType.TheVariants.{Standard, Own}
use Rattle.load_scope.specs.declared.entry.VariableType.TheVariants.{Instance}
use Rattle.load_scope.proofs.Laws.{function_block_found}
use Rattle.load_slots.proofs.Declared.{own as is_own}
use Rattle.load_scope.specs.Views.{type_of, place_of, unit_number, passes, block_type, function_block_number}
use Rattle.load_slots.specs.declared.flat.Flat.{Flat}
use Rattle.load_slots.specs.declared.flat.Flat.TheVariants.{Call as FlatCall, CallStandard}
use Rattle.load_code.specs.declared.operands.Known.{Known}
use Rattle.load_slots.specs.Cells.{offset_in}
use Rattle.load_slots.specs.Flattened.{Names, slot_of, operand_of, untyped, literal_for, slot_of_form, slot_in, assignments, copies, calls, calls_form}
use Rattle.load_slots.specs.Places.{capped, form_width, block_width}
use Rattle.load_slots.specs.Making.{IsChecked}
use Rattle.load_slots.specs.Whole.{number_in}
use Rattle.load_slots.specs.Program.{program_names}
use Rattle.load_code.specs.Resolving.{known, input_known, output_known, resolve, by_resolved, literal_known, slot_known, inputs_at, outputs_at, type_call, call_of}
use Rattle.load_slots.proofs.Counted.{IsBlock, of_standard, of_own, of_none, which_block}
use Rattle.load_code.proofs.Resolve.{resolved_is, word_led, input_is, output_is}

-- NUMBERS OF UNITS

place_number : (us : List ProgramUnit) (q : Text) (k : ℕ) → place_of (map (λ u. u.name.name) us) q ≡ Some k → number_in us q ≡ k
place_number [] q k is = cc
place_number (u ∷ us) q k is = by_test (bytes_eq u.name.name q) is (place_number us q)
  where
    by_test : (b : Bool) → (if b then Some 0 else option_map (λ j. suc j) (place_of (map (λ u. u.name.name) us) q)) ≡ Some k → ((j : ℕ) → place_of (map (λ u. u.name.name) us) q ≡ Some j → number_in us q ≡ j) → (if b then 0 else suc (number_in us q)) ≡ k
    by_test true e more = same_Some 0 k e
    by_test false e more = by_place (place_of (map (λ u. u.name.name) us) q) refl e
      where
        by_place : (o : Option ℕ) → place_of (map (λ u. u.name.name) us) q ≡ o → option_map (λ j. suc j) o ≡ Some k → suc (number_in us q) ≡ k
        by_place None at h = cc
        by_place (Some j) at h = ap suc (more j at) ∙ same_Some (suc j) k h

-- the number that a test leaves of a name's is that of the first unit of the name
pub number_is : (c : Config) (name : Text) (test : ProgramUnit → Bool) (k : ℕ) → option_and_then (λ j. if passes test (slice_get c.units j) then Some j else None) (unit_number c name) ≡ Some k → number_in c.units name ≡ k
unfolding unit_number
number_is c name test k is = by_predeclared (is_predeclared c name) is
  where
    by_test : (j : ℕ) (b : Bool) → (if b then Some j else None) ≡ Some k → j ≡ k
    by_test j true e = same_Some j k e
    by_test j false e = cc

    by_place : (o : Option ℕ) → place_of (names_of_units c) name ≡ o → option_and_then (λ j. if passes test (slice_get c.units j) then Some j else None) o ≡ Some k → number_in c.units name ≡ k
    by_place None at e = cc
    by_place (Some j) at e = place_number c.units name j at ∙ by_test j (passes test (slice_get c.units j)) e

    by_predeclared : (b : Bool) → option_and_then (λ j. if passes test (slice_get c.units j) then Some j else None) (if b then None else place_of (names_of_units c) name) ≡ Some k → number_in c.units name ≡ k
    by_predeclared true e = cc
    by_predeclared false e = by_place (place_of (names_of_units c) name) refl e

pub own_number : (c : Config) (name : Text) (k : ℕ) → function_block_number c name ≡ Some k → number_in c.units name ≡ k
unfolding function_block_number
own_number c name k is = number_is c name is_function_block k is

-- BLOCKS OF NAMES

not_standard : (c : Config) (name : Text) (v : ProgramUnit) → function_block_named c name ≡ Some v → standard_block name ≡ None
not_standard c name v is = (is_own c name v is).not_standard

own_of_block : (c : Config) (name : Text) (k : ℕ) → block_type c name ≡ Some (Own k) → number_in c.units name ≡ k
unfolding block_type
own_of_block c name k is = by_standard (standard_block name) is
  where
    by_number : (o : Option ℕ) → function_block_number c name ≡ o → option_map Own o ≡ Some (Own k) → number_in c.units name ≡ k
    by_number None at e = cc
    by_number (Some j) at e = own_number c name j at ∙ (let same : Own j ≡ Own k = same_Some (Own j) (Own k) e in let one : j ≡ k = cc in one)

    by_standard : (s : Option StandardBlock) → or_else (option_map (λ b. Standard b) s) (option_map Own (function_block_number c name)) ≡ Some (Own k) → number_in c.units name ≡ k
    by_standard (Some s) e = let never : Standard s ≡ Own k = same_Some (Standard s) (Own k) e in cc
    by_standard None e = by_number (function_block_number c name) refl e

no_standard_block : (c : Config) (name : Text) → block_type c name ≡ None → standard_block name ≡ None
unfolding block_type
no_standard_block c name is = by_standard (standard_block name) is
  where
    by_standard : (s : Option StandardBlock) → or_else (option_map (λ b. Standard b) s) (option_map Own (function_block_number c name)) ≡ None → s ≡ None
    by_standard (Some s) e = cc
    by_standard None e = refl

no_own_block : (c : Config) (name : Text) → block_type c name ≡ None → function_block_named c name ≡ None
unfolding block_type
no_own_block c name is = by_standard (standard_block name) is
  where
    by_number : (o : Option ℕ) → function_block_number c name ≡ o → option_map Own o ≡ None → function_block_named c name ≡ None
    by_number None at e = sym (function_block_found c name) ∙ ap (option_and_then (slice_get c.units)) at
    by_number (Some j) at e = cc

    by_standard : (s : Option StandardBlock) → or_else (option_map (λ b. Standard b) s) (option_map Own (function_block_number c name)) ≡ None → function_block_named c name ≡ None
    by_standard (Some s) e = cc
    by_standard None e = by_number (function_block_number c name) refl e

-- ARGUMENTS

module _ (c : Config) (checked : IsChecked c) (u : ProgramUnit) (itself : unit_named c u.name.name ≡ Some u) (instance name : Text) (form : form_named c u instance ≡ Some (BlockForm name)) (b : BlockType) (is : block_type c name ≡ Some b) where
  abbrev n : Names
  n = program_names c u.name.name

  abbrev word_entry : Text → Form → Known
  word_entry word f = record { declared = type_of c f; offset = capped (offset_in (form_width (block_width 17 c)) (block_entities c name) word) }

  slot_is : (word : Text) (o : Option Form) → slot_known (n.offset instance) (option_map (word_entry word) o) ≡ slot_of_form o (n.word instance word)
  slot_is word None = refl
  slot_is word (Some (ScalarForm s)) = ap (slot_of s) (word_led c checked u itself instance name word form)
  slot_is word (Some (ArrayForm bounds element)) = refl
  slot_is word (Some (BlockForm block)) = refl

  literal_is : (word : Text) (o : Option Form) → literal_known (option_map (word_entry word) o) ≡ literal_for o
  literal_is word None = refl
  literal_is word (Some (ScalarForm s)) = refl
  literal_is word (Some (ArrayForm bounds element)) = refl
  literal_is word (Some (BlockForm block)) = refl

  pub inputs_are : (arguments : List Argument) → inputs_at c u b (n.offset instance) arguments ≡ assignments n c u instance (inputs_of (block_variables c name)) arguments
  inputs_are [] = refl
  inputs_are (Output word to ∷ more) = inputs_are more
  inputs_are (Input word operand ∷ more) =
      let o : Option Form = entry_of (inputs_of (block_variables c name)) word.name in
      let known_as : input_known c b word.name ≡ option_map (word_entry word.name) o = input_is c checked u itself name b is word.name in
      ap₂ (λ to as_. record { to = to; from = as_ } ∷ inputs_at c u b (n.offset instance) more)
      (ap (slot_known (n.offset instance)) known_as ∙ slot_is word.name o)
      (ap (λ k. by_resolved (literal_known k) (resolve c u operand.reference)) known_as ∙ ap (λ f. by_resolved f (resolve c u operand.reference)) (literal_is word.name o)
      ∙ resolved_is c checked u itself (literal_for o) operand.reference)
      ∙ ap (λ xs. record { to = slot_of_form o (n.word instance word.name); from = operand_of n (literal_for o) (denotation c u operand.reference) } ∷ xs) (inputs_are more)

  pub outputs_are : (arguments : List Argument) → outputs_at c u b (n.offset instance) arguments ≡ copies n c u instance (outputs_of (block_variables c name)) arguments
  outputs_are [] = refl
  outputs_are (Input word operand ∷ more) = outputs_are more
  outputs_are (Output word to ∷ more) =
      let o : Option Form = entry_of (outputs_of (block_variables c name)) word.name in
      let known_as : output_known c b word.name ≡ option_map (word_entry word.name) o = output_is c checked u itself name b is word.name in
      ap₂ (λ from as_. record { from = from; to = slot_in as_ } ∷ outputs_at c u b (n.offset instance) more)
      (ap (slot_known (n.offset instance)) known_as ∙ slot_is word.name o)
      (resolved_is c checked u itself untyped (Variable to.name))
      ∙ ap (λ xs. record { from = slot_of_form o (n.word instance word.name); to = slot_in (operand_of n untyped (denotation c u (Variable to.name))) } ∷ xs) (outputs_are more)

-- CALLS

module _ (c : Config) (checked : IsChecked c) (u : ProgramUnit) (itself : unit_named c u.name.name ≡ Some u) (condition : Condition) (instance : Text) (arguments : List Argument) where
  abbrev names : Names
  names = program_names c u.name.name

  abbrev called_as : Option BlockType → Flat
  called_as o = type_call c u condition arguments (Instance o) (names.offset instance)

  -- of a block
  block_called : (name : Text) → form_named c u instance ≡ Some (BlockForm name) → (o : Option BlockType) → IsBlock c name o → block_type c name ≡ o
      → called_as (block_type c name) ≡ calls names c u condition instance arguments name (standard_block name) (function_block_named c name)
  block_called name form _ (of_standard s o stands e) is =
      ap called_as (is ∙ e)
      ∙ ap₂ (λ xs ys. CallStandard condition s (names.offset instance) xs ys)
      (inputs_are c checked u itself instance name form (Standard s) (is ∙ e) arguments) (outputs_are c checked u itself instance name form (Standard s) (is ∙ e) arguments)
      ∙ ap (λ x. calls names c u condition instance arguments name x (function_block_named c name)) (sym stands)
  block_called name form _ (of_own k o v e) is =
      ap called_as (is ∙ e)
      ∙ ap₂ (λ xs ys. FlatCall condition k (names.offset instance) xs ys)
      (inputs_are c checked u itself instance name form (Own k) (is ∙ e) arguments) (outputs_are c checked u itself instance name form (Own k) (is ∙ e) arguments)
      ∙ ap (λ j. FlatCall condition j (names.offset instance) (assignments names c u instance (inputs_of (block_variables c name)) arguments) (copies names c u instance (outputs_of (block_variables c name)) arguments)) (sym (own_of_block c name k (is ∙ e)))
      ∙ ap₂ (λ x y. calls names c u condition instance arguments name x y) (sym (not_standard c name v.unit v.is)) (sym v.is)
  block_called name form _ (of_none o nothing e) is = ap called_as (is ∙ e) ∙ ap₂ (λ x y. calls names c u condition instance arguments name x y) (sym (no_standard_block c name (is ∙ e))) (sym (no_own_block c name (is ∙ e)))

  -- a call of an instance
  call_by_form : (f : Option Form) → form_named c u instance ≡ f → call_of c u condition arguments (option_map (λ g. record { declared = type_of c g; offset = names.offset instance }) f) ≡ calls_form names c u condition instance arguments f
  call_by_form None is = refl
  call_by_form (Some (ScalarForm s)) is = refl
  call_by_form (Some (ArrayForm bounds element)) is = refl
  call_by_form (Some (BlockForm name)) is = block_called name is (block_type c name) (which_block c name) refl

  pub call_is : call_of c u condition arguments (known c u instance) ≡ calls_form names c u condition instance arguments (form_named c u instance)
  call_is = call_by_form (form_named c u instance) refl
