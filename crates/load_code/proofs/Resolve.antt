-- Names resolve to what they denote.
use Rattle.std.proofs.Common.{◌≡◌, ℕ, ◌+◌, ◌<◌, ◌≤◌, ◌^◌, Bool, true, false, List, [], ◌∷◌, ◌++◌, append_assoc, map, length, drop, get_or, slice_get, refl, sym, ap, ap₂, ◌∙◌, subst, Option, Some, None, ℤ, pos, neg_ℤ, ◌+ℤ◌, ◌≤ℤ◌, arith}
use Rattle.std.specs.Prelude.{option_map, option_and_then, Contains, bytes_eq, if◌then◌else◌}
use Rattle.std.proofs.lemmas.Int.{ints}
use Rattle.std.proofs.lemmas.List.{drop_more}
use Rattle.std.proofs.lemmas.Option.{same_Some}
use Rattle.il_syntax.specs.declared.tree.Subrange.{Subrange}
use Rattle.il_syntax.specs.declared.tree.Form.{Form}
use Rattle.il_syntax.specs.declared.tree.Form.TheVariants.{Scalar as ScalarForm, Array as ArrayForm, Block as BlockForm}
use Rattle.il_syntax.specs.declared.tree.Argument.{Argument}
use Rattle.il_syntax.specs.declared.tree.Argument.TheVariants.{Input, Output}
use Rattle.load_slots.specs.declared.flat.Assignment.{Assignment}
use Rattle.load_slots.specs.declared.flat.Copied.{Copied}
use Rattle.il_syntax.specs.declared.tree.Scalar.{Scalar}
use Rattle.il_syntax.specs.declared.tree.Literal.{Literal}
use Rattle.il_syntax.specs.declared.tree.Index.TheVariants.{Number, Variable as ByVariable}
use Rattle.il_syntax.specs.declared.tree.Reference.{Reference}
use Rattle.il_syntax.specs.declared.tree.Reference.TheVariants.{Literal as LiteralReference, Variable, Element, Member}
use Rattle.il_syntax.specs.declared.tree.Unit.{Unit as ProgramUnit}
use Rattle.il_syntax.specs.declared.tree.Config.{Config}
use Rattle.il_statics.specs.declared.names.StandardBlock.{StandardBlock}
use Rattle.il_statics.specs.Names.{or_else, entry_of, BlockVariables, block_variables, unit_named, form_named}
use Rattle.il_statics.specs.Declarations.{is_within}
use Rattle.base_maps.specs.NameMap.{NameMap, Text, get}
use Rattle.il_semantics.specs.Meaning.{Entity, width, block_entities, inputs_of, outputs_of, direct, element_of, indexed_by, inside, member_of, denotation}
use Rattle.load_scope.specs.declared.entry.VariableType.{VariableType}
use Rattle.load_scope.specs.declared.entry.VariableType.TheVariants.{Array, Instance}
use Rattle.load_scope.specs.declared.entry.BlockType.{BlockType}
use Rattle.load_scope.specs.declared.entry.BlockType.TheVariants.{Standard, Own}
use Rattle.load_scope.specs.Views.{type_of, block_type, variables_of_block}
use Rattle.il_semantics_laws.proofs.Named.{found_unit}
use Rattle.load_scope.proofs.Laws.{block_found}
use Rattle.load_slots.specs.declared.flat.Operand.{Operand}
use Rattle.load_slots.specs.declared.flat.Operand.TheVariants.{At, Outside}
use Rattle.load_code.specs.declared.operands.Known.{Known}
use Rattle.load_slots.specs.Cells.{IsShort, HasShort, AreNamed, form_in, offset_in}
use Rattle.load_slots.specs.Flattened.{Names, slot_of, index_in, operand_of, block_of}
use Rattle.load_slots.specs.Places.{capped, form_width, block_width, unit_entities, declared_in}
use Rattle.load_slots.specs.Making.{shown, unit_offsets, all_offsets, IsChecked}
use Rattle.load_slots.specs.Program.{program_names}
use Rattle.load_code.specs.Resolving.{known, known_by, word_offset, input_known, output_known, direct_operand, numbered_operand, indexed_operand, inside_by, member_by, member_operand, resolve, by_resolved, assigned_at, copied_at, with_input, with_output, inputs_at, outputs_at, IsSmall, IsShortType}
use Rattle.load_slots.proofs.Declared.{own as is_own, declared_is as unit_declared, unit_form, words, block_is_standard, block_alone, block_is_no_function}
use Rattle.load_slots.proofs.Tested.{image_is}
use Rattle.load_slots.proofs.IsPlaced.{index_below, within_limits}
use Rattle.load_slots.proofs.Distinct.{blocks_named, unit_entities_named}
use Rattle.load_slots.proofs.Counted.{mapped_at, IsBlock, of_standard, of_own, of_none, which_block, offset_found, offsets_are, standard_offset_is}
use Rattle.load_slots.proofs.Tasks.{at_contains}

-- the table of a unit is at its number
pub table_there : (c : Config) (u : ProgramUnit) (at : ℕ) (tables : List (NameMap ℕ)) → tables ≡ all_offsets c → slice_get c.units at ≡ Some u → slice_get tables at ≡ Some (unit_offsets c u)
table_there c u at tables are there = ap (λ ts. slice_get ts at) are ∙ mapped_at (unit_offsets c) c.units at u there

-- the indices of what is under a name are of a size
short_form : (es : List Entity) (name : Text) (f : Form) → AreNamed es → form_in es name ≡ Some f → HasShort f
short_form [] name f named is = cc
short_form (e ∷ es) name f named is = by_test (bytes_eq e.name name) is (short_form es name f named.4)
  where
    by_test : (b : Bool) → (if b then Some e.form else form_in es name) ≡ Some f → (form_in es name ≡ Some f → HasShort f) → HasShort f
    by_test true is more = subst HasShort (same_Some e.form f is) named.3
    by_test false is more = more is

module _ (c : Config) (checked : IsChecked c) (u : ProgramUnit) (itself : unit_named c u.name.name ≡ Some u) where
  among : Contains c.units u
  among = found_unit c u.name.name u itself

  named : AreNamed (unit_entities c u)
  named = unit_entities_named c checked.declared u checked.written among

  pub seen : (name : Text) (f : Form) → form_named c u name ≡ Some f → form_in (unit_entities c u) name ≡ Some f
  seen name f is = unit_form c u named (image_is c u) name f is

  offset_is : (name : Text) (f : Form) → form_named c u name ≡ Some f → get (unit_offsets c u) name ≡ Some ((program_names c u.name.name).offset name)
  offset_is name f is =
      offsets_are c (unit_entities c u) name ∙ ap (option_map (λ g. capped (offset_in (form_width (block_width 17 c)) (unit_entities c u) name))) (seen name f is)
      ∙ ap (λ es. Some (capped (offset_in (form_width (block_width 17 c)) es name))) (sym (unit_declared c u itself))

  by_form : (name : Text) (o : Option Form) → form_named c u name ≡ o → known_by (option_map (type_of c) o) (get (unit_offsets c u) name) ≡ option_map (λ f. record { declared = type_of c f; offset = (program_names c u.name.name).offset name }) o
  by_form name None is = refl
  by_form name (Some f) is = ap (known_by (Some (type_of c f))) (offset_is name f is)

  pub known_is : (own : NameMap ℕ) → own ≡ unit_offsets c u → (name : Text) (t : Option VariableType) (k : Option ℕ) → t ≡ option_map (type_of c) (form_named c u name) → k ≡ get own name → known_by t k ≡ known c u name
  known_is own are name t k typed placed = ap₂ known_by typed (placed ∙ ap (λ m. get m name) are) ∙ by_form name (form_named c u name) refl

  small_form : (name : Text) (o : Option Form) → form_named c u name ≡ o → IsSmall (option_map (λ f. record { declared = type_of c f; offset = (program_names c u.name.name).offset name }) o)
  small_form name None is = tt
  small_form name (Some f) is = (low (offset_in (form_width (block_width 17 c)) (declared_in c u.name.name) name), short f (short_form (unit_entities c u) name f named (seen name f is)))
    where
      low : (n : ℕ) → capped n ≤ 2 ^ 63
      low n = omega arith

      short : (f : Form) → HasShort f → IsShortType (type_of c f)
      short (ScalarForm s) h = tt
      short (ArrayForm bounds element) h = h
      short (BlockForm block) h = tt

  pub known_small : (name : Text) → IsSmall (known c u name)
  known_small name = small_form name (form_named c u name) refl

-- an index can be counted
pub index_fits : (bounds : Subrange) (z : ℤ) → IsShort bounds.lower (width bounds) → is_within bounds z ≡ true → index_in bounds z < 2 ^ 63
index_fits bounds z short within =
    let low : index_in bounds z < width bounds = (index_below bounds z (within_limits bounds z within)).0 in
    few (index_in bounds z) (width bounds) bounds.lower low short.least short.most
  where
    few : (i w : ℕ) (l : ℤ) → i < w → neg_ℤ (pos (2 ^ 62)) ≤ℤ l → (l +ℤ pos w) ≤ℤ pos (2 ^ 62) → i < 2 ^ 63
    few i w l low least most = omega (arith, ints, low, least, most)

-- WORDS OF BLOCKS

-- the block of a number
pub record IsBlockOf (c : Config) (name : Text) (b : BlockType) : Type 0 where
  pub variables : variables_of_block c b ≡ block_variables c name
  pub offsets : (word : Text) → word_offset c b word ≡ offset_found (form_width (block_width 17 c)) (block_entities c name) word

pub block_of_name : (c : Config) → IsChecked c → (name : Text) (b : BlockType) → block_type c name ≡ Some b → IsBlockOf c name b
block_of_name c checked name b is = record { variables = ap (option_and_then (variables_of_block c)) (sym is) ∙ block_found c name; offsets = by_case (block_type c name) (which_block c name) is }
  where
    wide : Form → ℕ
    wide = form_width (block_width 17 c)

    by_case : (o : Option BlockType) → IsBlock c name o → o ≡ Some b → (word : Text) → word_offset c b word ≡ offset_found wide (block_entities c name) word
    by_case _ (of_standard s o at e) h word =
        ap (λ d. word_offset c d word) (same_Some b (Standard s) (sym h ∙ e))
        ∙ standard_offset_is c s word ∙ ap (λ es. offset_found wide es word) (sym (block_is_standard c name s at))
    by_case _ (of_own k o v e) h word =
        let among : Contains c.units v.unit = at_contains c.units k v.unit v.there in
        let alone : unit_entities c v.unit ≡ block_entities c name = block_alone c name v.unit v.is (checked.written.externals v.unit among (block_is_no_function v.unit.kind (is_own c name v.unit v.is).kind).1) in
        ap (λ d. word_offset c d word) (same_Some b (Own k) (sym h ∙ e))
        ∙ ap (option_and_then (λ t. get t word)) (mapped_at (unit_offsets c) c.units k v.unit v.there)
        ∙ offsets_are c (unit_entities c v.unit) word ∙ ap (λ es. offset_found wide es word) alone
    by_case _ (of_none o at e) h word = let never : Some b ≡ None = sym h ∙ e in cc

-- OPERANDS

module _ (c : Config) (checked : IsChecked c) (u : ProgramUnit) (itself : unit_named c u.name.name ≡ Some u) where
  abbrev n : Names
  n = program_names c u.name.name

  abbrev wide : Form → ℕ
  wide = form_width (block_width 17 c)

  block_names : (name : Text) → AreNamed (block_entities c name)
  block_names = blocks_named c checked.declared checked.written

  -- an instance's name leads to its block
  declared_form : (instance : Text) (f : Form) → form_named c u instance ≡ Some f → form_in (declared_in c u.name.name) instance ≡ Some f
  declared_form instance f is = ap (λ es. form_in es instance) (unit_declared c u itself) ∙ seen c checked u itself instance f is

  -- a word of a block has a type and an offset
  word_known : (name : Text) (b : BlockType) → block_type c name ≡ Some b → (word : Text) (o : Option Form) → ((f : Form) → o ≡ Some f → form_in (block_entities c name) word ≡ Some f)
      → known_by (option_map (type_of c) o) (word_offset c b word) ≡ option_map (λ f. record { declared = type_of c f; offset = capped (offset_in wide (block_entities c name) word) }) o
  word_known name b is word None found = refl
  word_known name b is word (Some f) found =
      ap (known_by (Some (type_of c f))) ((block_of_name c checked name b is).offsets word ∙ ap (option_map (λ g. capped (offset_in wide (block_entities c name) word))) (found f refl))

  pub input_is : (name : Text) (b : BlockType) → block_type c name ≡ Some b → (word : Text)
      → input_known c b word ≡ option_map (λ f. record { declared = type_of c f; offset = capped (offset_in wide (block_entities c name) word) }) (entry_of (inputs_of (block_variables c name)) word)
  input_is name b is word =
      ap (λ o. known_by (option_map (type_of c) (option_and_then (λ v. entry_of v.inputs word) o)) (word_offset c b word)) (block_of_name c checked name b is).variables
      ∙ ap (λ o. known_by (option_map (type_of c) o) (word_offset c b word)) (entry_inputs (block_variables c name)) ∙ word_known name b is word (entry_of (inputs_of (block_variables c name)) word) (λ f e. (words c name (block_names name)).0 word f e)
    where
      entry_inputs : (o : Option BlockVariables) → option_and_then (λ v. entry_of v.inputs word) o ≡ entry_of (inputs_of o) word
      entry_inputs None = refl
      entry_inputs (Some v) = refl

  pub output_is : (name : Text) (b : BlockType) → block_type c name ≡ Some b → (word : Text)
      → output_known c b word ≡ option_map (λ f. record { declared = type_of c f; offset = capped (offset_in wide (block_entities c name) word) }) (entry_of (outputs_of (block_variables c name)) word)
  output_is name b is word =
      ap (λ o. known_by (option_map (type_of c) (option_and_then (λ v. entry_of v.outputs word) o)) (word_offset c b word)) (block_of_name c checked name b is).variables
      ∙ ap (λ o. known_by (option_map (type_of c) o) (word_offset c b word)) (entry_outputs (block_variables c name)) ∙ word_known name b is word (entry_of (outputs_of (block_variables c name)) word) (λ f e. (words c name (block_names name)).1 word f e)
    where
      entry_outputs : (o : Option BlockVariables) → option_and_then (λ v. entry_of v.outputs word) o ≡ entry_of (outputs_of o) word
      entry_outputs None = refl
      entry_outputs (Some v) = refl

  -- the word of an instance is as far after the first as both lead
  pub word_led : (instance name word : Text) → form_named c u instance ≡ Some (BlockForm name) → capped (n.offset instance + capped (offset_in wide (block_entities c name) word)) ≡ n.word instance word
  word_led instance name word is =
      twice (offset_in wide (declared_in c u.name.name) instance) (offset_in wide (block_entities c name) word)
      ∙ ap (λ g. capped (offset_in wide (declared_in c u.name.name) instance + offset_in wide (block_entities c (block_of g)) word)) (sym (declared_form instance (BlockForm name) is))
    where
      twice : (a b : ℕ) → capped (capped a + capped b) ≡ capped (a + b)
      twice a b = omega arith

  module _ (literal : Literal → Operand) where
    direct_is : (name : Text) (o : Option Form) → form_named c u name ≡ o → operand_of n literal (direct name o) ≡ direct_operand (option_map (λ f. record { declared = type_of c f; offset = n.offset name }) o)
    direct_is name None is = refl
    direct_is name (Some (ScalarForm s)) is = refl
    direct_is name (Some (ArrayForm bounds element)) is = refl
    direct_is name (Some (BlockForm block)) is = refl

    numbered_is : (name : Text) (z : ℤ) (o : Option Form) → operand_of n literal (element_of (form_named c u) name (Number z) o) ≡ numbered_operand (option_map (λ f. record { declared = type_of c f; offset = n.offset name }) o) z
    numbered_is name z None = refl
    numbered_is name z (Some (ScalarForm s)) = refl
    numbered_is name z (Some (ArrayForm bounds element)) = refl
    numbered_is name z (Some (BlockForm block)) = refl

    index_is : (name v : Text) (bounds : Subrange) (element : Scalar) (o : Option Form)
        → operand_of n literal (indexed_by name bounds element v o) ≡ indexed_operand (Some (record { declared = Array bounds element; offset = n.offset name })) (option_map (λ f. record { declared = type_of c f; offset = n.offset v }) o)
    index_is name v bounds element None = refl
    index_is name v bounds element (Some (ScalarForm s)) = refl
    index_is name v bounds element (Some (ArrayForm b e)) = refl
    index_is name v bounds element (Some (BlockForm block)) = refl

    indexed_is : (name v : Text) (o : Option Form) → operand_of n literal (element_of (form_named c u) name (ByVariable v) o) ≡ indexed_operand (option_map (λ f. record { declared = type_of c f; offset = n.offset name }) o) (known c u v)
    indexed_is name v None = refl
    indexed_is name v (Some (ScalarForm s)) = by_index (known c u v)
      where
        by_index : (k : Option Known) → Outside ≡ indexed_operand (Some (record { declared = type_of c (ScalarForm s); offset = n.offset name })) k
        by_index None = refl
        by_index (Some k) = refl
    indexed_is name v (Some (ArrayForm bounds element)) = index_is name v bounds element (form_named c u v)
    indexed_is name v (Some (BlockForm block)) = by_index (known c u v)
      where
        by_index : (k : Option Known) → Outside ≡ indexed_operand (Some (record { declared = type_of c (BlockForm block); offset = n.offset name })) k
        by_index None = refl
        by_index (Some k) = refl

    inside_is : (instance name word : Text) → form_named c u instance ≡ Some (BlockForm name) → (o : Option Form)
        → operand_of n literal (inside instance word o) ≡ inside_by (n.offset instance) (option_map (λ f. record { declared = type_of c f; offset = capped (offset_in wide (block_entities c name) word) }) o)
    inside_is instance name word is None = refl
    inside_is instance name word is (Some (ScalarForm s)) = ap (λ k. At (slot_of s k)) (sym (word_led instance name word is))
    inside_is instance name word is (Some (ArrayForm bounds element)) = refl
    inside_is instance name word is (Some (BlockForm block)) = refl

    mapped_or : {A B : Type 0} (f : A → B) (a b : Option A) → option_map f (or_else a b) ≡ or_else (option_map f a) (option_map f b)
    mapped_or f (Some a) b = refl
    mapped_or f None b = refl

    no_words : (name : Text) → block_type c name ≡ None → block_variables c name ≡ None
    no_words name is = sym (block_found c name) ∙ ap (option_and_then (variables_of_block c)) is

    block_is : (instance name word : Text) → form_named c u instance ≡ Some (BlockForm name) → (b : Option BlockType) → block_type c name ≡ b
        → operand_of n literal (inside instance word (or_else (entry_of (outputs_of (block_variables c name)) word) (entry_of (inputs_of (block_variables c name)) word))) ≡ member_by c (Instance b) (n.offset instance) word
    block_is instance name word is None at = ap (λ v. operand_of n literal (inside instance word (or_else (entry_of (outputs_of v) word) (entry_of (inputs_of v) word)))) (no_words name at)
    block_is instance name word is (Some b) at =
        inside_is instance name word is (or_else (entry_of (outputs_of (block_variables c name)) word) (entry_of (inputs_of (block_variables c name)) word))
        ∙ ap (inside_by (n.offset instance)) (mapped_or (λ f. record { declared = type_of c f; offset = capped (offset_in wide (block_entities c name) word) }) (entry_of (outputs_of (block_variables c name)) word) (entry_of (inputs_of (block_variables c name)) word)
        ∙ ap₂ or_else (sym (output_is name b at word)) (sym (input_is name b at word)))

    member_is : (instance word : Text) (o : Option Form) → form_named c u instance ≡ o → operand_of n literal (member_of c instance word o) ≡ member_operand c (option_map (λ f. record { declared = type_of c f; offset = n.offset instance }) o) word
    member_is instance word None is = refl
    member_is instance word (Some (ScalarForm s)) is = refl
    member_is instance word (Some (ArrayForm bounds element)) is = refl
    member_is instance word (Some (BlockForm name)) is = block_is instance name word is (block_type c name) refl

    -- what an operand resolves to is what it denotes
    pub resolved_is : (r : Reference) → by_resolved literal (resolve c u r) ≡ operand_of n literal (denotation c u r)
    resolved_is (LiteralReference l) = refl
    resolved_is (Variable name) = sym (direct_is name (form_named c u name) refl)
    resolved_is (Element name (Number z)) = sym (numbered_is name z (form_named c u name))
    resolved_is (Element name (ByVariable v)) = sym (indexed_is name v (form_named c u name))
    resolved_is (Member instance word) = sym (member_is instance word (form_named c u instance) refl)

-- ARGUMENTS

with_next_input : (c : Config) (u : ProgramUnit) (b : BlockType) (base : ℕ) (inputs : List Assignment) (a : Argument) (more : List Argument) → with_input c u b base inputs a ++ inputs_at c u b base more ≡ inputs ++ inputs_at c u b base (a ∷ more)
with_next_input c u b base inputs (Input word operand) more = append_assoc inputs (assigned_at c u b base word operand ∷ []) (inputs_at c u b base more)
with_next_input c u b base inputs (Output word to) more = refl

with_next_output : (c : Config) (u : ProgramUnit) (b : BlockType) (base : ℕ) (outputs : List Copied) (a : Argument) (more : List Argument) → with_output c u b base outputs a ++ outputs_at c u b base more ≡ outputs ++ outputs_at c u b base (a ∷ more)
with_next_output c u b base outputs (Output word to) more = append_assoc outputs (copied_at c u b base word to ∷ []) (outputs_at c u b base more)
with_next_output c u b base outputs (Input word operand) more = refl

-- one argument more
pub next_input : (c : Config) (u : ProgramUnit) (b : BlockType) (base : ℕ) (arguments : List Argument) (i : ℕ) (a : Argument) (inputs after all : List Assignment) → i < length arguments → a ≡ get_or arguments i a → after ≡ with_input c u b base inputs a
    → inputs ++ inputs_at c u b base (drop i arguments) ≡ all → after ++ inputs_at c u b base (drop (i + 1) arguments) ≡ all
next_input c u b base arguments i a inputs after all low is grown rest =
    ap (λ x. x ++ inputs_at c u b base (drop (i + 1) arguments)) grown ∙ with_next_input c u b base inputs a (drop (i + 1) arguments)
    ∙ ap (λ x. inputs ++ inputs_at c u b base x) (sym (drop_more arguments i a low ∙ ap (λ x. x ∷ drop (i + 1) arguments) (sym is))) ∙ rest

pub next_output : (c : Config) (u : ProgramUnit) (b : BlockType) (base : ℕ) (arguments : List Argument) (i : ℕ) (a : Argument) (outputs after all : List Copied) → i < length arguments → a ≡ get_or arguments i a → after ≡ with_output c u b base outputs a
    → outputs ++ outputs_at c u b base (drop i arguments) ≡ all → after ++ outputs_at c u b base (drop (i + 1) arguments) ≡ all
next_output c u b base arguments i a outputs after all low is grown rest =
    ap (λ x. x ++ outputs_at c u b base (drop (i + 1) arguments)) grown ∙ with_next_output c u b base outputs a (drop (i + 1) arguments)
    ∙ ap (λ x. outputs ++ outputs_at c u b base x) (sym (drop_more arguments i a low ∙ ap (λ x. x ∷ drop (i + 1) arguments) (sym is))) ∙ rest
