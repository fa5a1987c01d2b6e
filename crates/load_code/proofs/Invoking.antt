-- Calls of functions in flat code are calls of the tree.
use Rattle.std.proofs.Common.{◌≡◌, ℕ, zero, suc, ◌+◌, ◌<◌, ◌≤◌, ◌⊎◌, inl, inr, true, false, subst, append-nil, List, [], ◌∷◌, ◌++◌, map, drop, length, get_or, slice_get, refl, sym, ap, ap₂, ◌∙◌, Option, Some, None, arith, append_assoc}
use Rattle.std.proofs.lemmas.List.{drop_more}
use Rattle.std.proofs.lemmas.Bool.{cases_lt}
use Rattle.std.specs.Prelude.{min, is_some, Contains, option_map, option_and_then}
use Rattle.il_syntax.specs.declared.tree.Operand.{Operand as Written}
use Rattle.il_syntax.specs.declared.tree.Declaration.{Declaration}
use Rattle.il_syntax.specs.declared.tree.Named.{Named}
use Rattle.il_syntax.specs.declared.tree.Form.{Form}
use Rattle.il_syntax.specs.declared.tree.Form.TheVariants.{Scalar as ScalarForm, Array as ArrayForm, Block as BlockForm}
use Rattle.il_statics.specs.declared.names.StandardFunction.{StandardFunction}
use Rattle.il_statics.specs.declared.names.StandardFunction.TheVariants.{Absolute, Minimum, Maximum, Limited, Selected, Converted}
use Rattle.il_statics.specs.Names.{named_forms, standard_function, unit_named, function_named, is_function}
use Rattle.base_maps.specs.NameMap.{Text, get}
use Rattle.il_semantics.specs.Meaning.{Entity, entities, denotation}
use Rattle.il_semantics.specs.Step.{rest_of}
use Rattle.il_semantics_laws.proofs.Fresh.{entity}
use Rattle.il_semantics_laws.proofs.Lists.{at_head, in_tail, in_map}
use Rattle.il_semantics_laws.proofs.Meant.{inputs_seen}
use Rattle.il_semantics_laws.proofs.Named.{function_is_unit}
use Rattle.load_scope.specs.Views.{type_of, function_number}
use Rattle.load_scope.proofs.Laws.{function_found, function_there}
use Rattle.load_slots.specs.declared.flat.Flat.TheVariants.{Apply, Invoke as FlatInvoke}
use Rattle.load_slots.specs.Cells.{form_in, offset_in}
use Rattle.load_slots.specs.Flattened.{Names, slot_of, operand_of, argument_literal, literal_for, slot_of_form, arguments_of, invokes}
use Rattle.load_slots.specs.Places.{capped, form_width, block_width, unit_entities, entities_if, declared_in}
use Rattle.load_slots.specs.Making.{shown, all_offsets, IsChecked}
use Rattle.load_slots.specs.Whole.{number_in}
use Rattle.load_slots.specs.Program.{program_names}
use Rattle.load_slots.proofs.Tasks.{at_contains}
use Rattle.load_slots.proofs.Uses.{unit_found}
use Rattle.load_slots.proofs.Counted.{offsets_are}
use Rattle.load_code.proofs.Resolve.{seen, table_there, resolved_is}
use Rattle.load_code.proofs.Calling.{number_is}
use Rattle.il_syntax.specs.declared.tree.Unit.{Unit as ProgramUnit}
use Rattle.il_syntax.specs.declared.tree.Config.{Config}
use Rattle.load_slots.specs.declared.flat.Assignment.{Assignment}
use Rattle.load_slots.specs.declared.variables.Variable.{Variable}
use Rattle.load_code.specs.Resolving.{known_by, resolve, by_resolved, literal_known, slot_known, literal_beside, inputs_if, unit_inputs, function_known, argument_at, arguments_at, invoke_of}

-- one argument more
pub next_argument : (c : Config) (u : ProgramUnit) (k : ℕ) (vs : List Variable) (os : List Written) (i : ℕ) (v dv : Variable) (o do_ : Written) (xs after all : List Assignment) → i < length vs → i < length os → v ≡ get_or vs i dv → o ≡ get_or os i do_
    → after ≡ xs ++ argument_at c u k v o ∷ [] → xs ++ arguments_at c u k (drop i vs) (drop i os) ≡ all → after ++ arguments_at c u k (drop (i + 1) vs) (drop (i + 1) os) ≡ all
next_argument c u k vs os i v dv o do_ xs after all low few is js grown rest =
    ap (λ ys. ys ++ arguments_at c u k (drop (i + 1) vs) (drop (i + 1) os)) grown ∙ append_assoc xs (argument_at c u k v o ∷ []) (arguments_at c u k (drop (i + 1) vs) (drop (i + 1) os))
    ∙ ap₂ (λ ys zs. xs ++ arguments_at c u k ys zs) (sym (drop_more vs i dv low ∙ ap (λ x. x ∷ drop (i + 1) vs) (sym is))) (sym (drop_more os i do_ few ∙ ap (λ x. x ∷ drop (i + 1) os) (sym js))) ∙ rest

no_more : {A : Type 0} (xs : List A) (i : ℕ) → length xs ≤ i → drop i xs ≡ []
no_more [] zero low = refl
no_more [] (suc i) low = refl
no_more (x ∷ xs) zero low = absurd (omega arith)
no_more (x ∷ xs) (suc i) low = no_more xs i (omega arith)

none_left : (c : Config) (u : ProgramUnit) (k : ℕ) (vs : List Variable) → arguments_at c u k vs [] ≡ []
none_left c u k [] = refl
none_left c u k (v ∷ vs) = refl

-- and none where one of both ends
pub last_of_inputs : (c : Config) (u : ProgramUnit) (k : ℕ) (vs : List Variable) (os : List Written) (i : ℕ) → length vs ≤ i → arguments_at c u k (drop i vs) (drop i os) ≡ []
last_of_inputs c u k vs os i low = ap (λ ys. arguments_at c u k ys (drop i os)) (no_more vs i low)

pub last_of_operands : (c : Config) (u : ProgramUnit) (k : ℕ) (vs : List Variable) (os : List Written) (i : ℕ) → length os ≤ i → arguments_at c u k (drop i vs) (drop i os) ≡ []
last_of_operands c u k vs os i low = ap (arguments_at c u k (drop i vs)) (no_more os i low) ∙ none_left c u k (drop i vs)

pub arguments_end : (c : Config) (u : ProgramUnit) (k : ℕ) (vs : List Variable) (os : List Written) (xs all : List Assignment) (i : ℕ) → min (length vs) (length os) ≤ i → xs ++ arguments_at c u k (drop i vs) (drop i os) ≡ all → xs ≡ all
arguments_end c u k vs os xs all i low rest = sym (append-nil xs) ∙ ap (λ ys. xs ++ ys) (sym (by_side (split_le (length vs) (length os) i low))) ∙ rest
  where
    split_le : (a b i : ℕ) → min a b ≤ i → (a ≤ i) ⊎ (b ≤ i)
    split_le a b i le = by_order (cases_lt i a)
      where
        by_order : (i < a) ⊎ (a ≤ i) → (a ≤ i) ⊎ (b ≤ i)
        by_order (inr first) = inl first
        by_order (inl more) = inr (omega (arith, le, more))

    by_side : (length vs ≤ i) ⊎ (length os ≤ i) → arguments_at c u k (drop i vs) (drop i os) ≡ []
    by_side (inl a) = last_of_inputs c u k vs os i a
    by_side (inr b) = last_of_operands c u k vs os i b

-- FUNCTIONS

pub function_number_is : (c : Config) (name : Text) (k : ℕ) → function_number c name ≡ Some k → number_in c.units name ≡ k
unfolding function_number
function_number_is c name k is = number_is c name is_function k is

-- what an own function of a number is
pub record IsOwnFunction (c : Config) (name : Text) (k : ℕ) : Type 0 where
  pub unit : ProgramUnit
  pub there : slice_get c.units k ≡ Some unit
  pub is : function_named c name ≡ Some unit

function_at : (c : Config) (name : Text) (k : ℕ) → function_number c name ≡ Some k → IsOwnFunction c name k
function_at c name k is = by_unit (slice_get c.units k) refl
  where
    found : slice_get c.units k ≡ function_named c name
    found = ap (option_and_then (slice_get c.units)) (sym is) ∙ function_found c name

    some : is_some (function_named c name) ≡ true
    some = sym (function_there c name) ∙ ap is_some is

    by_unit : (o : Option ProgramUnit) → slice_get c.units k ≡ o → IsOwnFunction c name k
    by_unit (Some v) at = record { unit = v; there = at; is = sym found ∙ at }
    by_unit None at = let wrong : true ≡ false = sym some ∙ ap is_some (sym found ∙ at) in cc

-- names and forms of declarations
abbrev pub pair_of : Entity → Text × Form
pair_of e = (e.name, e.form)

pairs-append : (xs ys : List Entity) → map pair_of (xs ++ ys) ≡ map pair_of xs ++ map pair_of ys
pairs-append [] ys = refl
pairs-append (x ∷ xs) ys = ap (λ ps. (x.name, x.form) ∷ ps) (pairs-append xs ys)

named_pairs : (d : Declaration) (ns : List Named) → map pair_of (map (entity d) ns) ≡ map (λ n. (n.name, d.declared.form)) ns
named_pairs d [] = refl
named_pairs d (n ∷ ns) = ap (λ ps. (n.name, d.declared.form) ∷ ps) (named_pairs d ns)

pub pairs_are : (ds : List Declaration) → map pair_of (entities ds) ≡ named_forms ds
pairs_are [] = refl
pairs_are (d ∷ ds) = pairs-append (map (entity d) d.names) (entities ds) ∙ ap₂ ◌++◌ (named_pairs d d.names) (pairs_are ds)

pub each_pair : (ds : List Declaration) (e : Entity) → Contains (entities ds) e → Contains (named_forms ds) (e.name, e.form)
each_pair ds e has = subst (λ ps. Contains ps (e.name, e.form)) (pairs_are ds) (in_map pair_of (entities ds) e has)

pub slot_is_form : (c : Config) (f : Form) (a : ℕ) → slot_known 0 (Some (record { declared = type_of c f; offset = capped a })) ≡ slot_of_form (Some f) (capped a)
slot_is_form c (ScalarForm s) a = ap (slot_of s) (let e : capped (0 + capped a) ≡ capped a = omega arith in e)
slot_is_form c (ArrayForm bounds element) a = refl
slot_is_form c (BlockForm block) a = refl

module _ (c : Config) (checked : IsChecked c) (u : ProgramUnit) (itself : unit_named c u.name.name ≡ Some u) where
  abbrev n : Names
  n = program_names c u.name.name

  -- STANDARD ONES

  literals_are : (f : StandardFunction) → literal_beside f ≡ argument_literal f
  literals_are Absolute = refl
  literals_are Minimum = refl
  literals_are Maximum = refl
  literals_are Limited = refl
  literals_are Selected = refl
  literals_are (Converted from to) = refl

  operands_are : (f : StandardFunction) (os : List Written)
      → map (λ o. by_resolved (literal_beside f) (resolve c u o.reference)) os ≡ map (λ o. operand_of n (argument_literal f) (denotation c u o.reference)) os
  operands_are f [] = refl
  operands_are f (o ∷ os) =
      ap₂ (λ x xs. x ∷ xs) (ap (λ g. by_resolved g (resolve c u o.reference)) (literals_are f) ∙ resolved_is c checked u itself (argument_literal f) o.reference) (operands_are f os)

  -- OWN ONES

  module _ (name : Text) (k : ℕ) (own : IsOwnFunction c name k) where
    abbrev v : ProgramUnit
    v = own.unit

    v_among : Contains c.units v
    v_among = at_contains c.units k v own.there

    v_itself : unit_named c v.name.name ≡ Some v
    v_itself = unit_found c checked.declared v v_among

    declared_by_name : declared_in c name ≡ unit_entities c v
    declared_by_name = ap (entities_if c) (function_is_unit c name v own.is).0

    -- an input has its offset
    pub input_offset : (word : Text) (f : Form) → Contains (named_forms v.inputs) (word, f) → option_and_then (λ t. get t word) (slice_get (all_offsets c) k) ≡ Some (n.input name word)
    input_offset word f has =
        let found : form_in (unit_entities c v) word ≡ Some f = seen c checked v v_itself word f (inputs_seen c checked.declared v name (word, f) own.is has) in
        ap (option_and_then (λ t. get t word)) (table_there c v k (all_offsets c) refl own.there) ∙ offsets_are c (unit_entities c v) word
        ∙ ap (option_map (λ g. capped (offset_in (form_width (block_width 17 c)) (unit_entities c v) word))) found
        ∙ ap (λ es. Some (capped (offset_in (form_width (block_width 17 c)) es word))) (sym declared_by_name)

    literal_is : (f : Form) (m : ℕ) → literal_known (Some (record { declared = type_of c f; offset = m })) ≡ literal_for (Some f)
    literal_is (ScalarForm s) m = refl
    literal_is (ArrayForm bounds element) m = refl
    literal_is (BlockForm block) m = refl

    slot_is : (f : Form) (a : ℕ) → slot_known 0 (Some (record { declared = type_of c f; offset = capped a })) ≡ slot_of_form (Some f) (capped a)
    slot_is (ScalarForm s) a = ap (slot_of s) (let e : capped (0 + capped a) ≡ capped a = omega arith in e)
    slot_is (ArrayForm bounds element) a = refl
    slot_is (BlockForm block) a = refl

    arguments_are : (es : List Entity) (os : List Written) → ((e : Entity) → Contains es e → Contains (named_forms v.inputs) (e.name, e.form))
        → arguments_at c u k (map (shown c) es) os ≡ arguments_of n c u name (map pair_of es) os
    arguments_are [] os each = refl
    arguments_are (e ∷ es) [] each = refl
    arguments_are (e ∷ es) (o ∷ os) each =
        let known_as : function_known c k (shown c e) ≡ Some (record { declared = type_of c e.form; offset = n.input name e.name }) = ap (known_by (Some (type_of c e.form))) (input_offset e.name e.form (each e (at_head e es))) in
        ap₂ (λ to as_. record { to = to; from = as_ } ∷ arguments_at c u k (map (shown c) es) os)
        (ap (slot_known 0) known_as ∙ slot_is e.form (offset_in (form_width (block_width 17 c)) (declared_in c name) e.name))
        (ap (λ w. by_resolved (literal_known w) (resolve c u o.reference)) known_as ∙ ap (λ g. by_resolved g (resolve c u o.reference)) (literal_is e.form (n.input name e.name)) ∙ resolved_is c checked u itself (literal_for (Some e.form)) o.reference)
        ∙ ap (λ xs. record { to = slot_of_form (Some e.form) (n.input name e.name); from = operand_of n (literal_for (Some e.form)) (denotation c u o.reference) } ∷ xs) (arguments_are es os (λ d has. each d (in_tail e es d has)))

    each_input : (e : Entity) → Contains (entities v.inputs) e → Contains (named_forms v.inputs) (e.name, e.form)
    each_input e has = subst (λ ps. Contains ps (e.name, e.form)) (pairs_are v.inputs) (in_map pair_of (entities v.inputs) e has)

    further_are : (es : List Entity) (os : List Written) → ((e : Entity) → Contains es e → Contains (named_forms v.inputs) (e.name, e.form))
        → arguments_at c u k (drop 1 (map (shown c) es)) os ≡ arguments_of n c u name (rest_of (map pair_of es)) os
    further_are [] os each = refl
    further_are (e ∷ es) os each = arguments_are es os (λ d has. each d (in_tail e es d has))

    own_is : (os : List Written) → arguments_at c u k (drop 1 (unit_inputs c k)) os ≡ arguments_of n c u name (rest_of (named_forms v.inputs)) os
    own_is os = ap (λ o. arguments_at c u k (drop 1 (inputs_if c o)) os) own.there ∙ further_are (entities v.inputs) os each_input ∙ ap (λ ps. arguments_of n c u name (rest_of ps) os) (pairs_are v.inputs)

  by_number : (name : Text) (os : List Written) (o : Option ℕ) → function_number c name ≡ o → invoke_of c u os None o ≡ invokes n c u name os None (function_named c name)
  by_number name os None is = ap (invokes n c u name os None) (sym (sym (function_found c name) ∙ ap (option_and_then (slice_get c.units)) is))
  by_number name os (Some k) is =
      let own = function_at c name k is in
      ap₂ (λ j xs. FlatInvoke j xs) (sym (function_number_is c name k is)) (own_is name k own os) ∙ ap (invokes n c u name os None) (sym own.is)

  by_standard : (name : Text) (os : List Written) (f : Option StandardFunction) → invoke_of c u os f (function_number c name) ≡ invokes n c u name os f (function_named c name)
  by_standard name os (Some f) = ap (Apply f) (operands_are f os)
  by_standard name os None = by_number name os (function_number c name) refl

  pub invoke_is : (name : Text) (os : List Written) → invoke_of c u os (standard_function name) (function_number c name) ≡ invokes n c u name os (standard_function name) (function_named c name)
  invoke_is name os = by_standard name os (standard_function name)
