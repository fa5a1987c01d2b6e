-- What a scan keeps is what its list has.
use Rattle.std.proofs.Common.{◌≡◌, ◌≢◌, ◌<◌, ◌≤◌, ◌+◌, ℕ, zero, suc, ℤ, pos, negsuc, Bool, true, false, List, [], ◌∷◌, ◌++◌, filter, refl, sym, ap, ◌∙◌, cond, Some, None, Option, subst, length, arith, ◌⊎◌, inl, inr}
use Rattle.std.proofs.lemmas.Int.{ints}
use Rattle.std.proofs.lemmas.Option.{same_Some}
use Rattle.std.proofs.lemmas.List.Elements.{Contains-append_left, Contains-append_right, Contains-append_cases}
use Rattle.std.specs.Prelude.{Contains, ◌+ℤ◌, ◌-ℤ◌, ◌≤ℤ◌, option_and_then, if◌then◌else◌, IsTrue}
use Rattle.il_syntax.specs.declared.tree.Config.{Config}
use Rattle.il_syntax.specs.declared.tree.Unit.{Unit as ProgramUnit}
use Rattle.il_syntax.specs.declared.tree.UnitKind.{UnitKind}
use Rattle.il_syntax.specs.declared.tree.UnitKind.TheVariants.{Function, FunctionBlock, Program}
use Rattle.il_syntax.specs.declared.tree.Scalar.{Scalar}
use Rattle.il_syntax.specs.declared.tree.Place.{Place}
use Rattle.il_syntax.specs.declared.tree.Subrange.{Subrange}
use Rattle.il_syntax.specs.declared.tree.Declaration.{Declaration}
use Rattle.il_syntax.specs.declared.tree.Form.{Form}
use Rattle.il_syntax.specs.declared.tree.Form.TheVariants.{Scalar as ScalarForm, Block as BlockForm}
use Rattle.il_statics.specs.declared.names.StandardBlock.{StandardBlock}
use Rattle.il_statics.specs.Names.{BlockVariables, standard_block, standard_variables, function_block_named, own_block_variables, named_forms, form_named, unit_named, function_named, sees as images_seen, is_program, is_function}
use Rattle.il_statics.specs.Declarations.{is_within, admitted_variables, written_types}
use Rattle.il_statics.specs.Faults.{HasNoFault, Broken, Declaring}
use Rattle.il_statics.specs.Written.{IsWritten}
use Rattle.base_maps.specs.NameMap.{Text}
use Rattle.il_semantics.specs.Meaning.{under, element_path, member_path, Entity, entities, own_entities, result_entities, block_entities, standard_entities, depth, width, width_of}
use Rattle.il_semantics.specs.Ranges.{scalars_at, element_scalars, entity_scalars, instance_scalars, own_scalars, external_scalars, function_scalars, function_scalars_by, task_scalars}
use Rattle.il_semantics.specs.Scan.{used_units, used_names, found_units}
use Rattle.il_semantics_laws.specs.Agreement.{HasVariable, HasUse, IsStack, Keeps, itself, element, member, Sees, IsKept, of_program, of_function}
use Rattle.il_semantics_laws.specs.Accepted.{IsAccepted}
use Rattle.il_semantics_laws.specs.Soundness.{IsInOrder, IsShallow}
use Rattle.il_semantics_laws.specs.Listed.{image_entity, seen_entities, seen_scalars, given_scalars, kept_scalars, KeepsListed}
use Rattle.il_semantics_laws.proofs.Named.{found_unit, name_of, function_is_unit, function_word, result_form}
use Rattle.il_semantics_laws.proofs.Running.{standard_are, under_member, neither}
use Rattle.il_statics.proofs.Every.{all_of, contains_all, every_block}
use Rattle.il_semantics_laws.proofs.Words.{is_no_block}
use Rattle.il_semantics_laws.proofs.Blocks.{words_of}
use Rattle.il_semantics_laws.proofs.Lists.{in_nothing, at_head, in_tail, in_map, of_map, in_flat_map, of_flat_map}
use Rattle.il_semantics_laws.proofs.Declared.{IsListed, Owned, as_result, as_input, as_output, as_variable, as_external, images, Imaged, means, listed, input_means, output_means, variable_means, external_means}
use Rattle.il_semantics_laws.proofs.Meant.{WordOf, of_standard, of_own, word_of, block_means, block_among, own_are, program_is, instance_of, is_scalar, no_instance, image_means, image_is, variable_typed, external_typed}
use Rattle.il_semantics_laws.proofs.Fresh.{within_is, entity, of_entities, function_kind}
use Rattle.il_semantics_laws.proofs.Used.{in_entities, of_found, instance_used}
use Rattle.il_semantics_laws.proofs.Kept.{of_scalars, member_some, entity_listed, kept_at}
use Rattle.il_semantics_laws.proofs.Once.{paths_once}
use Rattle.il_semantics_laws.proofs.Premises.{in_order}

-- PATHS OF A VARIABLE

pub in_scalars : (inner : Text → Text → List (Text × Scalar)) (path : Text) (es : List Entity) (e : Entity) (x : Text × Scalar) → Contains es e → Contains (scalars_at inner (under path e.name) e.form) x → Contains (entity_scalars inner path es) x
in_scalars inner path [] e x among has = absurd (in_nothing e among)
in_scalars inner path (d ∷ es) e x (zero, low, same) has =
    Contains-append_left (scalars_at inner (under path d.name) d.form) (entity_scalars inner path es) x (subst (λ (y : Entity). Contains (scalars_at inner (under path y.name) y.form) x) (sym same) has)
in_scalars inner path (d ∷ es) e x (suc k, low, same) has = Contains-append_right (scalars_at inner (under path d.name) d.form) (entity_scalars inner path es) x (in_scalars inner path es e x (k, omega arith, same) has)

in_elements : (n : ℕ) (path : Text) (z : ℤ) (s : Scalar) (k : ℕ) → k < n → Contains (element_scalars n path z s) (element_path path (z +ℤ pos k), s)
in_elements zero path z s k low = absurd (omega arith)
in_elements (suc n) path z s zero low = (0, omega arith, ap (λ (y : ℤ). (element_path path y, s)) (omega (arith, ints)))
in_elements (suc n) path z s (suc k) low =
    in_tail _ (element_scalars n path (z +ℤ pos 1) s) _ (subst (λ (y : ℤ). Contains (element_scalars n path (z +ℤ pos 1) s) (element_path path y, s)) (next z k) (in_elements n path (z +ℤ pos 1) s k (omega arith)))
  where
    next : (z : ℤ) (k : ℕ) → (z +ℤ pos 1) +ℤ pos k ≡ z +ℤ pos (suc k)
    next z k = omega (arith, ints)

-- an index within bounds is so many from the lower one
from_lower : (s : Subrange) (z : ℤ) → is_within s z ≡ true → (k : ℕ) × (k < width s) × (s.lower +ℤ pos k ≡ z)
from_lower s z within = by_offset (z -ℤ s.lower) refl
  where
    limits : (s.lower ≤ℤ z) × (z ≤ℤ s.upper)
    limits = within_is s z within

    by_width : (k : ℕ) → z -ℤ s.lower ≡ pos k → (w : ℤ) → (s.upper -ℤ s.lower) +ℤ pos 1 ≡ w → k < width_of w
    by_width k is (pos n) w = omega (arith, ints, limits.1)
    by_width k is (negsuc n) w = absurd (omega (arith, ints, limits.1))

    by_offset : (d : ℤ) → z -ℤ s.lower ≡ d → (k : ℕ) × (k < width s) × (s.lower +ℤ pos k ≡ z)
    by_offset (pos k) is = (k, by_width k is ((s.upper -ℤ s.lower) +ℤ pos 1) refl, omega (arith, ints))
    by_offset (negsuc k) is = absurd (omega (arith, ints, limits.0))

-- VARIABLES OF BLOCKS

-- an entity of a name with its type
abbrev pub HasEntity : List Entity → Text → Form → Type 0
HasEntity es name form = (e : Entity) × Contains es e × (e.name ≡ name) × (e.form ≡ form)

pub listed_entity : (ds : List Declaration) (name : Text) (form : Form) → IsListed ds name form → HasEntity (entities ds) name form
listed_entity ds name form l = (entity l.declaration l.name_of, in_entities ds l.declaration l.name_of l.among l.listed, l.spelled, l.formed)

-- an input, an output or a variable of a unit is one of its entities
entity_of_input : (v : ProgramUnit) (name : Text) (form : Form) → IsListed v.inputs name form → HasEntity (own_entities v) name form
entity_of_input v name form l =
    let r = listed_entity v.inputs name form l in (r.0, Contains-append_left (entities v.inputs ++ entities v.outputs) (entities v.variables) _ (Contains-append_left (entities v.inputs) (entities v.outputs) _ r.1), r.2, r.3)

entity_of_output : (v : ProgramUnit) (name : Text) (form : Form) → IsListed v.outputs name form → HasEntity (own_entities v) name form
entity_of_output v name form l =
    let r = listed_entity v.outputs name form l in (r.0, Contains-append_left (entities v.inputs ++ entities v.outputs) (entities v.variables) _ (Contains-append_right (entities v.inputs) (entities v.outputs) _ r.1), r.2, r.3)

entity_of_variable : (v : ProgramUnit) (name : Text) (form : Form) → IsListed v.variables name form → HasEntity (own_entities v) name form
entity_of_variable v name form l = let r = listed_entity v.variables name form l in (r.0, Contains-append_right (entities v.inputs ++ entities v.outputs) (entities v.variables) _ r.1, r.2, r.3)

block_own : (v : ProgramUnit) (name : Text) (form : Form) → Contains (named_forms v.inputs ++ named_forms v.outputs ++ named_forms v.variables) (name, form) → HasEntity (own_entities v) name form
block_own v name form among = by_variable (Contains-append_cases (named_forms v.inputs ++ named_forms v.outputs) (named_forms v.variables) _ among)
  where
    by_input : Contains (named_forms v.inputs) (name, form) ⊎ Contains (named_forms v.outputs) (name, form) → HasEntity (own_entities v) name form
    by_input (inl a) = entity_of_input v name form (listed v.inputs name form a)
    by_input (inr a) = entity_of_output v name form (listed v.outputs name form a)

    by_variable : Contains (named_forms v.inputs ++ named_forms v.outputs) (name, form) ⊎ Contains (named_forms v.variables) (name, form) → HasEntity (own_entities v) name form
    by_variable (inl a) = by_input (Contains-append_cases (named_forms v.inputs) (named_forms v.outputs) _ a)
    by_variable (inr a) = entity_of_variable v name form (listed v.variables name form a)

standard_own : (b : BlockVariables) (name : Text) (form : Form) → Contains (b.inputs ++ b.outputs ++ b.inner) (name, form) → HasEntity (standard_entities b) name form
standard_own b name form among = (record { name = name; form = form; initial = None }, in_map (λ (v : Text × Form). record { name = v.0; form = v.1; initial = None }) (b.inputs ++ b.outputs ++ b.inner) (name, form) among, refl, refl)

-- a variable of a block is one of its entities
block_entity : (c : Config) (block word : Text) (form : Form) → HasVariable c block word form → HasEntity (block_entities c block) word form
block_entity c block word form h = by_standard (standard_block block) refl
  where
    by_own : standard_block block ≡ None → (o : Option ProgramUnit) → function_block_named c block ≡ o → HasEntity (block_entities c block) word form
    by_own none None is = let never : None ≡ Some h.0 = sym (neither c block none is) ∙ h.1 in cc
    by_own none (Some v) is =
        let same : own_block_variables v ≡ h.0 = same_Some _ _ (sym (own_are c block v is) ∙ h.1) in
        rw (is, none) (block_own v word form (subst (λ (b : BlockVariables). Contains (b.inputs ++ b.outputs ++ b.inner) (word, form)) (sym same) h.2))

    by_standard : (o : Option StandardBlock) → standard_block block ≡ o → HasEntity (block_entities c block) word form
    by_standard (Some s) is =
        let same : standard_variables s ≡ h.0 = same_Some _ _ (sym (standard_are c block s is) ∙ h.1) in
        rw is (standard_own (standard_variables s) word form (subst (λ (b : BlockVariables). Contains (b.inputs ++ b.outputs ++ b.inner) (word, form)) (sym same) h.2))
    by_standard None is = by_own is (function_block_named c block) refl

-- a standard block has no instances
no_inner : (b : StandardBlock) → all_of (λ (e : Text × Form). is_no_block e.1) (words_of b) ≡ true
no_inner = every_block (λ b. all_of (λ (e : Text × Form). is_no_block e.1) (words_of b)) refl

module _ (c : Config) (written : IsWritten c) (unbroken : HasNoFault (Broken Declaring c)) where
  -- a unit declares an instance of the block
  abbrev Declares : ProgramUnit → Text → Type 0
  Declares v block = (name : Text) × IsListed v.variables name (BlockForm block)

  -- an instance within an instance is a variable of an own block (21, 25)
  inner_instance : (block word inner : Text) → HasVariable c block word (BlockForm inner) → (w : ProgramUnit) × (function_block_named c block ≡ Some w) × Declares w inner
  inner_instance block word inner h = by_way (word_of c block word (BlockForm inner) h)
    where
      by_way : WordOf c block word (BlockForm inner) → (w : ProgramUnit) × (function_block_named c block ≡ Some w) × Declares w inner
      by_way (of_standard s is among) = let never : false ≡ true = contains_all (λ (e : Text × Form). is_no_block e.1) (words_of s) (word, BlockForm inner) (no_inner s) among in cc
      by_way (of_own w is l) = (w, is, (word, (instance_of c unbroken w word inner (block_among c block w is) (block_means c written unbroken block w is word (BlockForm inner) h)).0))

  -- instances so many deep, from a unit at the top of a stack that declares one
  abbrev Deep : ProgramUnit → ℕ → Form → Type 0
  Deep p n form = (block : Text) → form ≡ BlockForm block → (v : ProgramUnit) × (us : List ProgramUnit) × IsStack c p v us × (16 ≤ n + length us) × Declares v block

  -- a path that is kept is in the list that goes so deep
  listed_at : (p : ProgramUnit) → IsShallow c p → (q : Text) (s : Scalar) (n : ℕ) (path : Text) (form : Form) → path ≢ [] → Deep p n form → Keeps c q s path form → Contains (scalars_at (instance_scalars n c) path form) (q, s)
  listed_at p shallow q s n _ _ some deep (itself path form is e) = rw (is, e) (at_head (path, s) [])
  listed_at p shallow q s n _ _ some deep (element path form bounds z is low e) =
      let k = from_lower bounds z low in
      rw (is, e, ← k.2) (in_elements (width bounds) path bounds.lower s k.0 k.1)
  listed_at p shallow q s zero _ _ some deep (member path form block word inner is has keeps) =
      let d = deep block is in
      let low = shallow d.0 d.1 d.2 in
      let room = d.3 in
      absurd (omega arith)
  listed_at p shallow q s (suc n) _ _ some deep (member path form block word inner is has keeps) =
      let d = deep block is in
      let here : Deep p n inner = λ b2 same.
      let i = inner_instance block word b2 (subst (HasVariable c block word) same has) in
      (i.0, d.0 ∷ d.1, (instance_used c unbroken d.0 i.0 d.4.0 block d.4.1 i.1, d.2), let room = d.3 in omega arith, i.2) in
      let e = block_entity c block word inner has in
      let more = listed_at p shallow q s n (member_path path word) inner (member_some path word some) here keeps in
      rw is (in_scalars (instance_scalars n c) path (block_entities c block) e.0 (q, s) e.1
      (subst (λ (t : Text). Contains (scalars_at (instance_scalars n c) t e.0.form) (q, s)) (sym (under_member path e.0.name some))
      (subst (λ (f : Form). Contains (scalars_at (instance_scalars n c) (member_path path e.0.name) f) (q, s)) (sym e.3) (subst (λ (t : Text). Contains (scalars_at (instance_scalars n c) (member_path path t) inner) (q, s)) (sym e.2) more))))

-- UNITS IN USE

first_used : (c : Config) (n : ℕ) (u v : ProgramUnit) → HasUse c u v → Contains (used_units (suc n) c u) v
first_used c n u v is_used = in_flat_map (λ (w : ProgramUnit). w ∷ used_units n c w) (found_units c (used_names u)) v v is_used (at_head v (used_units n c v))

pub used_on : (c : Config) (n : ℕ) (from u v : ProgramUnit) → Contains (used_units n c from) u → HasUse c u v → Contains (used_units (suc n) c from) v
used_on c zero from u v has is_used = absurd (in_nothing u has)
used_on c (suc n) from u v has is_used = by_unit (of_flat_map (λ (w : ProgramUnit). w ∷ used_units n c w) (found_units c (used_names from)) u has) (λ w. used_on c n w u v)
  where
    by_unit : (w : ProgramUnit) × Contains (found_units c (used_names from)) w × Contains (w ∷ used_units n c w) u → ((w : ProgramUnit) → Contains (used_units n c w) u → HasUse c u v → Contains (used_units (suc n) c w) v) → Contains (used_units (suc (suc n)) c from) v
    by_unit (w, found, here) more = in_flat_map (λ (w : ProgramUnit). w ∷ used_units (suc n) c w) (found_units c (used_names from)) w v found (in_tail w (used_units (suc n) c w) v (by_place here))
      where
        by_place : Contains (w ∷ used_units n c w) u → Contains (used_units (suc n) c w) v
        by_place (zero, low, same) = first_used c n w v (subst (λ (x : ProgramUnit). HasUse c x v) (sym same) is_used)
        by_place (suc k, low, same) = more w (k, omega arith, same) is_used

-- the unit of a stack is among those that the program uses so deep
pub stack_used : (c : Config) (p : ProgramUnit) (n : ℕ) (v u : ProgramUnit) (us : List ProgramUnit) → IsStack c p v (u ∷ us) → suc (length us) ≤ n → Contains (used_units n c p) v
stack_used c p zero v u us is room = absurd (omega arith)
stack_used c p (suc n) v u [] is room = first_used c n p v (subst (λ (x : ProgramUnit). HasUse c x v) is.1 is.0)
stack_used c p (suc n) v u (w ∷ us) is room = used_on c n p u v (stack_used c p n u w us is.1 (omega arith)) is.0

-- and each of those is the unit of a stack
pub used_stack : (c : Config) (p : ProgramUnit) (n : ℕ) (u : ProgramUnit) (us : List ProgramUnit) → IsStack c p u us → (v : ProgramUnit) → Contains (used_units n c u) v → (w : ProgramUnit) × (ws : List ProgramUnit) × IsStack c p v (w ∷ ws)
used_stack c p zero u us is v has = absurd (in_nothing v has)
used_stack c p (suc n) u us is v has = by_unit (of_flat_map (λ (w : ProgramUnit). w ∷ used_units n c w) (found_units c (used_names u)) v has) (λ w stack. used_stack c p n w (u ∷ us) stack v)
  where
    by_unit : (w : ProgramUnit) × Contains (found_units c (used_names u)) w × Contains (w ∷ used_units n c w) v → ((w : ProgramUnit) → IsStack c p w (u ∷ us) → Contains (used_units n c w) v → (x : ProgramUnit) × (xs : List ProgramUnit) × IsStack c p v (x ∷ xs)) → (x : ProgramUnit) × (xs : List ProgramUnit) × IsStack c p v (x ∷ xs)
    by_unit (w, found, here) more = by_place here
      where
        by_place : Contains (w ∷ used_units n c w) v → (x : ProgramUnit) × (xs : List ProgramUnit) × IsStack c p v (x ∷ xs)
        by_place (zero, low, same) = (u, us, (subst (HasUse c u) same found, is))
        by_place (suc k, low, same) = more w (found, is) (k, omega arith, same)

-- VARIABLES OF FUNCTIONS

in_function_scalars : (c : Config) (fs : List ProgramUnit) (f : ProgramUnit) (x : Text × Scalar) → Contains fs f → Contains (function_scalars_by c f f.kind) x → Contains (function_scalars c fs) x
in_function_scalars c [] f x among has = absurd (in_nothing f among)
in_function_scalars c (g ∷ fs) f x (zero, low, same) has = Contains-append_left (function_scalars_by c g g.kind) (function_scalars c fs) x (subst (λ (h : ProgramUnit). Contains (function_scalars_by c h h.kind) x) (sym same) has)
in_function_scalars c (g ∷ fs) f x (suc k, low, same) has = Contains-append_right (function_scalars_by c g g.kind) (function_scalars c fs) x (in_function_scalars c fs f x (k, omega arith, same) has)

of_function_scalars : (c : Config) (fs : List ProgramUnit) (x : Text × Scalar) → Contains (function_scalars c fs) x → (f : ProgramUnit) × Contains fs f × Contains (function_scalars_by c f f.kind) x
of_function_scalars c [] x has = absurd (in_nothing x has)
of_function_scalars c (g ∷ fs) x has = by_side (Contains-append_cases (function_scalars_by c g g.kind) (function_scalars c fs) x has) (of_function_scalars c fs x)
  where
    by_side : Contains (function_scalars_by c g g.kind) x ⊎ Contains (function_scalars c fs) x → (Contains (function_scalars c fs) x → (f : ProgramUnit) × Contains fs f × Contains (function_scalars_by c f f.kind) x) → (f : ProgramUnit) × Contains (g ∷ fs) f × Contains (function_scalars_by c f f.kind) x
    by_side (inl a) more = (g, at_head g fs, a)
    by_side (inr a) more = let r = more a in (r.0, in_tail g fs r.0 r.1, r.2)

function_by : (c : Config) (name : Text) (f : ProgramUnit) → unit_named c name ≡ Some f → is_function f ≡ true → function_named c name ≡ Some f
function_by c name f named is = ap (λ o. option_and_then (λ (u : ProgramUnit). if is_function u then Some u else None) o) named ∙ ap (λ b. if b then Some f else None) is

under_some : (path name : Text) → path ≢ [] → under path name ≢ []
under_some [] name some e = some refl
under_some (x ∷ xs) name some e = cc

pub in_filter : {A : Type 0} (test : A → Bool) (xs : List A) (x : A) → Contains xs x → test x ≡ true → Contains (filter test xs) x
in_filter test [] x among passes = absurd (in_nothing x among)
in_filter test (y ∷ ys) x (zero, low, same) passes = let here : test y ≡ true = ap test same ∙ passes in rw here (0, omega arith, same)
in_filter {A = A} test (y ∷ ys) x (suc k, low, same) passes = by_test (test y) (in_filter test ys x (k, omega arith, same) passes)
  where
    by_test : (b : Bool) → Contains (filter test ys) x → Contains (cond b (y ∷ filter test ys) (filter test ys)) x
    by_test true more = in_tail y (filter test ys) x more
    by_test false more = more

pub of_filter : {A : Type 0} (test : A → Bool) (xs : List A) (x : A) → Contains (filter test xs) x → Contains xs x × (test x ≡ true)
of_filter test [] x among = absurd (in_nothing x among)
of_filter {A = A} test (y ∷ ys) x among = by_test (test y) refl among (of_filter test ys x)
  where
    later : Contains ys x × (test x ≡ true) → Contains (y ∷ ys) x × (test x ≡ true)
    later r = (in_tail y ys x r.0, r.1)

    by_test : (b : Bool) → test y ≡ b → Contains (cond b (y ∷ filter test ys) (filter test ys)) x → (Contains (filter test ys) x → Contains ys x × (test x ≡ true)) → Contains (y ∷ ys) x × (test x ≡ true)
    by_test true is (zero, low, same) more = ((0, omega arith, same), ap test (sym same) ∙ is)
    by_test true is (suc k, low, same) more = later (more (k, omega arith, same))
    by_test false is has more = later (more has)

-- a variable of a unit means itself in its body (20)
own_means : (c : Config) → HasNoFault (Broken Declaring c) → (v : ProgramUnit) → Contains c.units v → (e : Entity) → Contains (own_entities v) e → form_named c v e.name ≡ Some e.form
own_means c unbroken v among e has = by_variable (Contains-append_cases (entities v.inputs ++ entities v.outputs) (entities v.variables) e has)
  where
    by_input : Contains (entities v.inputs) e ⊎ Contains (entities v.outputs) e → form_named c v e.name ≡ Some e.form
    by_input (inl a) = input_means c unbroken v among e.name e.form (entity_listed v.inputs e (of_entities v.inputs e a))
    by_input (inr a) = output_means c unbroken v among e.name e.form (entity_listed v.outputs e (of_entities v.outputs e a))

    by_variable : Contains (entities v.inputs ++ entities v.outputs) e ⊎ Contains (entities v.variables) e → form_named c v e.name ≡ Some e.form
    by_variable (inl a) = by_input (Contains-append_cases (entities v.inputs) (entities v.outputs) e a)
    by_variable (inr a) = variable_means c unbroken v among e.name e.form (entity_listed v.variables e (of_entities v.variables e a))

kind_of_program : (k : UnitKind) (v : ProgramUnit) → v.kind ≡ k → is_program v ≡ true → k ≡ Program
kind_of_program (Function s place) v is h = let never : false ≡ true = sym (ap (λ (k : UnitKind). is_program (record v { kind = k })) is) ∙ h in cc
kind_of_program FunctionBlock v is h = let never : false ≡ true = sym (ap (λ (k : UnitKind). is_program (record v { kind = k })) is) ∙ h in cc
kind_of_program Program v is h = refl

module _ (c : Config) (p : ProgramUnit) (accepted : IsAccepted c p) where
  order : IsInOrder c p
  order = in_order c p accepted

  unbroken : HasNoFault (Broken Declaring c)
  unbroken = accepted.declared

  program : (unit_named c p.name.name ≡ Some p) × (is_program p ≡ true)
  program = program_is c p.name.name p accepted.program

  among : Contains c.units p
  among = found_unit c p.name.name p program.0

  kind : p.kind ≡ Program
  kind = kind_of_program p.kind p refl program.1

  -- WHAT IS KEPT IS IN THE LIST

  in_own : (x : Text × Scalar) → Contains (own_scalars c p) x → Contains (kept_scalars c p) x
  in_own x h = Contains-append_left (task_scalars c p) (given_scalars c p) x (Contains-append_left (own_scalars c p) (function_scalars c (used_units depth c p)) x h)

  in_functions : (x : Text × Scalar) → Contains (function_scalars c (used_units depth c p)) x → Contains (kept_scalars c p) x
  in_functions x h = Contains-append_left (task_scalars c p) (given_scalars c p) x (Contains-append_right (own_scalars c p) (function_scalars c (used_units depth c p)) x h)

  in_externals : (x : Text × Scalar) → Contains (external_scalars c p) x → Contains (kept_scalars c p) x
  in_externals x h = Contains-append_right (task_scalars c p) (given_scalars c p) x (Contains-append_left (external_scalars c p) (seen_scalars c p) x h)

  in_seen : (x : Text × Scalar) → Contains (seen_scalars c p) x → Contains (kept_scalars c p) x
  in_seen x h = Contains-append_right (task_scalars c p) (given_scalars c p) x (Contains-append_right (external_scalars c p) (seen_scalars c p) x h)

  -- the path of an entity
  at_entity : (n : ℕ) (path : Text) (es : List Entity) (name : Text) (form : Form) (x : Text × Scalar) → HasEntity es name form → Contains (scalars_at (instance_scalars n c) (under path name) form) x → Contains (entity_scalars (instance_scalars n c) path es) x
  at_entity n path es name form x e has =
      in_scalars (instance_scalars n c) path es e.0 x e.1
      (subst (λ (f : Form). Contains (scalars_at (instance_scalars n c) (under path e.0.name) f) x) (sym e.3) (subst (λ (t : Text). Contains (scalars_at (instance_scalars n c) (under path t) form) x) (sym e.2) has))

  program_listed : (q : Text) (s : Scalar) → Sees c p [] q s → Contains (kept_scalars c p) (q, s)
  program_listed q s sees = by_way (means c p sees.0 sees.1 sees.2)
    where
      some : sees.0 ≢ []
      some = (order.words p among sees.0 sees.1 sees.2).some

      at : (n : ℕ) → Deep c accepted.written unbroken p n sees.1 → Contains (scalars_at (instance_scalars n c) sees.0 sees.1) (q, s)
      at n deep = listed_at c accepted.written unbroken p order.shallow q s n sees.0 sees.1 some deep sees.3

      own : HasEntity (own_entities p) sees.0 sees.1 → Contains (kept_scalars c p) (q, s)
      own e =
          in_own (q, s) (at_entity depth [] (own_entities p) sees.0 sees.1 (q, s) e (at depth (λ block is.
          (p, [], refl, omega arith, (sees.0, (instance_of c unbroken p sees.0 block among (sees.2 ∙ ap Some is)).0)))))

      by_own : Owned p sees.0 sees.1 → Contains (kept_scalars c p) (q, s)
      by_own (as_result t place is same formed) = let never : Function t place ≡ Program = sym is ∙ kind in cc
      by_own (as_input l) = own (entity_of_input p sees.0 sees.1 l)
      by_own (as_output l) = own (entity_of_output p sees.0 sees.1 l)
      by_own (as_variable l) = own (entity_of_variable p sees.0 sees.1 l)
      by_own (as_external l) =
          in_externals (q, s) (at_entity zero [] (entities p.externals) sees.0 sees.1 (q, s) (listed_entity p.externals sees.0 sees.1 l) (at zero (λ block is. absurd (no_instance c unbroken l.declaration.declared block (external_typed c p l.declaration among l.among) (l.formed ∙ is)))))

      by_way : Owned p sees.0 sees.1 ⊎ Imaged c p sees.0 sees.1 → Contains (kept_scalars c p) (q, s)
      by_way (inl o) = by_own o
      by_way (inr i) =
          in_seen (q, s) (at_entity zero [] (seen_entities c p) sees.0 sees.1 (q, s) (image_entity i.image, in_map image_entity (filter (images_seen c p) (images c)) i.image (in_filter (images_seen c p) (images c) i.image i.among i.seen), i.spelled, i.formed)
          (at zero (λ block is. let never : false ≡ true = ap is_no_block (sym (i.formed ∙ is)) ∙ (image_is c i.image i.among).1 in cc)))

  function_listed : (f : ProgramUnit) (us : List ProgramUnit) (function q : Text) (s : Scalar) → IsStack c p f us → function_named c function ≡ Some f → Sees c f f.name.name q s → Contains (kept_scalars c p) (q, s)
  function_listed f us function q s stack is sees = by_stack us stack
    where
      unit_is : (unit_named c function ≡ Some f) × IsTrue (is_function f)
      unit_is = function_is_unit c function f is

      f_among : Contains c.units f
      f_among = found_unit c function f unit_is.0

      f_kind : (t : Scalar) × (place : Place) × (f.kind ≡ Function t place)
      f_kind = function_kind f.kind f refl unit_is.1

      no_program : is_program f ≡ true → ⊥
      no_program h = let never : Function f_kind.0 f_kind.1 ≡ Program = sym f_kind.2 ∙ kind_of_program f.kind f refl h in cc

      shallow : IsShallow c p
      shallow = order.shallow

      alone : (block : Text) → sees.1 ≡ BlockForm block → ⊥
      alone block is =
          let l = (instance_of c unbroken f sees.0 block f_among (sees.2 ∙ ap Some is)).0 in
          let t = is_scalar c unbroken l.declaration.declared (subst (λ (k : UnitKind). Contains (written_types c) (admitted_variables k, l.declaration.declared)) f_kind.2 (variable_typed c f l.declaration f_among l.among)) in
          let never : BlockForm block ≡ ScalarForm t.0 = sym l.formed ∙ t.1 in cc

      at : Contains (scalars_at (instance_scalars zero c) (under f.name.name sees.0) sees.1) (q, s)
      at = listed_at c accepted.written unbroken p shallow q s zero (under f.name.name sees.0) sees.1 (under_some f.name.name sees.0 (function_word c p order f f_among unit_is.1).some) (λ block is. absurd (alone block is)) sees.3

      entity_is : HasEntity (own_entities f ++ result_entities f.kind f.name.name) sees.0 sees.1
      entity_is = by_way (means c f sees.0 sees.1 sees.2)
        where
          first : HasEntity (own_entities f) sees.0 sees.1 → HasEntity (own_entities f ++ result_entities f.kind f.name.name) sees.0 sees.1
          first r = (r.0, Contains-append_left (own_entities f) (result_entities f.kind f.name.name) _ r.1, r.2, r.3)

          by_own : Owned f sees.0 sees.1 → HasEntity (own_entities f ++ result_entities f.kind f.name.name) sees.0 sees.1
          by_own (as_result t place is same formed) =
              let e : Entity = record { name = f.name.name; form = ScalarForm t; initial = None } in
              (e, Contains-append_right (own_entities f) (result_entities f.kind f.name.name) e (subst (λ (k : UnitKind). Contains (result_entities k f.name.name) e) (sym is) (at_head e [])), same, formed)
          by_own (as_input l) = first (entity_of_input f sees.0 sees.1 l)
          by_own (as_output l) = first (entity_of_output f sees.0 sees.1 l)
          by_own (as_variable l) = first (entity_of_variable f sees.0 sees.1 l)
          by_own (as_external l) = absurd (in_nothing l.declaration (subst (λ ds. Contains ds l.declaration) (accepted.written.externals f f_among (no_other (is_program f) refl)) l.among))
            where
              no_other : (b : Bool) → is_program f ≡ b → is_program f ≡ false
              no_other true h = absurd (no_program h)
              no_other false h = h

          by_way : Owned f sees.0 sees.1 ⊎ Imaged c f sees.0 sees.1 → HasEntity (own_entities f ++ result_entities f.kind f.name.name) sees.0 sees.1
          by_way (inl o) = by_own o
          by_way (inr i) = absurd (no_program i.program)

      by_stack : (us : List ProgramUnit) → IsStack c p f us → Contains (kept_scalars c p) (q, s)
      by_stack [] same = absurd (no_program (ap is_program same ∙ program.1))
      by_stack (u ∷ vs) stack =
          in_functions (q, s) (in_function_scalars c (used_units depth c p) f (q, s) (stack_used c p depth f u vs stack (let low = shallow f (u ∷ vs) stack in omega arith))
          (subst (λ (k : UnitKind). Contains (function_scalars_by c f k) (q, s)) (sym f_kind.2) (at_entity zero f.name.name (own_entities f ++ result_entities f.kind f.name.name) sees.0 sees.1 (q, s) entity_is at)))

  -- WHAT IS IN THE LIST IS KEPT

  own_kept : (x : Text × Scalar) → Contains (own_scalars c p) x → IsKept c p x.0 x.1
  own_kept x has =
      let r = of_scalars (instance_scalars depth c) [] (own_entities p) x has in
      let e = r.0 in
      let is = own_means c unbroken p among e r.1 in
      of_program (e.name, e.form, is, kept_at depth c e.name e.form x (order.words p among e.name e.form is).some r.2)

  function_kept : (x : Text × Scalar) → Contains (function_scalars c (used_units depth c p)) x → IsKept c p x.0 x.1
  function_kept x has = by_function (of_function_scalars c (used_units depth c p) x has)
    where
      by_function : (f : ProgramUnit) × Contains (used_units depth c p) f × Contains (function_scalars_by c f f.kind) x → IsKept c p x.0 x.1
      by_function (f, used, there) = by_kind f.kind refl (used_stack c p depth p [] refl f used)
        where
          by_kind : (k : UnitKind) → f.kind ≡ k → (u : ProgramUnit) × (us : List ProgramUnit) × IsStack c p f (u ∷ us) → IsKept c p x.0 x.1
          by_kind FunctionBlock is stack = absurd (in_nothing x (subst (λ (k : UnitKind). Contains (function_scalars_by c f k) x) is there))
          by_kind Program is stack = absurd (in_nothing x (subst (λ (k : UnitKind). Contains (function_scalars_by c f k) x) is there))
          by_kind (Function s place) is (u, us, stack) =
              let found = of_found c (used_names u) f stack.0 in
              let named : unit_named c f.name.name ≡ Some f = ap (unit_named c) (name_of c found.0 f found.2) ∙ found.2 in
              let function : is_function f ≡ true = ap (λ (k : UnitKind). is_function (record f { kind = k })) is in
              let is_named = function_by c f.name.name f named function in
              let f_among = found_unit c f.name.name f named in
              let r = of_scalars (instance_scalars zero c) f.name.name (own_entities f ++ result_entities f.kind f.name.name) x (subst (λ (k : UnitKind). Contains (function_scalars_by c f k) x) is there) in
              let e = r.0 in
              of_function f (u ∷ us) f.name.name stack is_named (e.name, e.form, by_entity e (Contains-append_cases (own_entities f) (result_entities f.kind f.name.name) e r.1) f_among, kept_at zero c (under f.name.name e.name) e.form x (under_some f.name.name e.name (function_word c p order f f_among function).some) r.2)
            where
              by_result : (e : Entity) → Contains (result_entities (Function s place) f.name.name) e → form_named c f e.name ≡ Some e.form
              by_result e (zero, low, same) = subst (λ (y : Entity). form_named c f y.name ≡ Some y.form) same (result_form c f s place is)
              by_result e (suc k, low, same) = absurd (omega arith)

              by_entity : (e : Entity) → Contains (own_entities f) e ⊎ Contains (result_entities f.kind f.name.name) e → Contains c.units f → form_named c f e.name ≡ Some e.form
              by_entity e (inl a) f_among = own_means c unbroken f f_among e a
              by_entity e (inr a) f_among = by_result e (subst (λ (k : UnitKind). Contains (result_entities k f.name.name) e) is a)

  external_kept : (x : Text × Scalar) → Contains (external_scalars c p) x → IsKept c p x.0 x.1
  external_kept x has =
      let r = of_scalars (instance_scalars zero c) [] (entities p.externals) x has in
      let e = r.0 in
      let is = external_means c unbroken p among e.name e.form (entity_listed p.externals e (of_entities p.externals e r.1)) in
      of_program (e.name, e.form, is, kept_at zero c e.name e.form x (order.words p among e.name e.form is).some r.2)

  seen_kept : (x : Text × Scalar) → Contains (seen_scalars c p) x → IsKept c p x.0 x.1
  seen_kept x has =
      let r = of_scalars (instance_scalars zero c) [] (seen_entities c p) x has in
      let i = of_map image_entity (filter (images_seen c p) (images c)) r.0 r.1 in
      let h = of_filter (images_seen c p) (images c) i.0 i.1 in
      let is = image_means c unbroken p among program.1 i.0 h.0 h.1 in
      let there = subst (λ (e : Entity). Contains (scalars_at (instance_scalars zero c) e.name e.form) x) (sym i.2) r.2 in
      of_program (i.0.variable.name, i.0.variable.form, is, kept_at zero c i.0.variable.name i.0.variable.form x (order.words p among i.0.variable.name i.0.variable.form is).some there)

  pub keeps_listed : KeepsListed c p
  keeps_listed = record {
    listed = listed_is;
    kept = kept_is;
    once = λ x y a b same. paths_once c p order x.0 x.1 y.1 (kept_is x a) (subst (λ (t : Text). IsKept c p t y.1) (sym same) (kept_is y b));
  }
    where
      listed_is : (q : Text) (s : Scalar) → IsKept c p q s → Contains (kept_scalars c p) (q, s)
      listed_is q s (of_program sees) = program_listed q s sees
      listed_is q s (of_function f us function stack is sees) = function_listed f us function q s stack is sees

      by_task : (x : Text × Scalar) → Contains (own_scalars c p) x ⊎ Contains (function_scalars c (used_units depth c p)) x → IsKept c p x.0 x.1
      by_task x (inl a) = own_kept x a
      by_task x (inr a) = function_kept x a

      by_given : (x : Text × Scalar) → Contains (external_scalars c p) x ⊎ Contains (seen_scalars c p) x → IsKept c p x.0 x.1
      by_given x (inl a) = external_kept x a
      by_given x (inr a) = seen_kept x a

      by_part : (x : Text × Scalar) → Contains (task_scalars c p) x ⊎ Contains (given_scalars c p) x → IsKept c p x.0 x.1
      by_part x (inl a) = by_task x (Contains-append_cases (own_scalars c p) (function_scalars c (used_units depth c p)) x a)
      by_part x (inr a) = by_given x (Contains-append_cases (external_scalars c p) (seen_scalars c p) x a)

      kept_is : (x : Text × Scalar) → Contains (kept_scalars c p) x → IsKept c p x.0 x.1
      kept_is x has = by_part x (Contains-append_cases (task_scalars c p) (given_scalars c p) x has)
