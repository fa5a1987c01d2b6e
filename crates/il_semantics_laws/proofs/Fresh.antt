-- That a function's variables begin with values of their declared sets, from the rules of types and initial values.
use Rattle.std.proofs.Common.{◌≡◌, ℕ, zero, suc, ℤ, pos, Bool, true, false, ◌&&◌, List, [], ◌∷◌, ◌++◌, map, refl, sym, ap, ◌∙◌, Some, None, Option, subst, arith, ◌⊎◌, inl, inr}
use Rattle.std.proofs.lemmas.Int.{ints}
use Rattle.std.proofs.lemmas.List.Elements.{Contains-append_left, Contains-append_cases}
use Rattle.std.specs.Prelude.{Contains, option_map, flat_map, if◌then◌else◌, int_le, ◌≤ℤ◌}
use Rattle.il_syntax.specs.ElementaryTypes.{limits, is_whole, is_same_type}
use Rattle.il_syntax.specs.declared.tree.Elementary.{Elementary}
use Rattle.il_syntax.specs.declared.tree.Elementary.TheVariants.{Bool as BoolType, Sint, Int, Dint, Usint, Uint, Udint, Time}
use Rattle.il_syntax.specs.declared.tree.Config.{Config}
use Rattle.il_syntax.specs.declared.tree.Unit.{Unit as ProgramUnit}
use Rattle.il_syntax.specs.declared.tree.UnitKind.{UnitKind}
use Rattle.il_syntax.specs.declared.tree.UnitKind.TheVariants.{Function, FunctionBlock, Program}
use Rattle.il_syntax.specs.declared.tree.Scalar.{Scalar}
use Rattle.il_syntax.specs.declared.tree.Subrange.{Subrange}
use Rattle.il_syntax.specs.declared.tree.Place.{Place}
use Rattle.il_syntax.specs.declared.tree.Named.{Named}
use Rattle.il_syntax.specs.declared.tree.Initial.{Initial}
use Rattle.il_syntax.specs.declared.tree.Literal.{Literal}
use Rattle.il_syntax.specs.declared.tree.Literal.TheVariants.{Truth, Bare, Whole, Time as Duration}
use Rattle.il_syntax.specs.declared.tree.Declaration.{Declaration}
use Rattle.il_syntax.specs.declared.tree.WrittenType.{WrittenType}
use Rattle.il_syntax.specs.declared.tree.Form.{Form}
use Rattle.il_syntax.specs.declared.tree.Form.TheVariants.{Scalar as ScalarForm}
use Rattle.il_statics.specs.Names.{or_else, is_function, form_named}
use Rattle.il_statics.specs.Declarations.{Admitted, ScalarsAlone, admitted_variables, result_types, written_types, all_declarations, unit_declarations, declared_limits, is_within, is_within_any, has_value, unless, subrange_numbers, type_numbers, initial_numbers, is_of_type, written_type, literal_lies_in, initial_outside as outside, initial_of_other_type}
use Rattle.il_statics.specs.Faults.{initial_outside, other_type, HasNoFault, Broken, Declaring}
use Rattle.base_maps.specs.NameMap.{Text}
use Rattle.il_semantics.specs.declared.value.Value.{Value}
use Rattle.il_semantics.specs.declared.value.Value.TheVariants.{Boolean, Integer}
use Rattle.il_semantics.specs.Values.{IsOf, IsValueIn, zero_of}
use Rattle.il_semantics.specs.Meaning.{under, Entity, entities, own_entities, result_entities, values_at, entity_values, instance_values, fresh_values, initial_value, default_value, literal_value}
use Rattle.il_semantics_laws.specs.Agreement.{Sees, itself}
use Rattle.il_semantics_laws.specs.Soundness.{BeginsFresh}
use Rattle.il_semantics_laws.proofs.Named.{function_is_unit, result_form}
use Rattle.il_semantics_laws.proofs.Lists.{in_nothing, at_head, in_tail, in_flat_map}
use Rattle.il_semantics_laws.proofs.Declared.{IsListed, from_inputs, from_outputs, from_variables, input_means, output_means, variable_means}
use Rattle.il_semantics_laws.proofs.Meant.{function_among, input_typed, output_typed, variable_typed, result_typed, is_scalar, no_22, no_25}

-- VALUES

pub within_is : (s : Subrange) (z : ℤ) → is_within s z ≡ true → (s.lower ≤ℤ z) × (z ≤ℤ s.upper)
within_is s z e = (grind (arith, ints), grind (arith, ints))

below : (a b : ℤ) → int_le a b ≡ true → a ≤ℤ b
below a b e = grind (arith, ints)

-- a number within the limits that are there
number_ok : (o : Option Subrange) (z : ℤ) → is_within_any o z ≡ true → IsValueIn o (Integer z)
number_ok None z e = cc
number_ok (Some s) z e = within_is s z e

bool_by : (e : Elementary) → is_same_type e BoolType ≡ true → e ≡ BoolType
bool_by BoolType h = refl
bool_by Sint h = cc
bool_by Int h = cc
bool_by Dint h = cc
bool_by Usint h = cc
bool_by Uint h = cc
bool_by Udint h = cc
bool_by Time h = cc

zero_ok : (e : Elementary) → IsValueIn (limits e) (zero_of e)
zero_ok BoolType = tt
zero_ok Sint = within_is _ (pos 0) refl
zero_ok Int = within_is _ (pos 0) refl
zero_ok Dint = within_is _ (pos 0) refl
zero_ok Usint = within_is _ (pos 0) refl
zero_ok Uint = within_is _ (pos 0) refl
zero_ok Udint = within_is _ (pos 0) refl
zero_ok Time = within_is _ (pos 0) refl

-- SUBRANGES

pub both : (a b : Bool) → a ≡ true → b ≡ true → (a && b) ≡ true
both true true h k = refl
both true false h k = k
both false b h k = h

last_of_three : (a b d : Bool) → (a && b && d) ≡ true → d ≡ true
last_of_three true true d h = h
last_of_three true false d h = cc
last_of_three false true d h = cc
last_of_three false false d h = cc

-- a test whose failure names a number that is not named
passes : (b : Bool) (n : ℕ) → ¬ Contains (unless b n) n → b ≡ true
passes true n none = refl
passes false n none = absurd (none (at_head n []))

-- a subrange is one of an integer type and not empty (22, 25)
pub range_ok : (e : Elementary) (r : Subrange) → ¬ Contains (subrange_numbers e (Some r)) 22 → ¬ Contains (subrange_numbers e (Some r)) 25 → (is_whole e ≡ true) × (r.lower ≤ℤ r.upper)
range_ok e r no_empty no_other = by_whole (is_whole e) refl no_empty no_other
  where
    by_whole : (b : Bool) → is_whole e ≡ b → ¬ Contains (if b then unless (has_value e r.lower && has_value e r.upper && int_le r.lower r.upper) 22 else 25 ∷ []) 22
        → ¬ Contains (if b then unless (has_value e r.lower && has_value e r.upper && int_le r.lower r.upper) 22 else 25 ∷ []) 25 → (is_whole e ≡ true) × (r.lower ≤ℤ r.upper)
    by_whole true is a b = (is, below r.lower r.upper (last_of_three (has_value e r.lower) (has_value e r.upper) (int_le r.lower r.upper) (passes _ 22 a)))
    by_whole false is a b = absurd (b (at_head 25 []))

-- what is known of a written scalar type
abbrev pub IsGood : Scalar → Type 0
IsGood s = (r : Subrange) → s.subrange ≡ Some r → (is_whole s.elementary ≡ true) × (r.lower ≤ℤ r.upper)

pub default_ok : (s : Scalar) → IsGood s → IsOf s (initial_value s None)
default_ok s good = by_range s.subrange refl
  where
    by_range : (o : Option Subrange) → s.subrange ≡ o → IsValueIn (or_else o (limits s.elementary)) (default_value s.elementary o)
    by_range None is = zero_ok s.elementary
    by_range (Some r) is = (below r.lower r.lower (grind (arith, ints)), (good r is).1)

-- a BOOL has no limits
bool_limits : (s : Scalar) → IsGood s → s.elementary ≡ BoolType → declared_limits s ≡ None
bool_limits s good bool = by_range s.subrange refl
  where
    by_range : (o : Option Subrange) → s.subrange ≡ o → or_else o (limits s.elementary) ≡ None
    by_range None is = ap limits bool
    by_range (Some r) is = let never : false ≡ true = sym (ap is_whole bool) ∙ (good r is).0 in cc

-- INITIAL VALUES

literal_ok : (s : Scalar) (l : Literal) → IsGood s → is_of_type s.elementary (written_type l) ≡ true → literal_lies_in (declared_limits s) l ≡ true → IsOf s (literal_value l)
literal_ok s (Truth b) good is lies = subst (λ o. IsValueIn o (Boolean b)) (sym (bool_limits s good (bool_by s.elementary is))) tt
literal_ok s (Bare z) good is lies = number_ok (declared_limits s) z lies
literal_ok s (Whole e z) good is lies = number_ok (declared_limits s) z lies
literal_ok s (Duration z) good is lies = number_ok (declared_limits s) z lies

-- of a literal that breaks no rule (23, 25)
initial_is : (s : Scalar) (l : Literal) → ¬ Contains (initial_numbers (ScalarForm s) l) 23 → ¬ Contains (initial_numbers (ScalarForm s) l) 25 → (is_of_type s.elementary (written_type l) ≡ true) × (literal_lies_in (declared_limits s) l ≡ true)
initial_is s l no_outside no_other = by_type (is_of_type s.elementary (written_type l)) refl no_outside no_other
  where
    by_type : (b : Bool) → is_of_type s.elementary (written_type l) ≡ b → ¬ Contains (if b then unless (literal_lies_in (declared_limits s) l) 23 else 25 ∷ []) 23
        → ¬ Contains (if b then unless (literal_lies_in (declared_limits s) l) 23 else 25 ∷ []) 25 → (is_of_type s.elementary (written_type l) ≡ true) × (literal_lies_in (declared_limits s) l ≡ true)
    by_type true is a b = (is, passes _ 23 a)
    by_type false is a b = absurd (b (at_head 25 []))

module _ (c : Config) (unbroken : HasNoFault (Broken Declaring c)) where
  pub good_type : (a : Admitted) (t : WrittenType) (s : Scalar) → Contains (written_types c) (a, t) → t.form ≡ ScalarForm s → IsGood s
  unfolding type_numbers
  good_type a t s among is r some =
      range_ok s.elementary r
      (λ has. no_22 c unbroken a t among (subst (λ (f : Form). Contains (type_numbers c a f) 22) (sym is) (subst (λ o. Contains (subrange_numbers s.elementary o) 22) (sym some) has)))
      (λ has. no_25 c unbroken a t among (subst (λ (f : Form). Contains (type_numbers c a f) 25) (sym is) (subst (λ o. Contains (subrange_numbers s.elementary o) 25) (sym some) has)))

  -- a declared scalar begins with a value of its set
  pub begins_ok : (d : Declaration) (s : Scalar) → Contains (all_declarations c) d → d.declared.form ≡ ScalarForm s → IsGood s → IsOf s (initial_value s (option_map (λ i. i.literal) d.initial))
  begins_ok d s among is good = by_initial d.initial refl
    where
      by_initial : (o : Option Initial) → d.initial ≡ o → IsOf s (initial_value s (option_map (λ (i : Initial). i.literal) o))
      by_initial None none = default_ok s good
      by_initial (Some i) some =
          let r = initial_is s i.literal
          (λ has. unbroken 23 i.place (initial_outside refl (outside (d, i, among, some, subst (λ (f : Form). Contains (initial_numbers f i.literal) 23) (sym is) has, refl))))
          (λ has. unbroken 25 i.place (other_type refl (initial_of_other_type (d, i, among, some, subst (λ (f : Form). Contains (initial_numbers f i.literal) 25) (sym is) has, refl)))) in
          literal_ok s i.literal good r.0 r.1

-- ENTITIES

abbrev pub entity : Declaration → Named → Entity
entity d n = record { name = n.name; form = d.declared.form; initial = option_map (λ i. i.literal) d.initial }

-- the declaration of an entity
pub record IsEntity (ds : List Declaration) (x : Entity) : Type 0 where
  pub declaration : Declaration
  pub name_of : Named
  pub among : Contains ds declaration
  pub listed : Contains declaration.names name_of
  pub same : entity declaration name_of ≡ x

of_names : (d : Declaration) (ns : List Named) (x : Entity) → Contains (map (entity d) ns) x → (n : Named) × Contains ns n × (entity d n ≡ x)
of_names d [] x among = absurd (in_nothing x among)
of_names d (n ∷ ns) x (zero, low, same) = (n, at_head n ns, same)
of_names d (n ∷ ns) x (suc k, low, same) = let r = of_names d ns x (k, omega arith, same) in (r.0, in_tail n ns r.0 r.1, r.2)

pub of_entities : (ds : List Declaration) (x : Entity) → Contains (entities ds) x → IsEntity ds x
of_entities [] x among = absurd (in_nothing x among)
of_entities (d ∷ ds) x among = by_side (Contains-append_cases (map (entity d) d.names) (entities ds) x among) (of_entities ds x)
  where
    by_side : Contains (map (entity d) d.names) x ⊎ Contains (entities ds) x → (Contains (entities ds) x → IsEntity ds x) → IsEntity (d ∷ ds) x
    by_side (inl here) more = let r = of_names d d.names x here in record { declaration = d; name_of = r.0; among = at_head d ds; listed = r.1; same = r.2 }
    by_side (inr there) more = let r = more there in record { declaration = r.declaration; name_of = r.name_of; among = in_tail d ds r.declaration r.among; listed = r.listed; same = r.same }

-- a value is one of an entity
of_values : (inner : Text → Text → List (Text × Value)) (path : Text) (es : List Entity) (v : Text × Value) → Contains (entity_values inner path es) v → (x : Entity) × Contains es x × Contains (values_at inner (under path x.name) x.initial x.form) v
of_values inner path [] v among = absurd (in_nothing v among)
of_values inner path (e ∷ es) v among = by_side (Contains-append_cases (values_at inner (under path e.name) e.initial e.form) (entity_values inner path es) v among) (of_values inner path es v)
  where
    by_side : Contains (values_at inner (under path e.name) e.initial e.form) v ⊎ Contains (entity_values inner path es) v
        → (Contains (entity_values inner path es) v → (x : Entity) × Contains es x × Contains (values_at inner (under path x.name) x.initial x.form) v)
        → (x : Entity) × Contains (e ∷ es) x × Contains (values_at inner (under path x.name) x.initial x.form) v
    by_side (inl here) more = (e, at_head e es, here)
    by_side (inr there) more = let r = more there in (r.0, in_tail e es r.0 r.1, r.2)

-- FUNCTIONS

abbrev Begins : Config → ProgramUnit → Text × Value → Type 0
Begins c f v = (s : Scalar) × Sees c f f.name.name v.0 s × IsOf s v.1

-- a scalar that means a variable of the function
scalar_begins : (c : Config) (f : ProgramUnit) (name : Text) (s : Scalar) (initial : Option Literal) (v : Text × Value) → form_named c f name ≡ Some (ScalarForm s) → IsOf s (initial_value s initial) → Contains ((under f.name.name name, initial_value s initial) ∷ []) v → Begins c f v
scalar_begins c f name s initial v means ok (zero, low, same) =
    (s, (name, ScalarForm s, means, itself (under f.name.name name) (ScalarForm s) refl (ap (λ (e : Text × Value). e.0) (sym same))), subst (IsOf s) (ap (λ (e : Text × Value). e.1) same) ok)
scalar_begins c f name s initial v means ok (suc n, low, same) = absurd (omega arith)

module _ (c : Config) (unbroken : HasNoFault (Broken Declaring c)) (f : ProgramUnit) (is_unit : Contains c.units f) where
  -- a variable of a list of scalars
  listed_begins : (ds : List Declaration) → ((d : Declaration) → Contains ds d → Contains (unit_declarations f) d) → ((d : Declaration) → Contains ds d → Contains (written_types c) (ScalarsAlone, d.declared))
      → ((name : Text) (form : Form) → IsListed ds name form → form_named c f name ≡ Some form) → (x : Entity) → IsEntity ds x → (v : Text × Value) → Contains (values_at (instance_values zero c) (under f.name.name x.name) x.initial x.form) v → Begins c f v
  listed_begins ds more typed means x l v has =
      let d = l.declaration in
      let n = l.name_of in
      let scalar = is_scalar c unbroken d.declared (typed d l.among) in
      let there = subst (λ (y : Entity). Contains (values_at (instance_values zero c) (under f.name.name y.name) y.initial y.form) v) (sym l.same) has in
      let alone = subst (λ (g : Form). Contains (values_at (instance_values zero c) (under f.name.name n.name) (option_map (λ (i : Initial). i.literal) d.initial) g) v) scalar.1 there in
      scalar_begins c f n.name scalar.0 (option_map (λ (i : Initial). i.literal) d.initial) v
      (means n.name (ScalarForm scalar.0) (record { declaration = d; name_of = n; among = l.among; listed = l.listed; spelled = refl; formed = scalar.1 }))
      (begins_ok c unbroken d scalar.0 (Contains-append_left (flat_map unit_declarations c.units) c.globals d (in_flat_map unit_declarations c.units f d is_unit (more d l.among))) scalar.1 (good_type c unbroken ScalarsAlone d.declared scalar.0 (typed d l.among) scalar.1))
      alone

  function_begins : (s : Scalar) (place : Place) → f.kind ≡ Function s place → (v : Text × Value) → Contains (fresh_values c f) v → Begins c f v
  function_begins s place kind v among = by_entity (of_values (instance_values zero c) f.name.name (own_entities f ++ result_entities f.kind f.name.name) v among)
    where
      alone : (d : Declaration) → Contains f.variables d → Contains (written_types c) (ScalarsAlone, d.declared)
      alone d has = subst (λ (k : UnitKind). Contains (written_types c) (admitted_variables k, d.declared)) kind (variable_typed c f d is_unit has)

      good : IsGood s
      good = good_type c unbroken ScalarsAlone (record { place = place; form = ScalarForm s }) s
          (result_typed c f _ is_unit (subst (λ (k : UnitKind). Contains (result_types k) (ScalarsAlone, record { place = place; form = ScalarForm s })) (sym kind) (at_head _ []))) refl

      by_result : (x : Entity) → Contains (values_at (instance_values zero c) (under f.name.name x.name) x.initial x.form) v → Contains (result_entities (Function s place) f.name.name) x → Begins c f v
      by_result x has (zero, low, same) =
          scalar_begins c f f.name.name s None v (result_form c f s place kind) (default_ok s good)
          (subst (λ (y : Entity). Contains (values_at (instance_values zero c) (under f.name.name y.name) y.initial y.form) v) (sym same) has)
      by_result x has (suc n, low, same) = absurd (omega arith)

      by_input : (x : Entity) → Contains (values_at (instance_values zero c) (under f.name.name x.name) x.initial x.form) v → Contains (entities f.inputs) x ⊎ Contains (entities f.outputs) x → Begins c f v
      by_input x has (inl a) = listed_begins f.inputs (from_inputs f) (λ d h. input_typed c f d is_unit h) (input_means c unbroken f is_unit) x (of_entities f.inputs x a) v has
      by_input x has (inr a) = listed_begins f.outputs (from_outputs f) (λ d h. output_typed c f d is_unit h) (output_means c unbroken f is_unit) x (of_entities f.outputs x a) v has

      by_variable : (x : Entity) → Contains (values_at (instance_values zero c) (under f.name.name x.name) x.initial x.form) v → Contains (entities f.inputs ++ entities f.outputs) x ⊎ Contains (entities f.variables) x → Begins c f v
      by_variable x has (inl a) = by_input x has (Contains-append_cases (entities f.inputs) (entities f.outputs) x a)
      by_variable x has (inr a) = listed_begins f.variables (from_variables f) alone (variable_means c unbroken f is_unit) x (of_entities f.variables x a) v has

      by_own : (x : Entity) → Contains (values_at (instance_values zero c) (under f.name.name x.name) x.initial x.form) v → Contains (own_entities f) x ⊎ Contains (result_entities f.kind f.name.name) x → Begins c f v
      by_own x has (inl a) = by_variable x has (Contains-append_cases (entities f.inputs ++ entities f.outputs) (entities f.variables) x a)
      by_own x has (inr a) = by_result x has (subst (λ (k : UnitKind). Contains (result_entities k f.name.name) x) kind a)

      by_entity : (x : Entity) × Contains (own_entities f ++ result_entities f.kind f.name.name) x × Contains (values_at (instance_values zero c) (under f.name.name x.name) x.initial x.form) v → Begins c f v
      by_entity r = by_own r.0 r.2 (Contains-append_cases (own_entities f) (result_entities f.kind f.name.name) r.0 r.1)

pub function_kind : (k : UnitKind) (f : ProgramUnit) → f.kind ≡ k → is_function f ≡ true → (s : Scalar) × (place : Place) × (f.kind ≡ Function s place)
function_kind (Function s place) f is h = (s, place, is)
function_kind FunctionBlock f is h = let never : false ≡ true = sym (ap (λ (k : UnitKind). is_function (record f { kind = k })) is) ∙ h in cc
function_kind Program f is h = let never : false ≡ true = sym (ap (λ (k : UnitKind). is_function (record f { kind = k })) is) ∙ h in cc

pub begins_fresh : (c : Config) → HasNoFault (Broken Declaring c) → BeginsFresh c
begins_fresh c unbroken f function v is among =
    let kind = function_kind f.kind f refl (function_is_unit c function f is).1 in
    function_begins c unbroken f (function_among c function f is) kind.0 kind.1 kind.2 v among
