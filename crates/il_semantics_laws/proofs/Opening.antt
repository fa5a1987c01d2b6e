-- Globals and variables open with values of their declared sets, from the rules of declarations.
use Rattle.std.proofs.Common.{◌≡◌, ℕ, zero, suc, Bool, true, false, List, [], ◌∷◌, ◌++◌, refl, sym, ap, ◌∙◌, subst, Some, None, Option, Contains, ℤ, pos, ◌+ℤ◌, arith, ◌⊎◌, inl, inr}
use Rattle.std.proofs.lemmas.Option.{same_Some}
use Rattle.std.proofs.lemmas.List.Elements.{Contains-append_left, Contains-append_right, Contains-append_cases}
use Rattle.std.specs.Prelude.{option_map, flat_map, is_some, not}
use Rattle.il_syntax.specs.declared.tree.Config.{Config}
use Rattle.il_syntax.specs.declared.tree.Form.{Form}
use Rattle.il_syntax.specs.declared.tree.Form.TheVariants.{Scalar as ScalarForm, Array as ArrayForm, Block as BlockForm}
use Rattle.il_syntax.specs.declared.tree.Initial.{Initial}
use Rattle.il_syntax.specs.declared.tree.Literal.{Literal}
use Rattle.il_syntax.specs.declared.tree.Named.{Named}
use Rattle.il_syntax.specs.declared.tree.Scalar.{Scalar}
use Rattle.il_syntax.specs.declared.tree.Subrange.{Subrange}
use Rattle.il_syntax.specs.declared.tree.Declaration.{Declaration}
use Rattle.il_syntax.specs.declared.tree.WrittenType.{WrittenType}
use Rattle.il_syntax.specs.declared.tree.Unit.{Unit as ProgramUnit}
use Rattle.il_syntax.specs.declared.tree.UnitKind.{UnitKind}
use Rattle.il_syntax.specs.declared.tree.UnitKind.TheVariants.{Function, FunctionBlock, Program}
use Rattle.il_statics.specs.declared.names.StandardBlock.{StandardBlock}
use Rattle.il_statics.specs.Names.{standard_block, standard_variables, function_block_named, named_forms}
use Rattle.il_statics.specs.Declarations.{Admitted, ScalarsAlone, ScalarsAndArrays, admitted_variables, result_types, types_in, unit_types, written_types, all_declarations, unit_declarations, names_in, second_global, type_numbers, subrange_numbers, bounds_numbers, admits_arrays, unless}
use Rattle.il_statics.specs.Faults.{HasNoFault, Broken, Declaring, duplicate}
use Rattle.il_statics.specs.Written.{IsWritten, IsWord}
use Rattle.il_semantics.specs.declared.value.Value.{Value}
use Rattle.base_maps.specs.NameMap.{Text}
use Rattle.il_semantics.specs.Values.{IsOf}
use Rattle.il_semantics.specs.Meaning.{under, Entity, entities, own_entities, block_entities, standard_entities, result_entities, initial_value, elements, width, values_at, entity_values, instance_values, fresh_values, depth}
use Rattle.il_semantics.specs.Ranges.{HoldGlobals, HoldsTask, element_scalars, scalars_at, entity_scalars, instance_scalars, own_scalars, task_scalars, function_scalars, global_scalars}
use Rattle.il_semantics.specs.Scan.{used_units, function_values, opening_variables, opening_globals}
use Rattle.il_semantics_laws.specs.Accepted.{IsAccepted}
use Rattle.il_semantics_laws.specs.Listed.{HaveOneType, given_scalars, OpensInSets}
use Rattle.il_semantics_laws.proofs.Lists.{in_nothing, at_head, in_tail, in_map, of_map, in_flat_map, AreDistinct, distinct_names, only_one}
use Rattle.il_statics.proofs.Every.{all_of, contains_all, every_block}
use Rattle.il_semantics_laws.proofs.Blocks.{words_of}
use Rattle.il_semantics_laws.proofs.Paths.{Agree, agree_append, have_agreed, only_agreed}
use Rattle.il_semantics_laws.proofs.Declared.{IsListed, listed_name, entry_names, entry, from_inputs, from_outputs, from_variables}
use Rattle.il_semantics_laws.proofs.Meant.{no_22, no_25, input_typed, output_typed, variable_typed, result_typed, program_is, block_among}
use Rattle.il_semantics_laws.proofs.Named.{found_unit}
use Rattle.il_semantics_laws.proofs.Fresh.{IsGood, range_ok, default_ok, good_type, begins_ok, of_entities}
use Rattle.il_semantics_laws.proofs.Once.{splits, starts, plain, behind_of}
use Rattle.il_semantics_laws.proofs.Kept.{of_scalars, of_elements, entity_listed, kept_at}
use Rattle.il_semantics_laws.proofs.Used.{used_among}
use Rattle.il_semantics_laws.proofs.Listing.{keeps_listed, used_stack}

-- INITIAL VALUES

-- the initial value of a variable of this form is one of its declared set; that of an instance is its variables' (22, 23, 25)
abbrev BeginsIn : Form → Option Literal → Type 0
BeginsIn (ScalarForm s) initial = IsOf s (initial_value s initial)
BeginsIn (ArrayForm bounds element) initial = IsOf element (initial_value element None)
BeginsIn (BlockForm block) initial = Unit {0}

-- that of each variable is
abbrev AllBegin : List Entity → Type 0
AllBegin [] = Unit {0}
AllBegin (e ∷ es) = BeginsIn e.form e.initial × AllBegin es

-- those of each unit are
abbrev AllUnitsBegin : List ProgramUnit → Type 0
AllUnitsBegin [] = Unit {0}
AllUnitsBegin (u ∷ us) = AllBegin (own_entities u ++ result_entities u.kind u.name.name) × AllUnitsBegin us

-- DECLARATIONS

agree_elements : (n : ℕ) (path : Text) (z : ℤ) (s : Scalar) (v : Value) → IsOf s v → Agree (element_scalars n path z s) (elements n path z v)
agree_elements zero path z s v h = tt
agree_elements (suc n) path z s v h = (refl, h, agree_elements n path (z +ℤ pos 1) s v h)

-- an instance's variables agree
abbrev InnerAgree : (Text → Text → List (Text × Scalar)) → (Text → Text → List (Text × Value)) → Type 0
InnerAgree scalars values = (path block : Text) → Agree (scalars path block) (values path block)

agree_form : (scalars : Text → Text → List (Text × Scalar)) (values : Text → Text → List (Text × Value)) (path : Text) (form : Form) (initial : Option Literal) → InnerAgree scalars values → BeginsIn form initial → Agree (scalars_at scalars path form) (values_at values path initial form)
agree_form scalars values path (ScalarForm s) initial inner h = (refl, h, tt)
agree_form scalars values path (ArrayForm bounds element) initial inner h = agree_elements (width bounds) path bounds.lower element (initial_value element None) h
agree_form scalars values path (BlockForm block) initial inner h = inner path block

agree_entities : (scalars : Text → Text → List (Text × Scalar)) (values : Text → Text → List (Text × Value)) (path : Text) (es : List Entity) → InnerAgree scalars values → AllBegin es → Agree (entity_scalars scalars path es) (entity_values values path es)
agree_entities scalars values path [] inner h = tt
agree_entities scalars values path (e ∷ es) inner h =
    agree_append (scalars_at scalars (under path e.name) e.form) (entity_scalars scalars path es) (values_at values (under path e.name) e.initial e.form) (entity_values values path es)
    (agree_form scalars values (under path e.name) e.form e.initial inner h.0) (agree_entities scalars values path es inner h.1)

agree_instances : (n : ℕ) (c : Config) → ((block : Text) → AllBegin (block_entities c block)) → InnerAgree (instance_scalars n c) (instance_values n c)
agree_instances zero c h path block = tt
agree_instances (suc n) c h path block = agree_entities (instance_scalars n c) (instance_values n c) path (block_entities c block) (agree_instances n c h) (h block)

-- a function's variables agree
agree_fresh : (c : Config) (u : ProgramUnit) → ((block : Text) → AllBegin (block_entities c block)) → AllBegin (own_entities u ++ result_entities u.kind u.name.name)
    → Agree (entity_scalars (instance_scalars zero c) u.name.name (own_entities u ++ result_entities u.kind u.name.name)) (fresh_values c u)
agree_fresh c u blocks h = agree_entities (instance_scalars zero c) (instance_values zero c) u.name.name (own_entities u ++ result_entities u.kind u.name.name) (agree_instances zero c blocks) h

agree_functions : (c : Config) (us : List ProgramUnit) → ((block : Text) → AllBegin (block_entities c block)) → AllUnitsBegin us → Agree (function_scalars c us) (function_values c us)
agree_functions c [] blocks h = tt
agree_functions c (u ∷ us) blocks h = by u.kind refl (agree_functions c us blocks h.1)
  where
    fresh : Agree (entity_scalars (instance_scalars zero c) u.name.name (own_entities u ++ result_entities u.kind u.name.name)) (fresh_values c u)
    fresh = agree_fresh c u blocks h.0

    by : (k : UnitKind) → u.kind ≡ k → Agree (function_scalars c us) (function_values c us) → Agree (function_scalars c (u ∷ us)) (function_values c (u ∷ us))
    by (Function s place) is rest = rw is (agree_append _ _ _ _ (rw is at fresh) rest)
    by FunctionBlock is rest = rw is rest
    by Program is rest = rw is rest

-- FROM THE RULES

all_begin : (es : List Entity) → ((e : Entity) → Contains es e → BeginsIn e.form e.initial) → AllBegin es
all_begin [] each = tt
all_begin (e ∷ es) each = (each e (at_head e es), all_begin es (λ d among. each d (in_tail e es d among)))

-- a scalar without a subrange
abbrev is_plain : Form → Bool
is_plain (ScalarForm s) = not (is_some s.subrange)
is_plain (ArrayForm bounds s) = false
is_plain (BlockForm block) = false

plain_begins : (f : Form) → is_plain f ≡ true → BeginsIn f None
plain_begins (ScalarForm s) e = default_ok s (λ r some. let never : false ≡ true = sym (ap (λ o. not (is_some o)) some) ∙ e in cc)
plain_begins (ArrayForm bounds s) e = cc
plain_begins (BlockForm block) e = cc

-- the variables of standard blocks are such
words_plain : (b : StandardBlock) → all_of (λ (e : Text × Form). is_plain e.1) (words_of b) ≡ true
words_plain = every_block (λ b. all_of (λ (e : Text × Form). is_plain e.1) (words_of b)) refl

standard_begins : (b : StandardBlock) → AllBegin (standard_entities (standard_variables b))
standard_begins b = all_begin (standard_entities (standard_variables b)) each
  where
    each : (e : Entity) → Contains (standard_entities (standard_variables b)) e → BeginsIn e.form e.initial
    each e among =
        let r = of_map (λ (v : Text × Form). record { name = v.0; form = v.1; initial = None }) (words_of b) e among in
        subst (λ (x : Entity). BeginsIn x.form x.initial) r.2 (plain_begins r.0.1 (contains_all (λ (e : Text × Form). is_plain e.1) (words_of b) r.0 (words_plain b) r.1))

-- the type of a variable's elements
abbrev element_type : Form → Option Scalar
element_type (ScalarForm s) = Some s
element_type (ArrayForm bounds s) = Some s
element_type (BlockForm block) = None

flat_type : (c : Config) (path : Text) (form : Form) (x : Text × Scalar) → Contains (scalars_at (instance_scalars zero c) path form) x → element_type form ≡ Some x.1
flat_type c path (ScalarForm s) x (zero, low, same) = ap (λ (y : Text × Scalar). Some y.1) same
flat_type c path (ScalarForm s) x (suc k, low, same) = absurd (omega arith)
flat_type c path (ArrayForm bounds s) x has = let r = of_elements (width bounds) path bounds.lower s x has in ap (λ (y : Text × Scalar). Some y.1) r.2
flat_type c path (BlockForm block) x has = absurd (in_nothing x has)

module _ (c : Config) (unbroken : HasNoFault (Broken Declaring c)) where
  good_element : (a : Admitted) (t : WrittenType) (bounds : Subrange) (s : Scalar) → Contains (written_types c) (a, t) → t.form ≡ ArrayForm bounds s → IsGood s
  unfolding type_numbers
  good_element a t bounds s among is r some =
      range_ok s.elementary r
      (λ has. no_22 c unbroken a t among (subst (λ (f : Form). Contains (type_numbers c a f) 22) (sym is) (inside 22 has)))
      (λ has. no_25 c unbroken a t among (subst (λ (f : Form). Contains (type_numbers c a f) 25) (sym is) (inside 25 has)))
    where
      inside : (n : ℕ) → Contains (subrange_numbers s.elementary (Some r)) n → Contains (unless (admits_arrays a) 25 ++ bounds_numbers bounds ++ subrange_numbers s.elementary s.subrange) n
      inside n has = Contains-append_right (unless (admits_arrays a) 25 ++ bounds_numbers bounds) (subrange_numbers s.elementary s.subrange) n (subst (λ o. Contains (subrange_numbers s.elementary o) n) (sym some) has)

  declared_begins : (a : Admitted) (d : Declaration) → Contains (all_declarations c) d → Contains (written_types c) (a, d.declared) → BeginsIn d.declared.form (option_map (λ (i : Initial). i.literal) d.initial)
  declared_begins a d among typed = by_form d.declared.form refl
    where
      by_form : (f : Form) → d.declared.form ≡ f → BeginsIn f (option_map (λ (i : Initial). i.literal) d.initial)
      by_form (ScalarForm s) is = begins_ok c unbroken d s among is (good_type c unbroken a d.declared s typed is)
      by_form (ArrayForm bounds s) is = default_ok s (good_element a d.declared bounds s typed is)
      by_form (BlockForm block) is = tt

  entity_begins : (ds : List Declaration) (a : Admitted) → ((d : Declaration) → Contains ds d → Contains (all_declarations c) d) → ((d : Declaration) → Contains ds d → Contains (written_types c) (a, d.declared)) → (e : Entity) → Contains (entities ds) e → BeginsIn e.form e.initial
  entity_begins ds a more typed e has =
      let l = of_entities ds e has in
      subst (λ (x : Entity). BeginsIn x.form x.initial) l.same (declared_begins a l.declaration (more l.declaration l.among) (typed l.declaration l.among))

  unit_declared : (u : ProgramUnit) → Contains c.units u → (d : Declaration) → Contains (unit_declarations u) d → Contains (all_declarations c) d
  unit_declared u among d has = Contains-append_left (flat_map unit_declarations c.units) c.globals d (in_flat_map unit_declarations c.units u d among has)

  own_begins : (u : ProgramUnit) → Contains c.units u → (e : Entity) → Contains (own_entities u) e → BeginsIn e.form e.initial
  own_begins u among e has = by_variable (Contains-append_cases (entities u.inputs ++ entities u.outputs) (entities u.variables) e has)
    where
      by_input : Contains (entities u.inputs) e ⊎ Contains (entities u.outputs) e → BeginsIn e.form e.initial
      by_input (inl a) = entity_begins u.inputs ScalarsAlone (λ d h. unit_declared u among d (from_inputs u d h)) (λ d h. input_typed c u d among h) e a
      by_input (inr a) = entity_begins u.outputs ScalarsAlone (λ d h. unit_declared u among d (from_outputs u d h)) (λ d h. output_typed c u d among h) e a

      by_variable : Contains (entities u.inputs ++ entities u.outputs) e ⊎ Contains (entities u.variables) e → BeginsIn e.form e.initial
      by_variable (inl a) = by_input (Contains-append_cases (entities u.inputs) (entities u.outputs) e a)
      by_variable (inr a) = entity_begins u.variables (admitted_variables u.kind) (λ d h. unit_declared u among d (from_variables u d h)) (λ d h. variable_typed c u d among h) e a

  own_all : (u : ProgramUnit) → Contains c.units u → AllBegin (own_entities u)
  own_all u among = all_begin (own_entities u) (own_begins u among)

  result_begins : (u : ProgramUnit) → Contains c.units u → (k : UnitKind) → u.kind ≡ k → (e : Entity) → Contains (result_entities k u.name.name) e → BeginsIn e.form e.initial
  result_begins u among (Function s place) is e (zero, low, same) =
      subst (λ (x : Entity). BeginsIn x.form x.initial) same
      (default_ok s (good_type c unbroken ScalarsAlone (record { place = place; form = ScalarForm s }) s
      (result_typed c u _ among (subst (λ (k : UnitKind). Contains (result_types k) (ScalarsAlone, record { place = place; form = ScalarForm s })) (sym is) (at_head _ []))) refl))
  result_begins u among (Function s place) is e (suc k, low, same) = absurd (omega arith)
  result_begins u among FunctionBlock is e has = absurd (in_nothing e has)
  result_begins u among Program is e has = absurd (in_nothing e has)

  functions_begin : (us : List ProgramUnit) → ((u : ProgramUnit) → Contains us u → Contains c.units u) → AllUnitsBegin us
  functions_begin [] among = tt
  functions_begin (u ∷ us) among = (all_begin (own_entities u ++ result_entities u.kind u.name.name) each, functions_begin us (λ v has. among v (in_tail u us v has)))
    where
      here : Contains c.units u
      here = among u (at_head u us)

      by_side : (e : Entity) → Contains (own_entities u) e ⊎ Contains (result_entities u.kind u.name.name) e → BeginsIn e.form e.initial
      by_side e (inl a) = own_begins u here e a
      by_side e (inr a) = result_begins u here u.kind refl e a

      each : (e : Entity) → Contains (own_entities u ++ result_entities u.kind u.name.name) e → BeginsIn e.form e.initial
      each e has = by_side e (Contains-append_cases (own_entities u) (result_entities u.kind u.name.name) e has)

  blocks_begin : (block : Text) → AllBegin (block_entities c block)
  blocks_begin block = by_standard (standard_block block) refl
    where
      by_own : standard_block block ≡ None → (o : Option ProgramUnit) → function_block_named c block ≡ o → AllBegin (block_entities c block)
      by_own none None is = rw (is, none) tt
      by_own none (Some v) is = rw (is, none) (own_all v (block_among c block v is))

      by_standard : (o : Option StandardBlock) → standard_block block ≡ o → AllBegin (block_entities c block)
      by_standard (Some s) is = rw is (standard_begins s)
      by_standard None is = by_own is (function_block_named c block) refl

  globals_begin : AllBegin (entities c.globals)
  globals_begin =
      all_begin (entities c.globals) (entity_begins c.globals ScalarsAndArrays (λ d h. Contains-append_right (flat_map unit_declarations c.units) c.globals d h)
      (λ d h. Contains-append_right (flat_map unit_types c.units) (types_in ScalarsAndArrays c.globals) _ (in_map (λ (d : Declaration). (ScalarsAndArrays, d.declared)) c.globals d h)))

  -- two globals of one name are one (20)
  global_once : (name : Text) (f g : Form) → IsListed c.globals name f → IsListed c.globals name g → f ≡ g
  global_once name f g a b =
      let apart = subst AreDistinct (sym (entry_names c.globals)) (distinct_names (λ (n : Named). n.name) (names_in c.globals) (λ n again. unbroken 20 n.place (duplicate refl (second_global n again refl)))) in
      let one = only_one (λ (e : Text × Form). e.0) (named_forms c.globals) (a.name_of.name, a.declaration.declared.form) (b.name_of.name, b.declaration.declared.form) apart
      (entry c.globals a.declaration a.name_of a.among a.listed) (entry c.globals b.declaration b.name_of b.among b.listed) (a.spelled ∙ sym b.spelled) in
      sym a.formed ∙ ap (λ (e : Text × Form). e.1) one ∙ b.formed

  -- so no path of a global has two types
  pub globals_once : IsWritten c → HaveOneType (global_scalars c)
  globals_once written x y a b same =
      let r = of_scalars (instance_scalars zero c) [] (entities c.globals) x a in
      let s = of_scalars (instance_scalars zero c) [] (entities c.globals) y b in
      let l = entity_listed c.globals r.0 (of_entities c.globals r.0 r.1) in
      let m = entity_listed c.globals s.0 (of_entities c.globals s.0 s.1) in
      let first = behind_of c x.0 x.1 r.0.name r.0.form (kept_at zero c r.0.name r.0.form x (word r.0 l).some r.2) in
      let second = behind_of c y.0 y.1 s.0.name s.0.form (kept_at zero c s.0.name s.0.form y (word s.0 m).some s.2) in
      let cut = splits r.0.name s.0.name first.0 second.0 (plain r.0.name (word r.0 l)) (plain s.0.name (word s.0 m)) (starts c x.1 first.0 r.0.form first.2) (starts c y.1 second.0 s.0.form second.2) (sym first.1 ∙ same ∙ second.1) in
      let forms = global_once r.0.name r.0.form s.0.form l (subst (λ (t : Text). IsListed c.globals t s.0.form) (sym cut.0) m) in
      same_Some x.1 y.1 (sym (flat_type c (under [] r.0.name) r.0.form x r.2) ∙ ap element_type forms ∙ flat_type c (under [] s.0.name) s.0.form y s.2)
    where
      word : (e : Entity) → IsListed c.globals e.name e.form → IsWord e.name
      word e l = subst IsWord l.spelled (written.globals l.name_of (listed_name c.globals e.name e.form l))

-- THE OPENING

pub globals_open : (c : Config) → IsWritten c → HasNoFault (Broken Declaring c) → HoldGlobals c (opening_globals c)
unfolding opening_globals
globals_open c written unbroken =
    have_agreed (global_scalars c) (entity_values (instance_values zero c) [] (entities c.globals)) (agree_entities (instance_scalars zero c) (instance_values zero c) [] (entities c.globals) (agree_instances zero c (blocks_begin c unbroken)) (globals_begin c unbroken)) (globals_once c unbroken written)

pub variables_open : (c : Config) (p : ProgramUnit) → IsAccepted c p → HoldsTask c p (opening_variables c p)
unfolding opening_variables
variables_open c p accepted =
    record {
      each = have_agreed (task_scalars c p) (entity_values (instance_values depth c) [] (own_entities p) ++ function_values c (used_units depth c p)) all once;
      only = λ q v is. only_agreed (task_scalars c p) (entity_values (instance_values depth c) [] (own_entities p) ++ function_values c (used_units depth c p)) q v all is;
    }
  where
    unbroken : HasNoFault (Broken Declaring c)
    unbroken = accepted.declared

    among : Contains c.units p
    among = found_unit c p.name.name p (program_is c p.name.name p accepted.program).0

    used : (u : ProgramUnit) → Contains (used_units depth c p) u → Contains c.units u
    used u has = let r = used_stack c p depth p [] refl u has in used_among c r.0 u r.2.0

    own : Agree (own_scalars c p) (entity_values (instance_values depth c) [] (own_entities p))
    own = agree_entities (instance_scalars depth c) (instance_values depth c) [] (own_entities p) (agree_instances depth c (blocks_begin c unbroken)) (own_all c unbroken p among)

    all : Agree (task_scalars c p) (entity_values (instance_values depth c) [] (own_entities p) ++ function_values c (used_units depth c p))
    all =
        agree_append (own_scalars c p) (function_scalars c (used_units depth c p)) (entity_values (instance_values depth c) [] (own_entities p)) (function_values c (used_units depth c p)) own
        (agree_functions c (used_units depth c p) (blocks_begin c unbroken) (functions_begin c unbroken (used_units depth c p) used))

    once : HaveOneType (task_scalars c p)
    once x y a b same = (keeps_listed c p accepted).once x y (Contains-append_left (task_scalars c p) (given_scalars c p) x a) (Contains-append_left (task_scalars c p) (given_scalars c p) y b) same

pub opens_in_sets : (c : Config) (p : ProgramUnit) → IsAccepted c p → OpensInSets c p
opens_in_sets c p accepted = record { globals = globals_open c accepted.written accepted.declared; variables = variables_open c p accepted }
