-- That names are plain and are once, from the rules of declarations (20, 22, 23).
use Rattle.std.proofs.Common.{◌≡◌, ◌≢◌, ℕ, zero, suc, ℤ, pos, negsuc, neg_ℤ, ◌+ℤ◌, ◌-ℤ◌, ◌≤ℤ◌, ◌^◌, Bool, true, false, ◌&&◌, not, List, [], ◌∷◌, ◌++◌, map, refl, sym, ap, ◌∙◌, None, subst, arith, ◌⊎◌, inl, inr, append_assoc}
use Rattle.std.proofs.lemmas.Int.{ints}
use Rattle.std.proofs.lemmas.List.Elements.{Contains-append_left, Contains-append_right, Contains-append_cases}
use Rattle.std.proofs.lemmas.Slice.Eq.{bytes_eq-Decides}
use Rattle.std.specs.Prelude.{Contains, flat_map, bytes_eq, if◌then◌else◌, int_le, int_lt, is_some, find, filter, ◌||◌}
use Rattle.il_syntax.specs.declared.tree.Config.{Config}
use Rattle.il_syntax.specs.declared.tree.Unit.{Unit as ProgramUnit}
use Rattle.il_syntax.specs.declared.tree.Declaration.{Declaration}
use Rattle.il_syntax.specs.declared.tree.Named.{Named}
use Rattle.il_syntax.specs.declared.tree.WrittenType.{WrittenType}
use Rattle.il_syntax.specs.declared.tree.Size.{Size}
use Rattle.il_syntax.specs.declared.tree.Subrange.{Subrange}
use Rattle.il_syntax.specs.declared.tree.Elementary.TheVariants.{Int}
use Rattle.il_syntax.specs.declared.tree.Form.{Form}
use Rattle.il_syntax.specs.declared.tree.Form.TheVariants.{Scalar as ScalarForm, Array as ArrayForm, Block as BlockForm}
use Rattle.il_syntax.specs.declared.tree.UnitKind.{UnitKind}
use Rattle.il_syntax.specs.declared.tree.UnitKind.TheVariants.{Function, FunctionBlock, Program}
use Rattle.il_statics.specs.Limits.{cars_limits, slots_limits}
use Rattle.il_statics.specs.declared.names.StandardBlock.{StandardBlock}
use Rattle.il_statics.specs.Names.{is_program, is_program_kind, ImageName, image_of, image_name, is_predeclared, standard_function, standard_block, standard_variables, sees}
use Rattle.il_statics.specs.Declarations.{Admitted, ScalarsAlone, ScalarsAndArrays, admitted_variables, admits_arrays, types_in, unit_types, written_types, unit_declarations, unit_names, names_in, type_numbers, bounds_numbers, subrange_numbers, unless, has_value, is_within, sizes_of, predeclared_unit, predeclared_variable, second_variable, second_global, size_outside}
use Rattle.il_statics.specs.Faults.{duplicate, initial_outside, HasNoFault, Broken, Declaring}
use Rattle.il_statics.specs.Written.{IsWord, IsWritten}
use Rattle.base_maps.specs.NameMap.{Text}
use Rattle.il_semantics.specs.Meaning.{Entity, entities, own_entities, result_entities, block_entities, standard_entities, width, width_of}
use Rattle.il_semantics_laws.proofs.Lists.{in_nothing, at_head, in_tail, in_map, in_flat_map, AreDistinct, distinct_names}
use Rattle.il_semantics_laws.proofs.Fresh.{entity, of_entities}
use Rattle.il_semantics_laws.proofs.Meant.{no_22, input_typed, output_typed, variable_typed, external_typed}
use Rattle.il_statics.proofs.Every.{all_of, first_of_two, second_of_two, contains_all, every_block}
use Rattle.il_semantics_laws.proofs.Words.{is_word, word_by, are_apart_by}
use Rattle.load_slots.specs.Cells.{IsPlain, HasNone, HasShort, IsShort, AreNamed}
use Rattle.load_slots.specs.Places.{seen_among, seen_image, is_common, unit_entities}
use Rattle.load_slots.specs.Whole.{are_named}
use Rattle.il_semantics_laws.proofs.Declared.{IsListed, no_unit}
use Rattle.load_slots.proofs.Declared.{named_front, no_others}
use Rattle.load_slots.proofs.Tested.{EachOf, named_is, of_blocks}

-- LISTS

pub plain_of : (t : Text) → ¬ Contains t 46 → ¬ Contains t 91 → IsPlain t
plain_of [] a b = tt
plain_of (x ∷ xs) a b = (
  λ e. a (subst (Contains (x ∷ xs)) e (at_head x xs)),
  λ e. b (subst (Contains (x ∷ xs)) e (at_head x xs)),
  plain_of xs (λ h. a (in_tail x xs 46 h)) (λ h. b (in_tail x xs 91 h)),
)

none_by : (es : List Entity) (name : Text) → ¬ Contains (map (λ e. e.name) es) name → HasNone es name
none_by [] name never = tt
none_by (e ∷ es) name never = (λ same. never (subst (Contains (map (λ (e : Entity). e.name) (e ∷ es))) same (at_head e.name (map (λ e. e.name) es))), none_by es name (λ h. never (in_tail e.name (map (λ e. e.name) es) name h)))

named_by : (es : List Entity) → ((e : Entity) → Contains es e → IsWord e.name × HasShort e.form) → AreDistinct (map (λ e. e.name) es) → AreNamed es
named_by [] each apart = tt
named_by (e ∷ es) each apart =
    let here = each e (at_head e es) in
    (plain_of e.name here.0.no_point here.0.no_bracket, here.0.some, none_by es e.name apart.0, here.1, named_by es (λ d h. each d (in_tail e es d h)) apart.1)

none_both : (xs ys : List Entity) (name : Text) → HasNone xs name → HasNone ys name → HasNone (xs ++ ys) name
none_both [] ys name a b = b
none_both (x ∷ xs) ys name a b = (a.0, none_both xs ys name a.1 b)

pub none_each : (ys : List Entity) (name : Text) → ((y : Entity) → Contains ys y → y.name ≢ name) → HasNone ys name
none_each [] name each = tt
none_each (y ∷ ys) name each = (each y (at_head y ys), none_each ys name (λ z h. each z (in_tail y ys z h)))

-- two lists without a common name
named_both : (xs ys : List Entity) → AreNamed xs → AreNamed ys → ((x y : Entity) → Contains xs x → Contains ys y → y.name ≢ x.name) → AreNamed (xs ++ ys)
named_both [] ys a b apart = b
named_both (x ∷ xs) ys a b apart =
    (a.0, a.1, none_both xs ys x.name a.2 (none_each ys x.name (λ y h. apart x y (at_head x xs) h)), a.3, named_both xs ys a.4 b (λ z y h k. apart z y (in_tail x xs z h) k))

-- DECLARED NAMES

pub entities-append : (ds es : List Declaration) → entities (ds ++ es) ≡ entities ds ++ entities es
entities-append [] es = refl
entities-append (d ∷ ds) es = ap (λ xs. map (entity d) d.names ++ xs) (entities-append ds es) ∙ sym (append_assoc (map (entity d) d.names) (entities ds) (entities es))

-- all that a unit declares
pub declared_entities : (u : ProgramUnit) → entities (unit_declarations u) ≡ own_entities u ++ entities u.externals
declared_entities u =
    entities-append (u.inputs ++ u.outputs ++ u.variables) u.externals
    ∙ ap (λ es. es ++ entities u.externals) (entities-append (u.inputs ++ u.outputs) u.variables ∙ ap (λ es. es ++ entities u.variables) (entities-append u.inputs u.outputs))

entity_names : (ds : List Declaration) → map (λ (e : Entity). e.name) (entities ds) ≡ map (λ (n : Named). n.name) (names_in ds)
entity_names [] = refl
entity_names (d ∷ ds) = in_one d.names (entity_names ds)
  where
    in_one : (ns : List Named) → map (λ (e : Entity). e.name) (entities ds) ≡ map (λ (n : Named). n.name) (names_in ds) → map (λ (e : Entity). e.name) (map (entity d) ns ++ entities ds) ≡ map (λ (n : Named). n.name) (ns ++ names_in ds)
    in_one [] rest = rest
    in_one (n ∷ ns) rest = ap (λ (ts : List Text). n.name ∷ ts) (in_one ns rest)

-- SIZES OF ARRAYS

passes : (b : Bool) (n : ℕ) → ¬ Contains (unless b n) n → b ≡ true
passes true n none = refl
passes false n none = absurd (none (at_head n []))

above : (lower : ℤ) → has_value Int lower ≡ true → neg_ℤ (pos (2 ^ 62)) ≤ℤ lower
above lower e = let low : int_le (negsuc 32767) lower ≡ true = first_of_two (int_le (negsuc 32767) lower) _ e in omega (arith, ints, low)

short_to : (l w : ℤ) → neg_ℤ (pos (2 ^ 62)) ≤ℤ l → l ≤ℤ pos 32768 → w ≤ℤ pos 256 → IsShort l (width_of w)
short_to l (pos n) low high le = record { least = low; most = omega (arith, ints, low, high, le) }
short_to l (negsuc n) low high le = record { least = low; most = omega (arith, ints, low, high) }

short_bounds : (bounds : Subrange) → ¬ Contains (bounds_numbers bounds) 22 → IsShort bounds.lower (width bounds)
short_bounds bounds none =
    let all = passes (has_value Int bounds.lower && has_value Int bounds.upper && int_le bounds.lower bounds.upper && int_lt (bounds.upper -ℤ bounds.lower) (pos 256)) 22 none in
    let three = first_of_two (has_value Int bounds.lower && has_value Int bounds.upper && int_le bounds.lower bounds.upper) _ all in
    let small = second_of_two (has_value Int bounds.lower && has_value Int bounds.upper && int_le bounds.lower bounds.upper) _ all in
    let lower = first_of_two (has_value Int bounds.lower) _ (first_of_two (has_value Int bounds.lower && has_value Int bounds.upper) _ three) in
    short_to bounds.lower ((bounds.upper -ℤ bounds.lower) +ℤ pos 1) (above bounds.lower lower) (below bounds.lower lower) (narrow (bounds.upper -ℤ bounds.lower) small)
  where
    below : (l : ℤ) → has_value Int l ≡ true → l ≤ℤ pos 32768
    below l e = let high : int_le l (pos 32767) ≡ true = second_of_two (int_le (negsuc 32767) l) _ e in omega (arith, ints, high)

    narrow : (d : ℤ) → int_lt d (pos 256) ≡ true → (d +ℤ pos 1) ≤ℤ pos 256
    narrow d e = omega (arith, ints, e)

module _ (c : Config) (unbroken : HasNoFault (Broken Declaring c)) where
  -- a written type's indices are few (22)
  short_type : (a : Admitted) (t : WrittenType) → Contains (written_types c) (a, t) → HasShort t.form
  unfolding type_numbers
  short_type a t among = by_form t.form refl
    where
      by_form : (f : Form) → t.form ≡ f → HasShort f
      by_form (ScalarForm s) is = tt
      by_form (BlockForm block) is = tt
      by_form (ArrayForm bounds s) is =
          short_bounds bounds (λ has. no_22 c unbroken a t among (subst (λ (f : Form). Contains (type_numbers c a f) 22) (sym is)
          (Contains-append_left (unless (admits_arrays a) 25 ++ bounds_numbers bounds) (subrange_numbers s.elementary s.subrange) 22 (Contains-append_right (unless (admits_arrays a) 25) (bounds_numbers bounds) 22 has))))

  -- the type of a declaration is written
  declared_short : (u : ProgramUnit) → Contains c.units u → (d : Declaration) → Contains (unit_declarations u) d → HasShort d.declared.form
  declared_short u among d has = by_external (Contains-append_cases (u.inputs ++ u.outputs ++ u.variables) u.externals d has)
    where
      by_input : Contains u.inputs d ⊎ Contains u.outputs d → HasShort d.declared.form
      by_input (inl h) = short_type ScalarsAlone d.declared (input_typed c u d among h)
      by_input (inr h) = short_type ScalarsAlone d.declared (output_typed c u d among h)

      by_variable : Contains (u.inputs ++ u.outputs) d ⊎ Contains u.variables d → HasShort d.declared.form
      by_variable (inl h) = by_input (Contains-append_cases u.inputs u.outputs d h)
      by_variable (inr h) = short_type (admitted_variables u.kind) d.declared (variable_typed c u d among h)

      by_external : Contains (u.inputs ++ u.outputs ++ u.variables) d ⊎ Contains u.externals d → HasShort d.declared.form
      by_external (inl h) = by_variable (Contains-append_cases (u.inputs ++ u.outputs) u.variables d h)
      by_external (inr h) = short_type ScalarsAndArrays d.declared (external_typed c u d among h)

  -- the types of the globals are written too
  pub globals_short : (d : Declaration) → Contains c.globals d → HasShort d.declared.form
  globals_short d has = short_type ScalarsAndArrays d.declared (Contains-append_right (flat_map unit_types c.units) (types_in ScalarsAndArrays c.globals) _ (in_map (λ (d : Declaration). (ScalarsAndArrays, d.declared)) c.globals d has))

  -- the names that a unit declares are once (20), and are words
  unit_named_once : IsWritten c → (u : ProgramUnit) → Contains c.units u → AreNamed (entities (unit_declarations u))
  unit_named_once written u among = named_by (entities (unit_declarations u)) each apart
    where
      apart : AreDistinct (map (λ (e : Entity). e.name) (entities (unit_declarations u)))
      apart = subst AreDistinct (sym (entity_names (unit_declarations u))) (distinct_names (λ (n : Named). n.name) (unit_names u) (λ n again. unbroken 20 n.place (duplicate refl (second_variable u n among again refl))))

      each : (e : Entity) → Contains (entities (unit_declarations u)) e → IsWord e.name × HasShort e.form
      each e has =
          let l = of_entities (unit_declarations u) e has in
          let word : IsWord l.name_of.name = written.names u l.name_of among (in_flat_map (λ (d : Declaration). d.names) (unit_declarations u) l.declaration l.name_of l.among l.listed) in
          (subst (λ (x : Entity). IsWord x.name) l.same word, subst (λ (x : Entity). HasShort x.form) l.same (declared_short u among l.declaration l.among))

  -- so do those of the globals
  pub globals_named : IsWritten c → AreNamed (entities c.globals)
  globals_named written = named_by (entities c.globals) each apart
    where
      apart : AreDistinct (map (λ (e : Entity). e.name) (entities c.globals))
      apart = subst AreDistinct (sym (entity_names c.globals)) (distinct_names (λ (n : Named). n.name) (names_in c.globals) (λ n again. unbroken 20 n.place (duplicate refl (second_global n again refl))))

      each : (e : Entity) → Contains (entities c.globals) e → IsWord e.name × HasShort e.form
      each e has =
          let l = of_entities c.globals e has in
          let word : IsWord l.name_of.name = written.globals l.name_of (in_flat_map (λ (d : Declaration). d.names) c.globals l.declaration l.name_of l.among l.listed) in
          (subst (λ (x : Entity). IsWord x.name) l.same word, subst (λ (x : Entity). HasShort x.form) l.same (globals_short l.declaration l.among))

  pub declared_named : IsWritten c → (u : ProgramUnit) → Contains c.units u → AreNamed (own_entities u ++ entities u.externals)
  declared_named written u among = subst AreNamed (declared_entities u) (unit_named_once written u among)

  pub own_named : IsWritten c → (u : ProgramUnit) → Contains c.units u → AreNamed (own_entities u)
  own_named written u among = named_front (own_entities u) (entities u.externals) (declared_named written u among)

  -- a declared name is no predeclared one (20)
  -- what a unit declares, by its declaration
  entity_listed : (u : ProgramUnit) (e : Entity) → Contains (own_entities u ++ entities u.externals) e → IsListed (unit_declarations u) e.name e.form
  entity_listed u e has =
      let l = of_entities (unit_declarations u) e (subst (λ (es : List Entity). Contains es e) (sym (declared_entities u)) has) in
      record { declaration = l.declaration; name_of = l.name_of; among = l.among; listed = l.listed; spelled = ap (λ (x : Entity). x.name) l.same; formed = ap (λ (x : Entity). x.form) l.same }

  declared_apart : (u : ProgramUnit) → Contains c.units u → (e : Entity) → Contains (own_entities u ++ entities u.externals) e → is_predeclared c e.name ≢ true
  declared_apart u among e has =
      let l = of_entities (unit_declarations u) e (subst (λ (es : List Entity). Contains es e) (sym (declared_entities u)) has) in
      subst (λ (x : Entity). is_predeclared c x.name ≢ true) l.same
      (λ is. unbroken 20 l.name_of.place (duplicate refl (predeclared_variable u l.name_of among (in_flat_map (λ (d : Declaration). d.names) (unit_declarations u) l.declaration l.name_of l.among l.listed) is refl)))

  -- sizes lie within their limits (23)
  size_within : (s : Size × Subrange) → Contains (sizes_of c) s → is_within s.1 s.0.value ≡ true
  size_within s among = by_test (is_within s.1 s.0.value) refl
    where
      by_test : (b : Bool) → is_within s.1 s.0.value ≡ b → b ≡ true
      by_test true is = refl
      by_test false is = absurd (unbroken 23 s.0.place (initial_outside refl (size_outside s among is refl)))

  pub cars_within : (pos 1 ≤ℤ c.cars.value) × (c.cars.value ≤ℤ cars_limits.upper)
  cars_within = limits_of (pos 1) cars_limits.upper c.cars.value (size_within (c.cars, cars_limits) (0, omega arith, refl))
    where
      limits_of : (l u z : ℤ) → (int_le l z && int_le z u) ≡ true → (l ≤ℤ z) × (z ≤ℤ u)
      limits_of l u z e = (let low = first_of_two (int_le l z) _ e in omega (arith, ints, low), let high = second_of_two (int_le l z) _ e in omega (arith, ints, high))

  pub slots_within : (pos 1 ≤ℤ c.slots.value) × (c.slots.value ≤ℤ pos 64)
  slots_within = limits_of (pos 1) (pos 64) c.slots.value (size_within (c.slots, slots_limits) (2, omega arith, refl))
    where
      limits_of : (l u z : ℤ) → (int_le l z && int_le z u) ≡ true → (l ≤ℤ z) × (z ≤ℤ u)
      limits_of l u z e = (let low = first_of_two (int_le l z) _ e in omega (arith, ints, low), let high = second_of_two (int_le l z) _ e in omega (arith, ints, high))

-- THE IMAGE

-- the image names in the order of their slots: what every program sees, then the others
abbrev pub ordered : ℤ → ℤ → ℤ → List ImageName
ordered cars floors slots = filter is_common (image_of cars floors slots) ++ filter (λ i. not (is_common i)) (image_of cars floors slots)

-- the entity of an image name
abbrev shown_entity : ImageName → Entity
shown_entity i = record { name = i.variable.name; form = i.variable.form; initial = None }

pub seen-append : (c : Config) (u : ProgramUnit) (is js : List ImageName) → seen_among c u (is ++ js) ≡ seen_among c u is ++ seen_among c u js
seen-append c u [] js = refl
seen-append c u (i ∷ is) js = by_test (sees c u i) (seen-append c u is js)
  where
    by_test : (b : Bool) → seen_among c u (is ++ js) ≡ seen_among c u is ++ seen_among c u js
        → (if b then shown_entity i ∷ seen_among c u (is ++ js) else seen_among c u (is ++ js)) ≡ (if b then shown_entity i ∷ seen_among c u is else seen_among c u is) ++ seen_among c u js
    by_test true more = ap (λ es. shown_entity i ∷ es) more
    by_test false more = more

-- what is so of the forms of some image names
abbrev AllForms : (Form → Type 0) → List ImageName → Type 0
AllForms P [] = Unit {0}
AllForms P (i ∷ is) = P i.variable.form × AllForms P is

-- the entities of image names
of_seen : (c : Config) (u : ProgramUnit) (is : List ImageName) (e : Entity) → Contains (seen_among c u is) e → (i : ImageName) × Contains is i × (i.variable.name ≡ e.name)
of_seen c u [] e has = absurd (in_nothing e has)
of_seen c u (i ∷ is) e has = by_test (sees c u i) has (of_seen c u is e)
  where
    by_test : (b : Bool) → Contains (if b then record { name = i.variable.name; form = i.variable.form; initial = None } ∷ seen_among c u is else seen_among c u is) e
        → (Contains (seen_among c u is) e → (j : ImageName) × Contains is j × (j.variable.name ≡ e.name)) → (j : ImageName) × Contains (i ∷ is) j × (j.variable.name ≡ e.name)
    by_test true (zero, low, same) more = (i, at_head i is, ap (λ (x : Entity). x.name) same)
    by_test true (suc n, low, same) more = let r = more (n, omega arith, same) in (r.0, in_tail i is r.0 r.1, r.2)
    by_test false has more = let r = more has in (r.0, in_tail i is r.0 r.1, r.2)

not_same : (a b : Text) → not (bytes_eq a b) ≡ true → a ≢ b
not_same a b is same = let wrong : false ≡ true = sym (ap not ((bytes_eq-Decides a b).1 same)) ∙ is in cc

seen_named : (c : Config) (u : ProgramUnit) (is : List ImageName) → all_of (λ (i : ImageName). is_word i.variable.name) is ≡ true → are_apart_by (λ (i : ImageName). i.variable.name) is ≡ true → AllForms HasShort is → AreNamed (seen_among c u is)
seen_named c u [] words apart short = tt
seen_named c u (i ∷ is) words apart short = by_test (sees c u i) (seen_named c u is (second_of_two (is_word i.variable.name) _ words) (second_of_two (all_of _ is) _ apart) short.1)
  where
    word : IsWord i.variable.name
    word = word_by i.variable.name (first_of_two (is_word i.variable.name) _ words)

    none : HasNone (seen_among c u is) i.variable.name
    none = none_each (seen_among c u is) i.variable.name (λ y h same.
        let r = of_seen c u is y h in
        not_same i.variable.name r.0.variable.name (contains_all (λ (j : ImageName). not (bytes_eq i.variable.name j.variable.name)) is r.0 (first_of_two _ _ apart) r.1) (sym (r.2 ∙ same)))

    by_test : (b : Bool) → AreNamed (seen_among c u is) → AreNamed (if b then record { name = i.variable.name; form = i.variable.form; initial = None } ∷ seen_among c u is else seen_among c u is)
    by_test true more = (plain_of i.variable.name word.no_point word.no_bracket, word.some, none, short.0, more)
    by_test false more = more

ordered_words : (cars floors slots : ℤ) → all_of (λ (i : ImageName). is_word i.variable.name) (ordered cars floors slots) ≡ true
ordered_words cars floors slots = refl

ordered_apart : (cars floors slots : ℤ) → are_apart_by (λ (i : ImageName). i.variable.name) (ordered cars floors slots) ≡ true
ordered_apart cars floors slots = refl

ordered_found : (cars floors slots : ℤ) → all_of (λ (i : ImageName). is_some (find (λ (j : ImageName). bytes_eq j.variable.name i.variable.name) (image_of cars floors slots))) (ordered cars floors slots) ≡ true
ordered_found cars floors slots = refl

-- a row of the image has few elements
short_row : (n : ℤ) → n ≤ℤ pos 64 → IsShort (pos 1) (width (record { lower = pos 1; upper = n }))
short_row n le = short_to (pos 1) ((n -ℤ pos 1) +ℤ pos 1) (omega (arith, ints)) (omega (arith, ints)) (omega (arith, ints, le))

ordered_short : (cars floors slots : ℤ) → cars ≤ℤ pos 64 → slots ≤ℤ pos 64 → AllForms HasShort (ordered cars floors slots)
ordered_short cars floors slots few less =
    let car = short_row cars few in
    let slot = short_row slots less in
    (tt, (tt, (tt, (tt, (tt, (tt, (slot, (slot, (slot, (slot, (tt, (tt, (tt, (tt, (tt, (tt, (tt, (car, (car, (tt, (tt, (tt, (slot, tt)))))))))))))))))))))))

module _ (c : Config) (unbroken : HasNoFault (Broken Declaring c)) (u : ProgramUnit) where
  pub image_apart : seen_among c u (ordered c.cars.value c.floors.value c.slots.value) ≡ seen_image c u
  image_apart = seen-append c u (filter is_common (image_of c.cars.value c.floors.value c.slots.value)) (filter (λ i. not (is_common i)) (image_of c.cars.value c.floors.value c.slots.value))

  -- the names of the image are once (own rule)
  pub image_named : AreNamed (seen_image c u)
  image_named =
      subst AreNamed image_apart (seen_named c u (ordered c.cars.value c.floors.value c.slots.value)
      (ordered_words c.cars.value c.floors.value c.slots.value) (ordered_apart c.cars.value c.floors.value c.slots.value)
      (ordered_short c.cars.value c.floors.value c.slots.value (let most = (cars_within c unbroken).1 in omega (arith, ints, most)) (slots_within c unbroken).1))

  image_predeclared : (e : Entity) → Contains (seen_image c u) e → is_predeclared c e.name ≡ true
  unfolding image_name
  image_predeclared e has =
      let r = of_seen c u (ordered c.cars.value c.floors.value c.slots.value) e (subst (λ (es : List Entity). Contains es e) (sym image_apart) has) in
      let found = contains_all (λ (i : ImageName). is_some (find (λ (j : ImageName). bytes_eq j.variable.name i.variable.name) (image_of c.cars.value c.floors.value c.slots.value)))
      (ordered c.cars.value c.floors.value c.slots.value) r.0 (ordered_found c.cars.value c.floors.value c.slots.value) r.1 in
      subst (λ name. is_predeclared c name ≡ true) r.2 (ap (λ b. b || is_some (standard_function r.0.variable.name) || is_some (standard_block r.0.variable.name)) found)

  -- and with them those that a unit declares
  pub seen_entities_named : IsWritten c → Contains c.units u → AreNamed (own_entities u ++ (entities u.externals ++ seen_image c u))
  seen_entities_named written among =
      subst AreNamed (append_assoc (own_entities u) (entities u.externals) (seen_image c u))
      (named_both (own_entities u ++ entities u.externals) (seen_image c u) (declared_named c unbroken written u among) image_named
      (λ x y h k same. declared_apart c unbroken u among x h (ap (is_predeclared c) (sym same) ∙ image_predeclared y k)))

  -- UNITS

  -- no name that a unit declares or sees is that of a unit (20)
  pub no_unit_seen : (v : ProgramUnit) → Contains c.units u → Contains c.units v → (y : Entity) → Contains (own_entities u ++ (entities u.externals ++ seen_image c u)) y → y.name ≢ v.name.name
  no_unit_seen v among has_v y has =
      by_side (Contains-append_cases (own_entities u ++ entities u.externals) (seen_image c u) y (subst (λ (es : List Entity). Contains es y) (sym (append_assoc (own_entities u) (entities u.externals) (seen_image c u))) has))
    where
      by_side : Contains (own_entities u ++ entities u.externals) y ⊎ Contains (seen_image c u) y → y.name ≢ v.name.name
      by_side (inl a) same = no_unit c unbroken u v among has_v y.name y.form (entity_listed c unbroken u y a) (sym same)
      by_side (inr b) same = unbroken 20 v.place (duplicate refl (predeclared_unit v has_v (subst (λ name. is_predeclared c name ≡ true) same (image_predeclared y b)) refl))

  -- so all that it declares and sees is once
  pub unit_entities_named : IsWritten c → Contains c.units u → AreNamed (unit_entities c u)
  unit_entities_named written among = by_kind u.kind refl
    where
      others : is_program u ≡ false → entities u.externals ++ seen_image c u ≡ []
      others other = no_others c u other (written.externals u among other)

      by_kind : (k : UnitKind) → u.kind ≡ k → AreNamed (own_entities u ++ (result_entities k u.name.name ++ (entities u.externals ++ seen_image c u)))
      by_kind FunctionBlock is = seen_entities_named written among
      by_kind Program is = seen_entities_named written among
      by_kind (Function s place) is =
          subst (λ (es : List Entity). AreNamed (own_entities u ++ (result_entities (Function s place) u.name.name ++ es))) (sym (others (ap is_program_kind is)))
          (named_both (own_entities u) (result_entities (Function s place) u.name.name) (own_named c unbroken written u among)
          (plain_of u.name.name (written.headings u among).no_point (written.headings u among).no_bracket, (written.headings u among).some, tt, tt, tt)
          (λ x y h k. differ x y h k))
        where
          differ : (x y : Entity) → Contains (own_entities u) x → Contains (result_entities (Function s place) u.name.name) y → y.name ≢ x.name
          differ x y h (zero, low, same) e =
              no_unit_seen u among among x (Contains-append_left (own_entities u) (entities u.externals ++ seen_image c u) x h) (sym (ap (λ (z : Entity). z.name) same ∙ e))
          differ x y h (suc k, low, same) e = absurd (omega arith)

-- BLOCKS

plain_words : (b : StandardBlock) → are_named (standard_entities (standard_variables b)) ≡ true
plain_words = every_block (λ b. are_named (standard_entities (standard_variables b))) refl

pub each_of : (P : ProgramUnit → Type 0) (us : List ProgramUnit) → ((u : ProgramUnit) → Contains us u → P u) → EachOf P us
each_of P [] all = tt
each_of P (u ∷ us) all = (all u (at_head u us), each_of P us (λ v h. all v (in_tail u us v h)))

-- the names of a block's declarations are once
pub blocks_named : (c : Config) → HasNoFault (Broken Declaring c) → IsWritten c → (block : Text) → AreNamed (block_entities c block)
blocks_named c unbroken written =
    of_blocks c AreNamed tt (λ b. named_is (standard_entities (standard_variables b)) (plain_words b)) (each_of (λ u. AreNamed (own_entities u)) c.units (own_named c unbroken written))
