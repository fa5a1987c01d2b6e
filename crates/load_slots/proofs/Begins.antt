-- That initial values are of the kinds of their types, from the rules of declarations (22, 23, 25).
use Rattle.std.proofs.Common.{◌≡◌, ℕ, List, [], ◌∷◌, ◌++◌, refl, sym, Some, None, Option, subst, ◌⊎◌, inl, inr}
use Rattle.std.proofs.lemmas.List.Elements.{Contains-append_left, Contains-append_right, Contains-append_cases}
use Rattle.std.specs.Prelude.{Contains, option_map, flat_map}
use Rattle.il_syntax.specs.declared.tree.Config.{Config}
use Rattle.il_syntax.specs.declared.tree.Unit.{Unit as ProgramUnit}
use Rattle.il_syntax.specs.declared.tree.Declaration.{Declaration}
use Rattle.il_syntax.specs.declared.tree.Initial.{Initial}
use Rattle.il_syntax.specs.declared.tree.WrittenType.{WrittenType}
use Rattle.il_syntax.specs.declared.tree.Scalar.{Scalar}
use Rattle.il_syntax.specs.declared.tree.Subrange.{Subrange}
use Rattle.il_syntax.specs.declared.tree.Elementary.{Elementary}
use Rattle.il_syntax.specs.declared.tree.Elementary.TheVariants.{Bool, Sint, Int, Dint, Usint, Uint, Udint, Time}
use Rattle.il_syntax.specs.ElementaryTypes.{plain}
use Rattle.il_syntax.specs.declared.tree.Form.{Form}
use Rattle.il_syntax.specs.declared.tree.Form.TheVariants.{Scalar as ScalarForm, Array as ArrayForm, Block as BlockForm}
use Rattle.il_syntax.specs.declared.tree.UnitKind.{UnitKind}
use Rattle.il_syntax.specs.declared.tree.UnitKind.TheVariants.{Function, FunctionBlock, Program}
use Rattle.il_statics.specs.declared.names.StandardBlock.{StandardBlock}
use Rattle.il_statics.specs.Names.{standard_variables, with_forms}
use Rattle.il_statics.specs.Declarations.{Admitted, ScalarsAlone, admitted_variables, admits_arrays, result_types, written_types, all_declarations, unit_declarations, type_numbers, bounds_numbers, subrange_numbers, unless, declared_limits}
use Rattle.il_statics.specs.Faults.{HasNoFault, Broken, Declaring}
use Rattle.base_maps.specs.NameMap.{Text}
use Rattle.il_semantics.specs.declared.value.Value.{Value}
use Rattle.il_semantics.specs.declared.value.Value.TheVariants.{Boolean, Integer}
use Rattle.il_semantics.specs.Values.{IsOf, IsValueIn}
use Rattle.il_semantics.specs.Meaning.{Entity, entities, uninitialized, own_entities, result_entities, block_entities, standard_entities, initial_value}
use Rattle.il_semantics_laws.proofs.Lists.{at_head, in_tail, in_flat_map}
use Rattle.il_semantics_laws.proofs.Declared.{from_inputs, from_outputs, from_variables}
use Rattle.il_semantics_laws.proofs.Fresh.{of_entities, IsGood, range_ok, good_type, begins_ok, default_ok}
use Rattle.il_semantics_laws.proofs.Meant.{no_22, no_25, input_typed, output_typed, variable_typed, result_typed}
use Rattle.load_slots.specs.Layout.{value_by, number_part, flag_part, HasKind}
use Rattle.load_slots.specs.Flattened.{function_entities}
use Rattle.load_slots.specs.Whole.{IsInitial, AreInitial}
use Rattle.load_slots.proofs.Tested.{of_blocks}
use Rattle.load_slots.specs.Making.{all_words}
use Rattle.load_slots.proofs.Counted.{words_are}
use Rattle.load_slots.proofs.Distinct.{each_of}

-- a value of a type's set is of its kind
kind_of : (s : Scalar) (v : Value) → IsOf s v → HasKind s v
kind_of s v is = by_limits (declared_limits s) v is
  where
    by_limits : (o : Option Subrange) (v : Value) → IsValueIn o v → value_by o (number_part v) (flag_part v) ≡ v
    by_limits None (Boolean b) is = refl
    by_limits None (Integer z) is = absurd is
    by_limits (Some r) (Integer z) is = refl
    by_limits (Some r) (Boolean b) is = absurd is

pub initial_by : (es : List Entity) → ((e : Entity) → Contains es e → IsInitial e.initial e.form) → AreInitial es
initial_by [] each = tt
initial_by (e ∷ es) each = (each e (at_head e es), initial_by es (λ d h. each d (in_tail e es d h)))

initial_both : (xs ys : List Entity) → AreInitial xs → AreInitial ys → AreInitial (xs ++ ys)
initial_both [] ys a b = b
initial_both (x ∷ xs) ys a b = (a.0, initial_both xs ys a.1 b)

module _ (c : Config) (unbroken : HasNoFault (Broken Declaring c)) where
  -- the type of an array's elements (22, 25)
  good_element : (a : Admitted) (t : WrittenType) (bounds : Subrange) (s : Scalar) → Contains (written_types c) (a, t) → t.form ≡ ArrayForm bounds s → IsGood s
  unfolding type_numbers
  good_element a t bounds s among is r some =
      range_ok s.elementary r
      (λ has. no_22 c unbroken a t among (subst (λ (f : Form). Contains (type_numbers c a f) 22) (sym is) (inside 22 has)))
      (λ has. no_25 c unbroken a t among (subst (λ (f : Form). Contains (type_numbers c a f) 25) (sym is) (inside 25 has)))
    where
      inside : (n : ℕ) → Contains (subrange_numbers s.elementary (Some r)) n → Contains (unless (admits_arrays a) 25 ++ bounds_numbers bounds ++ subrange_numbers s.elementary s.subrange) n
      inside n has = Contains-append_right (unless (admits_arrays a) 25 ++ bounds_numbers bounds) (subrange_numbers s.elementary s.subrange) n (subst (λ o. Contains (subrange_numbers s.elementary o) n) (sym some) has)

  declared_initial : (a : Admitted) (d : Declaration) → Contains (all_declarations c) d → Contains (written_types c) (a, d.declared) → IsInitial (option_map (λ (i : Initial). i.literal) d.initial) d.declared.form
  declared_initial a d among typed = by_form d.declared.form refl
    where
      by_form : (f : Form) → d.declared.form ≡ f → IsInitial (option_map (λ (i : Initial). i.literal) d.initial) f
      by_form (ScalarForm s) is = kind_of s (initial_value s (option_map (λ (i : Initial). i.literal) d.initial)) (begins_ok c unbroken d s among is (good_type c unbroken a d.declared s typed is))
      by_form (ArrayForm bounds s) is = kind_of s (initial_value s None) (default_ok s (good_element a d.declared bounds s typed is))
      by_form (BlockForm block) is = tt

  listed_initial : (ds : List Declaration) (a : Admitted) → ((d : Declaration) → Contains ds d → Contains (all_declarations c) d) → ((d : Declaration) → Contains ds d → Contains (written_types c) (a, d.declared))
      → (e : Entity) → Contains (entities ds) e → IsInitial e.initial e.form
  listed_initial ds a more typed e has =
      let l = of_entities ds e has in
      subst (λ (x : Entity). IsInitial x.initial x.form) l.same (declared_initial a l.declaration (more l.declaration l.among) (typed l.declaration l.among))

  unit_declared : (u : ProgramUnit) → Contains c.units u → (d : Declaration) → Contains (unit_declarations u) d → Contains (all_declarations c) d
  unit_declared u among d has = Contains-append_left (flat_map unit_declarations c.units) c.globals d (in_flat_map unit_declarations c.units u d among has)

  pub own_initial : (u : ProgramUnit) → Contains c.units u → AreInitial (own_entities u)
  own_initial u among = initial_by (own_entities u) (λ e has. by_variable e (Contains-append_cases (entities u.inputs ++ entities u.outputs) (entities u.variables) e has))
    where
      by_input : (e : Entity) → Contains (entities u.inputs) e ⊎ Contains (entities u.outputs) e → IsInitial e.initial e.form
      by_input e (inl a) = listed_initial u.inputs ScalarsAlone (λ d h. unit_declared u among d (from_inputs u d h)) (λ d h. input_typed c u d among h) e a
      by_input e (inr a) = listed_initial u.outputs ScalarsAlone (λ d h. unit_declared u among d (from_outputs u d h)) (λ d h. output_typed c u d among h) e a

      by_variable : (e : Entity) → Contains (entities u.inputs ++ entities u.outputs) e ⊎ Contains (entities u.variables) e → IsInitial e.initial e.form
      by_variable e (inl a) = by_input e (Contains-append_cases (entities u.inputs) (entities u.outputs) e a)
      by_variable e (inr a) = listed_initial u.variables (admitted_variables u.kind) (λ d h. unit_declared u among d (from_variables u d h)) (λ d h. variable_typed c u d among h) e a

  -- those of a function, its result among them
  pub function_initial : (u : ProgramUnit) → Contains c.units u → AreInitial (function_entities u)
  function_initial u among = initial_both (own_entities u) (result_entities u.kind u.name.name) (own_initial u among) (by_kind u.kind refl)
    where
      by_kind : (k : UnitKind) → u.kind ≡ k → AreInitial (result_entities k u.name.name)
      by_kind FunctionBlock is = tt
      by_kind Program is = tt
      by_kind (Function s place) is = (
        kind_of s (initial_value s None)
            (default_ok s (good_type c unbroken ScalarsAlone (record { place = place; form = ScalarForm s }) s
            (result_typed c u _ among (subst (λ (k : UnitKind). Contains (result_types k) (ScalarsAlone, record { place = place; form = ScalarForm s })) (sym is) (at_head _ []))) refl)),
        tt,
      )

  -- and those of each block
  pub blocks_initial : (block : Text) → AreInitial (block_entities c block)
  blocks_initial = of_blocks c AreInitial tt standard_initial (each_of (λ u. AreInitial (own_entities u)) c.units own_initial)
    where
      word_initial : (e : Elementary) → HasKind (plain e) (initial_value (plain e) None)
      word_initial Bool = refl
      word_initial Sint = refl
      word_initial Int = refl
      word_initial Dint = refl
      word_initial Usint = refl
      word_initial Uint = refl
      word_initial Udint = refl
      word_initial Time = refl

      words_initial : (ws : List (Text × Elementary)) → AreInitial (uninitialized (with_forms ws))
      words_initial [] = tt
      words_initial (w ∷ ws) = (word_initial w.1, words_initial ws)

      standard_initial : (b : StandardBlock) → AreInitial (standard_entities (standard_variables b))
      standard_initial b = subst AreInitial (sym (words_are b)) (words_initial (all_words b))
