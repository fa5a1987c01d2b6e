-- What calls of a function need is what its tree gives.
use Rattle.std.proofs.Common.{◌≡◌, ℕ, zero, suc, ◌+◌, ◌-◌, ◌<◌, ◌≤◌, List, [], ◌∷◌, ◌++◌, map, drop, length, get_or, reverse, refl, sym, ap, ap₂, ◌∙◌, Some, None, arith}
use Rattle.std.specs.Prelude.{Contains, option_map, option_and_then, if◌then◌else◌}
use Rattle.std.proofs.lemmas.List.{drop_more, reverse-append}
use Rattle.il_syntax.specs.declared.tree.Place.{Place}
use Rattle.il_syntax.specs.declared.tree.Scalar.{Scalar}
use Rattle.il_syntax.specs.declared.tree.Form.{Form}
use Rattle.il_syntax.specs.declared.tree.Form.TheVariants.{Scalar as ScalarForm, Array as ArrayForm, Block as BlockForm}
use Rattle.il_syntax.specs.declared.tree.UnitKind.TheVariants.{Function}
use Rattle.il_syntax.specs.declared.tree.Unit.{Unit as ProgramUnit}
use Rattle.il_syntax.specs.declared.tree.Config.{Config}
use Rattle.base_maps.specs.NameMap.{Text}
use Rattle.il_semantics.specs.Meaning.{Entity, entities, under, values_at, instance_values, entity_values}
use Rattle.il_statics.specs.Names.{unit_named, function_named, named_forms, is_function, is_function_kind}
use Rattle.load_scope.specs.Views.{type_of}
use Rattle.il_semantics_laws.proofs.Meant.{inputs_seen}
use Rattle.il_semantics_laws.proofs.Named.{result_form}
use Rattle.il_semantics_laws.proofs.Lists.{at_head, in_tail}
use Rattle.load_slots.specs.declared.flat.Assignment.{Assignment}
use Rattle.load_slots.specs.declared.variables.Variable.{Variable}
use Rattle.load_slots.specs.Cells.{cells_at, entity_cells, instance_cells, offset_in}
use Rattle.load_slots.specs.Places.{form_width, block_width, declared_in}
use Rattle.load_slots.specs.Program.{program_names}
use Rattle.load_slots.proofs.Tasks.{scalar_forms}
use Rattle.il_semantics_laws.proofs.Named.{found_unit}
use Rattle.load_code.proofs.Invoking.{pair_of, pairs_are, each_pair, slot_is_form}
use Rattle.load_slots.specs.Flattened.{Names, slot_of, fresh_from, fresh_of, function_entities, first_slot}
use Rattle.load_slots.specs.Making.{shown, IsChecked}
use Rattle.load_code.specs.Resolving.{known, slot_known, fresh_by, fresh_list, first_of, function_code_of}

-- what scalars begin with
fresh_is : (c : Config) (path : Text) (k : ℕ) (es : List Entity) → ((e : Entity) → Contains es e → (s : Scalar) × (e.form ≡ ScalarForm s)) → fresh_list k (map (shown c) es) ≡ fresh_from k (entity_cells (instance_cells zero c) path es) (entity_values (instance_values zero c) path es)
fresh_is c path k [] each = refl
fresh_is c path k (e ∷ es) each =
    by_form (each e (at_head e es)).0 e.form (each e (at_head e es)).1 (fresh_is c path (suc k) es (λ d has. each d (in_tail e es d has)))
  where
    by_form : (s : Scalar) (f : Form) → f ≡ ScalarForm s → fresh_list (suc k) (map (shown c) es) ≡ fresh_from (suc k) (entity_cells (instance_cells zero c) path es) (entity_values (instance_values zero c) path es)
        → fresh_by (type_of c f) e.initial k ∷ fresh_list (suc k) (map (shown c) es)
        ≡ fresh_from k (cells_at (instance_cells zero c) (under path e.name) f ++ entity_cells (instance_cells zero c) path es) (values_at (instance_values zero c) (under path e.name) e.initial f ++ entity_values (instance_values zero c) path es)
    by_form s (ScalarForm t) is rest = ap (λ xs. fresh_by (type_of c (ScalarForm t)) e.initial k ∷ xs) rest
    by_form s (ArrayForm bounds element) is rest = cc
    by_form s (BlockForm block) is rest = cc

-- ONE BY ONE FROM THE LAST

pub fresh_first : (vs : List Variable) → [] ≡ reverse (fresh_list (length vs - 0) (drop (length vs - 0) vs))
fresh_first vs = sym (ap (λ xs. reverse (fresh_list (length vs - 0) xs)) (all_left vs (length vs - 0) (let e : length vs ≤ length vs - 0 = omega arith in e)))
  where
    all_left : (xs : List Variable) (i : ℕ) → length xs ≤ i → drop i xs ≡ []
    all_left [] zero low = refl
    all_left [] (suc i) low = refl
    all_left (x ∷ xs) zero low = absurd (omega arith)
    all_left (x ∷ xs) (suc i) low = all_left xs i (omega arith)

pub fresh_next : (vs : List Variable) (passed at : ℕ) (v d : Variable) (a : Assignment) (xs after : List Assignment) → passed < length vs → at ≡ length vs - 1 - passed → v ≡ get_or vs at d → a ≡ fresh_by v.declared v.initial at → after ≡ xs ++ a ∷ []
    → xs ≡ reverse (fresh_list (length vs - passed) (drop (length vs - passed) vs)) → after ≡ reverse (fresh_list (length vs - (passed + 1)) (drop (length vs - (passed + 1)) vs))
fresh_next vs passed at v d a xs after low is there made grown rest =
    let here : at ≡ length vs - (passed + 1) = omega (arith, low, is) in
    let next : suc at ≡ length vs - passed = omega (arith, low, is) in
    let more : at + 1 ≡ suc at = omega arith in
    let inside_it : at < length vs = omega (arith, low, is) in
    let cut : drop at vs ≡ v ∷ drop (suc at) vs = drop_more vs at d inside_it ∙ ap₂ (λ x i. x ∷ drop i vs) (sym there) more in
    grown ∙ ap₂ (λ ys b. ys ++ b ∷ []) (rest ∙ ap (λ i. reverse (fresh_list i (drop i vs))) (sym next)) made
    ∙ sym (reverse-append (fresh_by v.declared v.initial at ∷ []) (fresh_list (suc at) (drop (suc at) vs)))
    ∙ ap (λ ys. reverse (fresh_list at ys)) (sym cut) ∙ ap (λ i. reverse (fresh_list i (drop i vs))) here

pub fresh_last : (vs : List Variable) (passed : ℕ) (xs : List Assignment) → passed ≤ length vs → length vs ≤ passed → xs ≡ reverse (fresh_list (length vs - passed) (drop (length vs - passed) vs)) → xs ≡ reverse (fresh_list 0 vs)
fresh_last vs passed xs low high is = is ∙ ap (λ i. reverse (fresh_list i (drop i vs))) (let e : length vs - passed ≡ 0 = omega (arith, low, high) in e) ∙ ap (λ ys. reverse (fresh_list 0 ys)) (none_dropped vs)
  where
    none_dropped : (ys : List Variable) → drop 0 ys ≡ ys
    none_dropped [] = refl
    none_dropped (y ∷ ys) = refl

-- WHAT CALLS NEED

module _ (c : Config) (checked : IsChecked c) (u : ProgramUnit) (itself : unit_named c u.name.name ≡ Some u) where
  abbrev n : Names
  n = program_names c u.name.name

  module _ (s : Scalar) (place : Place) (kind : u.kind ≡ Function s place) where
    named_so : function_named c u.name.name ≡ Some u
    named_so = ap (option_and_then (λ w. if is_function w then Some w else None)) itself ∙ ap (λ k. if is_function_kind k then Some u else None) kind

    first_is : (es : List Entity) → ((e : Entity) → Contains es e → Contains (named_forms u.inputs) (e.name, e.form)) → first_of c u (map (shown c) es) ≡ first_slot n.offset (map pair_of es)
    first_is [] each = refl
    first_is (e ∷ es) each =
        ap (λ o. slot_known 0 (option_map (λ f. record { declared = type_of c f; offset = n.offset e.name }) o)) (inputs_seen c checked.declared u u.name.name (e.name, e.form) named_so (each e (at_head e es)))
        ∙ slot_is_form c e.form (offset_in (form_width (block_width 17 c)) (declared_in c u.name.name) e.name)

    result_is : slot_known 0 (known c u u.name.name) ≡ slot_of s (n.offset u.name.name)
    result_is =
        ap (λ o. slot_known 0 (option_map (λ f. record { declared = type_of c f; offset = n.offset u.name.name }) o)) (result_form c u s place kind)
        ∙ slot_is_form c (ScalarForm s) (offset_in (form_width (block_width 17 c)) (declared_in c u.name.name) u.name.name)

    scalars : (e : Entity) → Contains (function_entities u) e → (t : Scalar) × (e.form ≡ ScalarForm t)
    scalars e has = scalar_forms c checked.declared u (found_unit c u.name.name u itself) (ap is_function_kind kind) e has

    pub function_is : function_code_of c u (map (shown c) (entities u.inputs)) (map (shown c) (function_entities u))
        ≡ record { first = first_slot n.offset (named_forms u.inputs); result = slot_of s (n.offset u.name.name); fresh = reverse (fresh_of c u) }
    function_is =
        ap₂ (λ f r. record { first = f; result = r; fresh = reverse (fresh_list 0 (map (shown c) (function_entities u))) })
        (first_is (entities u.inputs) (λ e has. each_pair u.inputs e has) ∙ ap (first_slot n.offset) (pairs_are u.inputs)) result_is
        ∙ ap (λ xs. record { first = first_slot n.offset (named_forms u.inputs); result = slot_of s (n.offset u.name.name); fresh = reverse xs }) (fresh_is c u.name.name 0 (function_entities u) scalars)
