-- What the units of a configuration are by their names.
use Rattle.std.proofs.Common.{◌≡◌, Bool, true, false, List, [], ◌∷◌, ◌++◌, refl, sym, ap, ◌∙◌, cond, Some, None, Option, subst}
use Rattle.std.proofs.lemmas.Slice.Eq.{bytes_eq-Decides}
use Rattle.std.proofs.lemmas.Option.{slice_get_within, get_or_from_slice_get}
use Rattle.std.proofs.lemmas.List.Elements.{Contains-get_or}
use Rattle.std.proofs.lemmas.List.Folds.{find_at}
use Rattle.std.specs.Prelude.{Contains, option_map, option_and_then, find, bytes_eq, if◌then◌else◌, IsTrue}
use Rattle.il_syntax.specs.declared.tree.Config.{Config}
use Rattle.il_syntax.specs.declared.tree.Unit.{Unit as ProgramUnit}
use Rattle.il_syntax.specs.declared.tree.Scalar.{Scalar}
use Rattle.il_syntax.specs.declared.tree.Form.TheVariants.{Scalar as ScalarForm}
use Rattle.il_syntax.specs.declared.tree.Place.{Place}
use Rattle.il_syntax.specs.declared.tree.UnitKind.{UnitKind}
use Rattle.il_syntax.specs.declared.tree.UnitKind.TheVariants.{Function, FunctionBlock, Program}
use Rattle.il_statics.specs.declared.names.Origin.TheVariants.{Input as AsInput, Output as AsOutput, Local as AsVariable, External as AsExternal, FunctionResult as AsResult}
use Rattle.il_statics.specs.Names.{Variable, with_origin, result_of, own_variable, or_else, meaning, MeansVariable, meant_variable, outer_meaning, image_name, is_predeclared, is_function, is_function_kind, form_named, unit_named, function_named}
use Rattle.base_maps.specs.NameMap.{Text}
use Rattle.il_statics.specs.Written.{IsWord}
use Rattle.il_semantics_laws.specs.Soundness.{IsInOrder}

-- a unit that is named is one of the configuration
pub found_unit : (c : Config) (name : Text) (v : ProgramUnit) → unit_named c name ≡ Some v → Contains c.units v
found_unit c name v e = by_test (is_predeclared c name) e
  where
    in_list : (us : List ProgramUnit) → find (λ u. bytes_eq u.name.name name) us ≡ Some v → Contains us v
    in_list us e =
        let at = sym (find_at (λ u. bytes_eq u.name.name name) us) ∙ e in
        subst (Contains us) (get_or_from_slice_get us _ v v at) (Contains-get_or us _ v (slice_get_within us _ v at))

    by_test : (b : Bool) → (if b then None else find (λ u. bytes_eq u.name.name name) c.units) ≡ Some v → Contains c.units v
    by_test true e = cc
    by_test false e = in_list c.units e

-- a function's name is its result
pub result_form : (c : Config) (v : ProgramUnit) (s : Scalar) (place : Place) → v.kind ≡ Function s place → form_named c v v.name.name ≡ Some (ScalarForm s)
unfolding meaning
result_form c v s place kind = ap (λ o. option_map (λ x. x.form) (meant_variable (or_else (option_map MeansVariable o) (outer_meaning c v v.name.name (image_name c v.name.name))))) own_result
  where
    others : List Variable → List Variable
    others own = own ++ with_origin AsInput v.inputs ++ with_origin AsOutput v.outputs ++ with_origin AsVariable v.variables ++ with_origin AsExternal v.externals

    itself_named : bytes_eq v.name.name v.name.name ≡ true
    itself_named = (bytes_eq-Decides v.name.name v.name.name).1 refl

    found : Variable
    found = record { name = v.name.name; form = ScalarForm s; origin = AsResult }

    own_result : own_variable v v.name.name ≡ Some found
    own_result =
        ap (λ k. find (λ x. bytes_eq x.name v.name.name) (others (result_of k v.name.name))) kind
        ∙ ap (λ b. cond b (Some found) (find (λ x. bytes_eq x.name v.name.name) (others []))) itself_named

-- a unit that is named has the name
pub name_of : (c : Config) (name : Text) (v : ProgramUnit) → unit_named c name ≡ Some v → v.name.name ≡ name
name_of c name v e = by_test (is_predeclared c name) e
  where
    in_list : (us : List ProgramUnit) → find (λ u. bytes_eq u.name.name name) us ≡ Some v → v.name.name ≡ name
    in_list [] e = cc
    in_list (u ∷ us) e = by_name (bytes_eq u.name.name name) refl e (in_list us)
      where
        by_name : (b : Bool) → bytes_eq u.name.name name ≡ b → cond b (Some u) (find (λ u. bytes_eq u.name.name name) us) ≡ Some v → (find (λ u. bytes_eq u.name.name name) us ≡ Some v → v.name.name ≡ name) → v.name.name ≡ name
        by_name true is e more = let same : u ≡ v = cc in ap (λ (w : ProgramUnit). w.name.name) (sym same) ∙ (bytes_eq-Decides u.name.name name).0 is
        by_name false is e more = more e

    by_test : (b : Bool) → (if b then None else find (λ u. bytes_eq u.name.name name) c.units) ≡ Some v → v.name.name ≡ name
    by_test true e = cc
    by_test false e = in_list c.units e

-- an own function is a unit of its name, and a function
pub function_is_unit : (c : Config) (name : Text) (v : ProgramUnit) → function_named c name ≡ Some v → (unit_named c name ≡ Some v) × IsTrue (is_function v)
function_is_unit c name v e = by_unit (unit_named c name) e
  where
    by_kind : (b : Bool) (w : ProgramUnit) → is_function w ≡ b → (if b then Some w else None) ≡ Some v → (Some w ≡ Some v) × IsTrue (is_function v)
    by_kind true w is e = let same : w ≡ v = cc in (e, ap is_function (sym same) ∙ is)
    by_kind false w is e = cc

    by_unit : (o : Option ProgramUnit) → option_and_then (λ u. if is_function u then Some u else None) o ≡ Some v → (o ≡ Some v) × IsTrue (is_function v)
    by_unit None e = cc
    by_unit (Some w) e = by_kind (is_function w) w refl e

-- a function's name is a word, since it means its result
pub function_word : (c : Config) (p : ProgramUnit) → IsInOrder c p → (v : ProgramUnit) → Contains c.units v → IsTrue (is_function v) → IsWord v.name.name
function_word c p order v among is = by_kind v.kind refl is
  where
    by_kind : (k : UnitKind) → v.kind ≡ k → IsTrue (is_function_kind k) → IsWord v.name.name
    by_kind (Function s place) at h = order.words v among v.name.name (ScalarForm s) (result_form c v s place at)
    by_kind FunctionBlock at h = cc
    by_kind Program at h = cc
