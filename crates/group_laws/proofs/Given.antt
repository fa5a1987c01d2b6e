-- What a scan is given of a group in its ranges has values of the declared sets: globals and image.
use Rattle.std.proofs.Common.{◌≡◌, ℕ, zero, suc, ◌≤◌, Bool, true, false, List, [], ◌∷◌, ◌++◌, map, filter, cond, refl, sym, ap, ◌∙◌, subst, None, Option, Contains, ℤ, pos, ◌+ℤ◌}
use Rattle.std.proofs.lemmas.List.Elements.{Contains-append_left, Contains-append_right}
use Rattle.il_syntax.specs.declared.tree.Config.{Config}
use Rattle.il_syntax.specs.declared.tree.Form.{Form}
use Rattle.il_syntax.specs.declared.tree.Form.TheVariants.{Scalar as ScalarForm, Array as ArrayForm, Block as BlockForm}
use Rattle.il_syntax.specs.declared.tree.Literal.{Literal}
use Rattle.il_syntax.specs.declared.tree.Scalar.{Scalar}
use Rattle.il_syntax.specs.declared.tree.Unit.{Unit as ProgramUnit}
use Rattle.il_statics.specs.Names.{is_one_of}
use Rattle.il_semantics.specs.declared.value.Value.{Value}
use Rattle.base_maps.specs.NameMap.{Text, get, from_entries}
use Rattle.il_semantics.specs.Values.{IsOf}
use Rattle.il_semantics.specs.State.{Values}
use Rattle.il_semantics.specs.Meaning.{under, element_path, Entity, entities, initial_value, elements, width, values_at, entity_values}
use Rattle.il_semantics.specs.Ranges.{HasValue, HaveValues, element_scalars, scalars_at, entity_scalars, instance_scalars, external_scalars, global_scalars}
use Rattle.il_semantics.specs.Scan.{entries_at, external_paths, paths_of, written_paths, names_stored}
use Rattle.il_semantics_laws.specs.Listed.{HaveOneType, SharesGlobals}
use Rattle.il_semantics_laws.proofs.Paths.{value_of, values_of, path_of, Agree, agree_append, have_agreed, have_both, have_first, have_second}
use Rattle.group_spec.specs.Image.{sizes_of}
use Rattle.group_spec.specs.Snapshot.{given_entries, image_entries}
use Rattle.group_spec.specs.World.{Group, snapshot_of, InRanges}
use Rattle.group_laws.specs.Tasks.{IsSized, output_scalars}
use Rattle.group_laws.specs.Seeing.{image_scalars}
use Rattle.group_laws.proofs.Seen.{given_scalars, image_agrees, given_part, have_table, once_part, in_either, firsts, fields, waiting, from_row, to_row, car_row, outputs, places, motors, assigns, then}

-- GLOBALS

element_paths : (n : ℕ) (path : Text) (z : ℤ) (s : Scalar) (v : Value) → map (λ (e : Text × Value). e.0) (elements n path z v) ≡ map (λ (p : Text × Scalar). p.0) (element_scalars n path z s)
element_paths zero path z s v = refl
element_paths (suc n) path z s v = ap (λ l. element_path path z ∷ l) (element_paths n path (z +ℤ pos 1) s v)

map_append : {A B : Type 0} (f : A → B) (xs ys : List A) → map f (xs ++ ys) ≡ map f xs ++ map f ys
map_append f [] ys = refl
map_append f (x ∷ xs) ys = ap (λ l. f x ∷ l) (map_append f xs ys)

form_paths : (c : Config) (path : Text) (initial : Option Literal) (form : Form) → map (λ (e : Text × Value). e.0) (values_at (λ _ _. []) path initial form) ≡ map (λ (p : Text × Scalar). p.0) (scalars_at (instance_scalars zero c) path form)
form_paths c path initial (ScalarForm s) = refl
form_paths c path initial (ArrayForm bounds element) = element_paths (width bounds) path bounds.lower element (initial_value element None)
form_paths c path initial (BlockForm block) = refl

-- the paths of externals are those of their types
pub external_are : (c : Config) (es : List Entity) → paths_of es ≡ map (λ (p : Text × Scalar). p.0) (entity_scalars (instance_scalars zero c) [] es)
external_are c [] = refl
external_are c (e ∷ es) =
    map_append (λ (x : Text × Value). x.0) (values_at (λ _ _. []) (under [] e.name) e.initial e.form) (entity_values (λ _ _. []) [] es)
    ∙ ap (λ l. l ++ paths_of es) (form_paths c (under [] e.name) e.initial e.form)
    ∙ ap (λ l. map (λ (p : Text × Scalar). p.0) (scalars_at (instance_scalars zero c) (under [] e.name) e.form) ++ l) (external_are c es)
    ∙ sym (map_append (λ (p : Text × Scalar). p.0) (scalars_at (instance_scalars zero c) (under [] e.name) e.form) (entity_scalars (instance_scalars zero c) [] es))

globals_agree : (globals : Values) (ps : List (Text × Scalar)) → HaveValues globals ps → Agree ps (entries_at globals (map (λ p. p.0) ps))
globals_agree globals [] h = tt
globals_agree globals (p ∷ ps) h = rw h.0.1 (refl, h.0.2, globals_agree globals ps h.1)

-- WHAT IS GIVEN

pub given_have : (c : Config) (t : ℕ) (u : ProgramUnit) (g : Group) → IsSized c → t ≤ (sizes_of c).cars → SharesGlobals c u → HaveOneType (external_scalars c u ++ image_scalars c t) → InRanges c g
    → HaveValues (from_entries (given_entries c t u (snapshot_of g))) (external_scalars c u ++ image_scalars c t)
given_have c t u g sized within shares once ranges =
    have_both m (external_scalars c u) (image_scalars c t) (have_first m (external_scalars c u) (given_scalars c t) below) (have_table m c t (have_second m (external_scalars c u) (given_scalars c t) below))
  where
    m : Values
    m = from_entries (given_entries c t u (snapshot_of g))

    globals : HaveValues g.globals (external_scalars c u)
    globals = values_of g.globals (external_scalars c u) (λ p at. value_of g.globals (global_scalars c) p ranges.globals (shares.externals p at))

    shown : Agree (external_scalars c u) (entries_at g.globals (external_paths u))
    shown = subst (λ l. Agree (external_scalars c u) (entries_at g.globals l)) (sym (external_are c (entities u.externals))) (globals_agree g.globals (external_scalars c u) globals)

    part : (p : Text × Scalar) → Contains (external_scalars c u ++ given_scalars c t) p → Contains (external_scalars c u ++ image_scalars c t) p
    part p =
        in_either (external_scalars c u) (given_scalars c t) p (λ at. Contains-append_left (external_scalars c u) (image_scalars c t) p at) (λ at. Contains-append_right (external_scalars c u) (image_scalars c t) p (given_part c t p at))

    below : HaveValues m (external_scalars c u ++ given_scalars c t)
    below =
        have_agreed (external_scalars c u ++ given_scalars c t) (given_entries c t u (snapshot_of g))
        (agree_append (external_scalars c u) (given_scalars c t) (entries_at g.globals (external_paths u)) (image_entries (sizes_of c) t g.image g.calls.slots) shown (image_agrees c t g sized within ranges))
        (once_part (external_scalars c u ++ image_scalars c t) (external_scalars c u ++ given_scalars c t) part once)

-- OUTPUTS

rest_of : (m : Values) (c : Config) (rest : List (Text × Scalar)) → HaveValues m (then c rest) → HaveValues m rest
rest_of m c rest h =
    have_second m (car_row c) rest (have_second m (to_row c) (car_row c ++ rest) (have_second m (from_row c) (to_row c ++ (car_row c ++ rest)) (have_second m (waiting c) (from_row c ++ (to_row c ++ (car_row c ++ rest))) h)))

pub outputs_have : (m : Values) (c : Config) (t : ℕ) → HaveValues m (image_scalars c t) → HaveValues m (output_scalars c t)
outputs_have m c zero h =
    rest_of m c (assigns c ++ []) (have_second m (motors c) (then c (assigns c ++ [])) (have_second m (places c) (motors c ++ then c (assigns c ++ [])) (have_second m (firsts c) (places c ++ (motors c ++ then c (assigns c ++ []))) h)))
outputs_have m c (suc k) h = rest_of m c (outputs c) (have_second m (fields c) (then c (outputs c)) (have_second m (firsts c) (fields c ++ then c (outputs c)) h))

-- GLOBALS

-- the scalars of some of the declarations are among those of all
some_are : (c : Config) (f : Entity → Bool) (es : List Entity) (p : Text × Scalar) → Contains (entity_scalars (instance_scalars zero c) [] (filter f es)) p → Contains (entity_scalars (instance_scalars zero c) [] es) p
some_are c f [] p at = at
some_are c f (e ∷ es) p at = by (f e) (some_are c f es p) at
  where
    by : (b : Bool) → (Contains (entity_scalars (instance_scalars zero c) [] (filter f es)) p → Contains (entity_scalars (instance_scalars zero c) [] es) p)
        → Contains (entity_scalars (instance_scalars zero c) [] (cond b (e ∷ filter f es) (filter f es))) p → Contains (entity_scalars (instance_scalars zero c) [] (e ∷ es)) p
    by true rest at =
        in_either (scalars_at (instance_scalars zero c) (under [] e.name) e.form) (entity_scalars (instance_scalars zero c) [] (filter f es)) p
        (Contains-append_left (scalars_at (instance_scalars zero c) (under [] e.name) e.form) (entity_scalars (instance_scalars zero c) [] es) p)
        (λ at. Contains-append_right (scalars_at (instance_scalars zero c) (under [] e.name) e.form) (entity_scalars (instance_scalars zero c) [] es) p (rest at)) at
    by false rest at = Contains-append_right (scalars_at (instance_scalars zero c) (under [] e.name) e.form) (entity_scalars (instance_scalars zero c) [] es) p (rest at)

-- a path that a program writes is that of one of its externals
written_is : (c : Config) (u : ProgramUnit) (q : Text) → Contains (written_paths u) q → (p : Text × Scalar) × Contains (external_scalars c u) p × (p.0 ≡ q)
written_is c u q at =
    let written : List Entity = filter (λ e. is_one_of (names_stored u) e.name) (entities u.externals) in
    let there : Contains (map (λ (p : Text × Scalar). p.0) (entity_scalars (instance_scalars zero c) [] written)) q = subst (λ l. Contains l q) (external_are c written) at in
    let found = path_of (entity_scalars (instance_scalars zero c) [] written) q there in
    (found.0, some_are c (λ e. is_one_of (names_stored u) e.name) (entities u.externals) found.0 found.1, found.2)

moved : (m : Values) (p q : Text × Scalar) → p.0 ≡ q.0 → p.1 ≡ q.1 → HasValue m p → HasValue m q
moved m p q same_path same_type h = (h.0, ap (get m) (sym same_path) ∙ h.1, subst (λ s. IsOf s h.0) same_type h.2)

pub globals_have : (m : Values) (c : Config) (u : ProgramUnit) → SharesGlobals c u → HaveValues m (external_scalars c u) → (p : Text × Scalar) → Contains (global_scalars c) p → Contains (written_paths u) p.0 → HasValue m p
globals_have m c u shares have p at written =
    let found = written_is c u p.0 written in
    moved m found.0 p found.2 (shares.once found.0 p (shares.externals found.0 found.1) at found.2) (value_of m (external_scalars c u) found.0 have found.1)
