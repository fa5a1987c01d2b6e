-- The variables that the code counts of a function are those that begin anew at its call.
use Rattle.std.proofs.Common.{◌≡◌, ℕ, zero, suc, ◌+◌, true, false, List, [], ◌∷◌, ◌++◌, map, length, length-append, refl, sym, ap, ◌∙◌, arith, ℤ}
use Rattle.std.specs.Prelude.{pos, negsuc, nat_abs, ◌-ℤ◌, ◌+ℤ◌, ◌<ℤ◌, ◌≤ℤ◌, option_map}
use Rattle.std.proofs.lemmas.Int.{ints}
use Rattle.il_syntax.specs.declared.tree.Config.{Config}
use Rattle.il_syntax.specs.declared.tree.Declaration.{Declaration}
use Rattle.il_syntax.specs.declared.tree.Form.{Form}
use Rattle.il_syntax.specs.declared.tree.Form.TheVariants.{Scalar as ScalarForm, Array as ArrayForm, Block as BlockForm}
use Rattle.il_syntax.specs.declared.tree.Named.{Named}
use Rattle.il_syntax.specs.declared.tree.Subrange.{Subrange}
use Rattle.il_syntax.specs.declared.tree.Unit.{Unit as ProgramUnit}
use Rattle.il_syntax.specs.declared.tree.UnitKind.{UnitKind}
use Rattle.il_syntax.specs.declared.tree.UnitKind.TheVariants.{Function, FunctionBlock, Program}
use Rattle.il_statics.specs.Names.{is_function, is_function_kind}
use Rattle.il_semantics.specs.declared.value.Value.{Value}
use Rattle.base_maps.specs.NameMap.{Text}
use Rattle.il_semantics.specs.Meaning.{Entity, entities, own_entities, result_entities, elements, entity_values, instance_values, fresh_values, width, width_of, values_at, under}
use Rattle.load_work.specs.Sizes.{capped, form_size, with_names, with_declared, with_result, unit_size}

-- ARRAYS

pub width_is : (bounds : Subrange) → bounds.lower ≤ℤ bounds.upper → width bounds ≡ nat_abs (bounds.upper -ℤ bounds.lower) + 1
width_is bounds le = by_number (bounds.upper -ℤ bounds.lower) (omega (arith, ints))
  where
    by_number : (z : ℤ) → pos 0 ≤ℤ z → width_of (z +ℤ pos 1) ≡ nat_abs z + 1
    by_number (pos n) low = let e : pos n +ℤ pos 1 ≡ pos (n + 1) = omega (arith, ints) in ap width_of e
    by_number (negsuc n) low = absurd (omega (arith, ints))

pub no_width : (bounds : Subrange) → bounds.upper <ℤ bounds.lower → width bounds ≡ 0
no_width bounds less = by_number ((bounds.upper -ℤ bounds.lower) +ℤ pos 1) (omega (arith, ints))
  where
    by_number : (z : ℤ) → z ≤ℤ pos 0 → width_of z ≡ 0
    by_number (pos zero) low = refl
    by_number (pos (suc n)) low = absurd (omega (arith, ints))
    by_number (negsuc n) low = refl

-- COUNTS WITHOUT A LIMIT

abbrev size_of : Form → ℕ
size_of (ScalarForm scalar) = 1
size_of (ArrayForm bounds element) = width bounds
size_of (BlockForm name) = 0

abbrev total_of : List Entity → ℕ
total_of [] = 0
total_of (e ∷ es) = size_of e.form + total_of es

abbrev for_names : ℕ → List Named → ℕ
for_names size [] = 0
for_names size (n ∷ names) = size + for_names size names

total_append : (es fs : List Entity) → total_of (es ++ fs) ≡ total_of es + total_of fs
total_append [] fs = omega arith
total_append (e ∷ es) fs = let more = total_append es fs in omega arith

elements_long : (n : ℕ) (path : Text) (z : ℤ) (value : Value) → length (elements n path z value) ≡ n
elements_long zero path z value = refl
elements_long (suc n) path z value = let more = elements_long n path (z +ℤ pos 1) value in omega arith

module _ (c : Config) where
  values_long : (path : Text) (e : Entity) (form : Form) → length (values_at (instance_values zero c) path e.initial form) ≡ size_of form
  values_long path e (ScalarForm scalar) = refl
  values_long path e (ArrayForm bounds element) = elements_long (width bounds) path bounds.lower _
  values_long path e (BlockForm name) = refl

  entities_long : (path : Text) (es : List Entity) → length (entity_values (instance_values zero c) path es) ≡ total_of es
  entities_long path [] = refl
  entities_long path (e ∷ es) =
      let here = values_long (under path e.name) e e.form in
      let more = entities_long path es in
      let both = length-append (values_at (instance_values zero c) (under path e.name) e.initial e.form) (entity_values (instance_values zero c) path es) in
      omega arith

-- COUNTS UP TO THE LIMIT

size_capped : (form : Form) → form_size form ≡ capped (size_of form)
size_capped (ScalarForm scalar) = let e : 1 ≡ capped 1 = omega arith in e
size_capped (ArrayForm bounds element) = refl
size_capped (BlockForm name) = let e : 0 ≡ capped 0 = omega arith in e

names_total : (d : Declaration) (names : List Named) → total_of (map (λ n. record { name = n.name; form = d.declared.form; initial = option_map (λ i. i.literal) d.initial }) names) ≡ for_names (size_of d.declared.form) names
names_total d [] = refl
names_total d (n ∷ names) = let more = names_total d names in omega arith

names_counted : (total t size s : ℕ) (names : List Named) → total ≡ capped t → size ≡ capped s → with_names total size names ≡ capped (t + for_names s names)
names_counted total t size s [] is is_size = let e : capped (t + 0) ≡ capped t = omega arith in is ∙ sym e
names_counted total t size s (n ∷ names) is is_size =
    let next : capped (total + size) ≡ capped (t + s) = omega (arith, is, is_size) in
    names_counted (capped (total + size)) (t + s) size s names next is_size ∙ ap capped (let e : t + s + for_names s names ≡ t + (s + for_names s names) = omega arith in e)

declared_counted : (total t : ℕ) (ds : List Declaration) → total ≡ capped t → with_declared total ds ≡ capped (t + total_of (entities ds))
declared_counted total t [] is = let e : capped (t + 0) ≡ capped t = omega arith in is ∙ sym e
declared_counted total t (d ∷ ds) is =
    let one = names_counted total t (form_size d.declared.form) (size_of d.declared.form) d.names is (size_capped d.declared.form) in
    let rest = declared_counted (with_names total (form_size d.declared.form) d.names) (t + for_names (size_of d.declared.form) d.names) ds one in
    let names = names_total d d.names in
    let both = total_append (map (λ n. record { name = n.name; form = d.declared.form; initial = option_map (λ i. i.literal) d.initial }) d.names) (entities ds) in
    rest ∙ ap capped (let e : t + for_names (size_of d.declared.form) d.names + total_of (entities ds) ≡ t + total_of (entities (d ∷ ds)) = omega (arith, names, both) in e)

-- the variables of a function, with its result
pub function_size : (c : Config) (u : ProgramUnit) → is_function u ≡ true → unit_size u ≡ capped (length (fresh_values c u))
function_size c u is = by_kind u.kind refl is
  where
    counted : (k : ℕ) → total_of (own_entities u) ≡ k → with_declared (with_declared (with_declared 0 u.inputs) u.outputs) u.variables ≡ capped k
    counted k e =
        let inputs = declared_counted 0 0 u.inputs (let z : 0 ≡ capped 0 = omega arith in z) in
        let outputs = declared_counted (with_declared 0 u.inputs) (0 + total_of (entities u.inputs)) u.outputs inputs in
        let variables = declared_counted (with_declared (with_declared 0 u.inputs) u.outputs) (0 + total_of (entities u.inputs) + total_of (entities u.outputs)) u.variables outputs in
        let first = total_append (entities u.inputs ++ entities u.outputs) (entities u.variables) in
        let second = total_append (entities u.inputs) (entities u.outputs) in
        variables ∙ ap capped (let s : 0 + total_of (entities u.inputs) + total_of (entities u.outputs) + total_of (entities u.variables) ≡ k = omega (arith, first, second, e) in s)

    by_kind : (kind : UnitKind) → u.kind ≡ kind → is_function_kind kind ≡ true → with_result u.kind (with_declared (with_declared (with_declared 0 u.inputs) u.outputs) u.variables) ≡ capped (length (fresh_values c u))
    by_kind FunctionBlock e f = let bad : false ≡ true = f in cc
    by_kind Program e f = let bad : false ≡ true = f in cc
    by_kind (Function scalar place) e f =
        let all = counted (total_of (own_entities u)) refl in
        let long = entities_long c u.name.name (own_entities u ++ result_entities u.kind u.name.name) in
        let both = total_append (own_entities u) (result_entities u.kind u.name.name) in
        let one : total_of (result_entities u.kind u.name.name) ≡ 1 = ap (λ k. total_of (result_entities k u.name.name)) e in
        ap (λ k. with_result k (with_declared (with_declared (with_declared 0 u.inputs) u.outputs) u.variables)) e
        ∙ (let s : capped (with_declared (with_declared (with_declared 0 u.inputs) u.outputs) u.variables + 1) ≡ capped (length (fresh_values c u)) = omega (arith, all, long, both, one) in s)
