-- What the names of a unit are declared as.
use Rattle.std.proofs.Common.{◌≡◌, Bool, true, false, List, [], ◌∷◌, ◌++◌, map, refl, sym, ap, ◌∙◌, Option, Some, None, subst, append-nil, append_assoc, ap₂}
use Rattle.std.specs.Prelude.{bytes_eq, if◌then◌else◌, ◌&&◌, ◌||◌, find, option_map, is_some, option_and_then, filter, not}
use Rattle.std.proofs.lemmas.Slice.Eq.{bytes_eq-Decides}
use Rattle.il_syntax.specs.declared.tree.Literal.{Literal}
use Rattle.il_syntax.specs.declared.tree.Form.{Form}
use Rattle.il_syntax.specs.declared.tree.Form.TheVariants.{Scalar as ScalarForm}
use Rattle.il_syntax.specs.declared.tree.Named.{Named}
use Rattle.il_syntax.specs.declared.tree.Declaration.{Declaration}
use Rattle.il_syntax.specs.declared.tree.Unit.{Unit as ProgramUnit}
use Rattle.il_syntax.specs.declared.tree.UnitKind.{UnitKind}
use Rattle.il_syntax.specs.declared.tree.UnitKind.TheVariants.{Function, FunctionBlock, Program}
use Rattle.il_syntax.specs.declared.tree.Config.{Config}
use Rattle.il_statics.specs.declared.names.StandardFunction.{StandardFunction}
use Rattle.il_statics.specs.declared.names.StandardBlock.{StandardBlock}
use Rattle.il_statics.specs.declared.names.Origin.{Origin}
use Rattle.il_statics.specs.declared.names.Origin.TheVariants.{Input as AsInput, Output as AsOutput, Local as AsVariable, External as AsExternal, FunctionResult as AsResult}
use Rattle.il_statics.specs.Names.{Variable, BlockVariables, standard_block, standard_variables, standard_function, own_block_variables, entry_of, or_else, named_forms, with_origin, result_of, own_variable, ImageName, image_of, image_name, sees, is_function_kind, is_function_block, is_function_block_kind, is_program, is_program_kind, is_seen_by, program_role, is_predeclared, MeansVariable, MeansUnit, MeansStandard, outer_meaning, meaning, meant_variable, form_named, unit_named, function_block_named, block_variables}
use Rattle.base_maps.specs.NameMap.{Text}
use Rattle.il_semantics.specs.Meaning.{Entity, entities, result_entities, uninitialized, own_entities, standard_entities, block_entities, inputs_of, outputs_of}
use Rattle.load_slots.specs.Cells.{form_in, HasNone, AreNamed}
use Rattle.load_slots.specs.Places.{seen_among, seen_image, is_common, unit_entities, entities_if, declared_in, IsImage}

-- by their parts
abbrev entity : Text → Form → Option Literal → Entity
entity name form initial = record { name = name; form = form; initial = initial }

abbrev variable : Text → Form → Origin → Variable
variable name form origin = record { name = name; form = form; origin = origin }

-- FORMS IN PARTS

pub same_bytes : (a b : Text) → bytes_eq a b ≡ true → a ≡ b
same_bytes a b is = (bytes_eq-Decides a b).0 is

if_else : {A : Type 0} (b : Bool) (x : A) (y z : Option A) → (if b then Some x else or_else y z) ≡ or_else (if b then Some x else y) z
if_else true x y z = refl
if_else false x y z = refl

pub form_in-append : (xs ys : List Entity) (name : Text) → form_in (xs ++ ys) name ≡ or_else (form_in xs name) (form_in ys name)
form_in-append [] ys name = refl
form_in-append (x ∷ xs) ys name = ap (λ o. if bytes_eq x.name name then Some x.form else o) (form_in-append xs ys name) ∙ if_else (bytes_eq x.name name) x.form (form_in xs name) (form_in ys name)

-- the form of the first variable of a name
abbrev form_of : List Variable → Text → Option Form
form_of vs name = option_map (λ v. v.form) (find (λ v. bytes_eq v.name name) vs)

moved_if : {A B : Type 0} (f : A → B) (b : Bool) (x : A) (o : Option A) → option_map f (if b then Some x else o) ≡ (if b then Some (f x) else option_map f o)
moved_if f true x o = refl
moved_if f false x o = refl

form_of-append : (xs ys : List Variable) (name : Text) → form_of (xs ++ ys) name ≡ or_else (form_of xs name) (form_of ys name)
form_of-append [] ys name = refl
form_of-append (x ∷ xs) ys name =
    moved_if (λ (v : Variable). v.form) (bytes_eq x.name name) x (find (λ v. bytes_eq v.name name) (xs ++ ys)) ∙ ap (λ o. if bytes_eq x.name name then Some x.form else o) (form_of-append xs ys name)
    ∙ if_else (bytes_eq x.name name) x.form (form_of xs name) (form_of ys name)
    ∙ ap (λ o. or_else o (form_of ys name)) (sym (moved_if (λ (v : Variable). v.form) (bytes_eq x.name name) x (find (λ v. bytes_eq v.name name) xs)))

entry_of-append : (xs ys : List (Text × Form)) (name : Text) → entry_of (xs ++ ys) name ≡ or_else (entry_of xs name) (entry_of ys name)
entry_of-append [] ys name = refl
entry_of-append (x ∷ xs) ys name =
    moved_if (λ (v : Text × Form). v.1) (bytes_eq x.0 name) x (find (λ v. bytes_eq v.0 name) (xs ++ ys)) ∙ ap (λ o. if bytes_eq x.0 name then Some x.1 else o) (entry_of-append xs ys name)
    ∙ if_else (bytes_eq x.0 name) x.1 (entry_of xs name) (entry_of ys name)
    ∙ ap (λ o. or_else o (entry_of ys name)) (sym (moved_if (λ (v : Text × Form). v.1) (bytes_eq x.0 name) x (find (λ v. bytes_eq v.0 name) xs)))

-- the same forms, whether by declarations, by variables or by pairs
named_same : (names : List Named) (f : Form) (initial : Option Literal) (name : Text) → form_in (map (λ n. entity n.name f initial) names) name ≡ entry_of (map (λ n. (n.name, f)) names) name
named_same [] f initial name = refl
named_same (n ∷ names) f initial name =
    ap (λ o. if bytes_eq n.name name then Some f else o) (named_same names f initial name)
    ∙ sym (moved_if (λ (v : Text × Form). v.1) (bytes_eq n.name name) (n.name, f) (find (λ v. bytes_eq v.0 name) (map (λ n. (n.name, f)) names)))

pub entities_same : (ds : List Declaration) (name : Text) → form_in (entities ds) name ≡ entry_of (named_forms ds) name
entities_same [] name = refl
entities_same (d ∷ ds) name =
    form_in-append (map (λ n. entity n.name d.declared.form (option_map (λ i. i.literal) d.initial)) d.names) (entities ds) name
    ∙ ap (λ o. or_else o (form_in (entities ds) name)) (named_same d.names d.declared.form (option_map (λ i. i.literal) d.initial) name)
    ∙ ap (or_else (entry_of (map (λ n. (n.name, d.declared.form)) d.names) name)) (entities_same ds name)
    ∙ sym (entry_of-append (map (λ n. (n.name, d.declared.form)) d.names) (named_forms ds) name)

pub uninitialized_same : (vs : List (Text × Form)) (name : Text) → form_in (uninitialized vs) name ≡ entry_of vs name
uninitialized_same [] name = refl
uninitialized_same (v ∷ vs) name =
    ap (λ o. if bytes_eq v.0 name then Some v.1 else o) (uninitialized_same vs name)
    ∙ sym (moved_if (λ (v : Text × Form). v.1) (bytes_eq v.0 name) v (find (λ v. bytes_eq v.0 name) vs))

origin_same : (o : Origin) (vs : List (Text × Form)) (name : Text) → form_of (map (λ v. variable v.0 v.1 o) vs) name ≡ entry_of vs name
origin_same o [] name = refl
origin_same o (v ∷ vs) name =
    moved_if (λ (v : Variable). v.form) (bytes_eq v.0 name) (variable v.0 v.1 o) (find (λ v. bytes_eq v.name name) (map (λ v. variable v.0 v.1 o) vs))
    ∙ ap (λ x. if bytes_eq v.0 name then Some v.1 else x) (origin_same o vs name)
    ∙ sym (moved_if (λ (v : Text × Form). v.1) (bytes_eq v.0 name) v (find (λ v. bytes_eq v.0 name) vs))

with_origin_same : (o : Origin) (ds : List Declaration) (name : Text) → form_of (with_origin o ds) name ≡ form_in (entities ds) name
with_origin_same o ds name = origin_same o (named_forms ds) name ∙ sym (entities_same ds name)

-- two lists of four parts whose parts are the same
four : (a b d e : List Variable) (x y z w : List Entity) (name : Text) → form_of a name ≡ form_in x name → form_of b name ≡ form_in y name → form_of d name ≡ form_in z name → form_of e name ≡ form_in w name
    → form_of (a ++ b ++ d ++ e) name ≡ or_else (form_in (x ++ y ++ z) name) (form_in w name)
four a b d e x y z w name p q r s =
    form_of-append (a ++ b ++ d) e name ∙ ap₂ or_else
    (form_of-append (a ++ b) d name ∙ ap₂ or_else (form_of-append a b name ∙ ap₂ or_else p q ∙ sym (form_in-append x y name)) r ∙ sym (form_in-append (x ++ y) z name)) s

-- what a unit declares itself: its result, its own variables, and its externals
pub own_same : (u : ProgramUnit) (name : Text)
    → option_map (λ v. v.form) (own_variable u name) ≡ or_else (form_in (result_entities u.kind u.name.name) name) (or_else (form_in (own_entities u) name) (form_in (entities u.externals) name))
own_same u name =
    ap (λ vs. form_of vs name) (regroup (result_of u.kind u.name.name) (with_origin AsInput u.inputs) (with_origin AsOutput u.outputs) (with_origin AsVariable u.variables) (with_origin AsExternal u.externals))
    ∙ form_of-append (result_of u.kind u.name.name) (with_origin AsInput u.inputs ++ with_origin AsOutput u.outputs ++ with_origin AsVariable u.variables ++ with_origin AsExternal u.externals) name
    ∙ ap₂ or_else (result_same u.kind)
    (four (with_origin AsInput u.inputs) (with_origin AsOutput u.outputs) (with_origin AsVariable u.variables) (with_origin AsExternal u.externals)
    (entities u.inputs) (entities u.outputs) (entities u.variables) (entities u.externals) name
    (with_origin_same AsInput u.inputs name) (with_origin_same AsOutput u.outputs name) (with_origin_same AsVariable u.variables name) (with_origin_same AsExternal u.externals name))
  where
    regroup : (r i o v e : List Variable) → r ++ i ++ o ++ v ++ e ≡ r ++ (i ++ o ++ v ++ e)
    regroup r i o v e = simp append_assoc

    result_same : (k : UnitKind) → form_of (result_of k u.name.name) name ≡ form_in (result_entities k u.name.name) name
    result_same (Function s place) = by_test (bytes_eq u.name.name name)
      where
        by_test : (b : Bool) → option_map (λ (v : Variable). v.form) (if b then Some (variable u.name.name (ScalarForm s) AsResult) else None) ≡ (if b then Some (ScalarForm s) else None)
        by_test true = refl
        by_test false = refl
    result_same FunctionBlock = refl
    result_same Program = refl

-- NAMES THAT STAND ONCE

-- a name that none has is not found
pub none_found : (es : List Entity) (name : Text) (f : Form) → HasNone es name → form_in es name ≡ Some f → ⊥
none_found [] name f none is = cc
none_found (e ∷ es) name f none is = by_test (bytes_eq e.name name) refl is (none_found es name f none.1)
  where
    by_test : (b : Bool) → bytes_eq e.name name ≡ b → (if b then Some e.form else form_in es name) ≡ Some f → (form_in es name ≡ Some f → ⊥) → ⊥
    by_test true test is more = none.0 (same_bytes e.name name test)
    by_test false test is more = more is

pub front_form : (xs ys : List Entity) (name : Text) (f : Form) → form_in xs name ≡ Some f → form_in (xs ++ ys) name ≡ Some f
front_form xs ys name f is = form_in-append xs ys name ∙ ap (λ o. or_else o (form_in ys name)) is

pub back_form : (xs ys : List Entity) → AreNamed (xs ++ ys) → (name : Text) (f : Form) → form_in ys name ≡ Some f → form_in (xs ++ ys) name ≡ Some f
back_form [] ys named name f is = is
back_form (x ∷ xs) ys named name f is = by_test (bytes_eq x.name name) refl (back_form xs ys named.4 name f is)
  where
    by_test : (b : Bool) → bytes_eq x.name name ≡ b → form_in (xs ++ ys) name ≡ Some f → (if b then Some x.form else form_in (xs ++ ys) name) ≡ Some f
    by_test true test rest = absurd (none_found (xs ++ ys) name f (subst (HasNone (xs ++ ys)) (same_bytes x.name name test) named.2) rest)
    by_test false test rest = rest

none_front : (xs ys : List Entity) (name : Text) → HasNone (xs ++ ys) name → HasNone xs name
none_front [] ys name none = tt
none_front (x ∷ xs) ys name none = (none.0, none_front xs ys name none.1)

pub named_front : (xs ys : List Entity) → AreNamed (xs ++ ys) → AreNamed xs
named_front [] ys named = tt
named_front (x ∷ xs) ys named = (named.0, named.1, none_front xs ys x.name named.2, named.3, named_front xs ys named.4)

pub named_back : (xs ys : List Entity) → AreNamed (xs ++ ys) → AreNamed ys
named_back [] ys named = named
named_back (x ∷ xs) ys named = named_back xs ys named.4

pub some_name : (es : List Entity) → AreNamed es → (name : Text) (f : Form) → form_in es name ≡ Some f → name ≡ [] → ⊥
some_name [] named name f is = cc
some_name (e ∷ es) named name f is = by_test (bytes_eq e.name name) refl is (some_name es named.4 name f)
  where
    by_test : (b : Bool) → bytes_eq e.name name ≡ b → (if b then Some e.form else form_in es name) ≡ Some f → (form_in es name ≡ Some f → name ≡ [] → ⊥) → name ≡ [] → ⊥
    by_test true test is more empty = named.1 (same_bytes e.name name test ∙ empty)
    by_test false test is more empty = more is empty

-- BLOCKS

-- an own block of a name is no standard one, and its own name is that
pub record IsOwn (c : Config) (block : Text) (v : ProgramUnit) : Type 0 where
  pub called : v.name.name ≡ block
  pub found : unit_named c block ≡ Some v
  pub not_standard : standard_block block ≡ None
  pub kind : is_function_block v ≡ true

-- what an own function block of a name is
own_by : (c : Config) (block : Text) (v : ProgramUnit) (image : Option ImageName) (f : Option StandardFunction) (s : Option StandardBlock) → standard_block block ≡ s
    → (found : Option ProgramUnit) → find (λ u. bytes_eq u.name.name block) c.units ≡ found → (if is_some image || is_some f || is_some s then None else found) ≡ unit_named c block
    → option_and_then (λ u. if is_function_block u then Some u else None) (if is_some image || is_some f || is_some s then None else found) ≡ Some v → IsOwn c block v
own_by c block v (Some i) f s same found e unit is = cc
own_by c block v None (Some f) s same found e unit is = cc
own_by c block v None None (Some s) same found e unit is = cc
own_by c block v None None None same None e unit is = cc
own_by c block v None None None same (Some u) e unit is =
    let kept = kept_of (is_function_block u) refl is in
    record { called = ap (λ (w : ProgramUnit). w.name.name) (sym kept.0) ∙ found_name c.units e; found = sym unit ∙ ap Some kept.0; not_standard = same; kind = ap is_function_block (sym kept.0) ∙ kept.1 }
  where
    kept_of : (b : Bool) → is_function_block u ≡ b → (if b then Some u else None) ≡ Some v → (u ≡ v) × (is_function_block u ≡ true)
    kept_of true test is = (let same : u ≡ v = cc in same, test)
    kept_of false test is = cc

    found_name : (us : List ProgramUnit) → find (λ u. bytes_eq u.name.name block) us ≡ Some u → u.name.name ≡ block
    found_name [] is = cc
    found_name (w ∷ us) is = by_test (bytes_eq w.name.name block) refl is (found_name us)
      where
        by_test : (b : Bool) → bytes_eq w.name.name block ≡ b → (if b then Some w else find (λ u. bytes_eq u.name.name block) us) ≡ Some u → (find (λ u. bytes_eq u.name.name block) us ≡ Some u → u.name.name ≡ block) → u.name.name ≡ block
        by_test true test is more = let same : w ≡ u = cc in ap (λ (x : ProgramUnit). x.name.name) (sym same) ∙ same_bytes w.name.name block test
        by_test false test is more = more is

pub own : (c : Config) (block : Text) (v : ProgramUnit) → function_block_named c block ≡ Some v → IsOwn c block v
own c block v is = own_by c block v (image_name c block) (standard_function block) (standard_block block) refl (find (λ u. bytes_eq u.name.name block) c.units) refl refl is

-- the declarations of a block
pub block_is_own : (c : Config) (block : Text) (v : ProgramUnit) → function_block_named c block ≡ Some v → block_entities c block ≡ own_entities v
block_is_own c block v is = rw is (rw (own c block v is).not_standard refl)

pub block_is_standard : (c : Config) (block : Text) (b : StandardBlock) → standard_block block ≡ Some b → block_entities c block ≡ standard_entities (standard_variables b)
block_is_standard c block b is = rw is refl

-- the words of a block are declared in it
abbrev pub AreWords : Config → Text → (Option BlockVariables → List (Text × Form)) → Type 0
AreWords c block words = (word : Text) (f : Form) → entry_of (words (block_variables c block)) word ≡ Some f → form_in (block_entities c block) word ≡ Some f

three_words : (c : Config) (block : Text) → AreNamed (block_entities c block) → (x y z : List Entity) → block_entities c block ≡ x ++ y ++ z → (b : BlockVariables) → block_variables c block ≡ Some b
    → ((name : Text) → form_in x name ≡ entry_of b.inputs name) → ((name : Text) → form_in y name ≡ entry_of b.outputs name) → AreWords c block inputs_of × AreWords c block outputs_of
three_words c block named x y z parts b is ins outs = (
  λ word f found.
      ap (λ es. form_in es word) parts ∙ front_form (x ++ y) z word f (front_form x y word f (ins word ∙ ap (λ o. entry_of (inputs_of o) word) (sym is) ∙ found)),
  λ word f found.
      ap (λ es. form_in es word) parts
      ∙ front_form (x ++ y) z word f (back_form x y (named_front (x ++ y) z (subst AreNamed parts named)) word f (outs word ∙ ap (λ o. entry_of (outputs_of o) word) (sym is) ∙ found)),
)

no_words : (c : Config) (block : Text) → block_variables c block ≡ None → AreWords c block inputs_of × AreWords c block outputs_of
no_words c block is =
    (λ word f found. let none : None ≡ Some f = ap (λ o. entry_of (inputs_of o) word) (sym is) ∙ found in cc, λ word f found. let none : None ≡ Some f = ap (λ o. entry_of (outputs_of o) word) (sym is) ∙ found in cc)

uninitialized-append : (xs ys : List (Text × Form)) → uninitialized (xs ++ ys) ≡ uninitialized xs ++ uninitialized ys
uninitialized-append [] ys = refl
uninitialized-append (x ∷ xs) ys = ap (λ es. entity x.0 x.1 None ∷ es) (uninitialized-append xs ys)

pub words : (c : Config) (block : Text) → AreNamed (block_entities c block) → AreWords c block inputs_of × AreWords c block outputs_of
unfolding block_variables
words c block named = by_case (standard_block block) refl (function_block_named c block) refl
  where
    by_case : (s : Option StandardBlock) → standard_block block ≡ s → (g : Option ProgramUnit) → function_block_named c block ≡ g → AreWords c block inputs_of × AreWords c block outputs_of
    by_case (Some b) standard g function =
        let v : BlockVariables = standard_variables b in
        let parts : block_entities c block ≡ uninitialized v.inputs ++ uninitialized v.outputs ++ uninitialized v.inner =
        block_is_standard c block b standard ∙ uninitialized-append (v.inputs ++ v.outputs) v.inner ∙ ap (λ es. es ++ uninitialized v.inner) (uninitialized-append v.inputs v.outputs) in
        three_words c block named (uninitialized v.inputs) (uninitialized v.outputs) (uninitialized v.inner) parts v (ap (λ o. or_else (option_map standard_variables o) (option_map own_block_variables (function_block_named c block))) standard)
        (uninitialized_same v.inputs) (uninitialized_same v.outputs)
    by_case None standard (Some v) function =
        three_words c block named (entities v.inputs) (entities v.outputs) (entities v.variables) (block_is_own c block v function) (own_block_variables v)
        (ap₂ (λ s g. or_else (option_map standard_variables s) (option_map own_block_variables g)) standard function)
        (entities_same v.inputs) (entities_same v.outputs)
    by_case None standard None function = no_words c block (ap₂ (λ s g. or_else (option_map standard_variables s) (option_map own_block_variables g)) standard function)

-- THE NAMES OF A UNIT

no_global : (m n : Option ProgramUnit) (b : Bool) (f : Form) → option_map (λ v. v.form) (meant_variable (or_else (option_map MeansUnit m) (if b then Some MeansStandard else None))) ≡ Some f → ⊥
no_global (Some u) n b f is = cc
no_global None n true f is = cc
no_global None n false f is = cc

-- of lists whose names are once, what any part has is had by all
module _ (o r e i : List Entity) (named : AreNamed (o ++ (r ++ (e ++ i)))) (name : Text) (f : Form) where
  in_own : form_in o name ≡ Some f → form_in (o ++ (r ++ (e ++ i))) name ≡ Some f
  in_own is = front_form o (r ++ (e ++ i)) name f is

  in_result : form_in r name ≡ Some f → form_in (o ++ (r ++ (e ++ i))) name ≡ Some f
  in_result is = back_form o (r ++ (e ++ i)) named name f (front_form r (e ++ i) name f is)

  in_externals : form_in e name ≡ Some f → form_in (o ++ (r ++ (e ++ i))) name ≡ Some f
  in_externals is = back_form o (r ++ (e ++ i)) named name f (back_form r (e ++ i) (named_back o (r ++ (e ++ i)) named) name f (front_form e i name f is))

  in_image : form_in i name ≡ Some f → form_in (o ++ (r ++ (e ++ i))) name ≡ Some f
  in_image is =
      back_form o (r ++ (e ++ i)) named name f (back_form r (e ++ i) (named_back o (r ++ (e ++ i)) named) name f (back_form e i (named_back r (e ++ i) (named_back o (r ++ (e ++ i)) named)) name f is))

  in_declared : or_else (form_in r name) (or_else (form_in o name) (form_in e name)) ≡ Some f → form_in (o ++ (r ++ (e ++ i))) name ≡ Some f
  in_declared is = by_parts (form_in r name) refl (form_in o name) refl is
    where
      by_parts : (x : Option Form) → form_in r name ≡ x → (y : Option Form) → form_in o name ≡ y → or_else x (or_else y (form_in e name)) ≡ Some f → form_in (o ++ (r ++ (e ++ i))) name ≡ Some f
      by_parts (Some g) a y b is = in_result (a ∙ is)
      by_parts None a (Some g) b is = in_own (b ∙ is)
      by_parts None a None b is = in_externals is

-- what a name of a unit denotes is what it is declared as
pub unit_form : (c : Config) (u : ProgramUnit) → AreNamed (unit_entities c u) → IsImage c u (seen_image c u) → (name : Text) (f : Form) → form_named c u name ≡ Some f → form_in (unit_entities c u) name ≡ Some f
unfolding meaning
unit_form c u named seen name f is = by_own (own_variable u name) refl is
  where
    r : List Entity
    r = result_entities u.kind u.name.name

    by_own : (o : Option Variable) → own_variable u name ≡ o → option_map (λ v. v.form) (meant_variable (or_else (option_map MeansVariable o) (outer_meaning c u name (image_name c name)))) ≡ Some f → form_in (unit_entities c u) name ≡ Some f
    by_own (Some v) here is = in_declared (own_entities u) r (entities u.externals) (seen_image c u) named name f (sym (own_same u name) ∙ ap (option_map (λ (w : Variable). w.form)) here ∙ is)
    by_own None here is = by_image (image_name c name) refl is
      where
        by_seen : (i : ImageName) → image_name c name ≡ Some i → (b : Bool) → sees c u i ≡ b → option_map (λ v. v.form) (meant_variable (if b then Some (MeansVariable i.variable) else None)) ≡ Some f → form_in (unit_entities c u) name ≡ Some f
        by_seen i found true shown is = in_image (own_entities u) r (entities u.externals) (seen_image c u) named name f (seen name i found shown ∙ is)
        by_seen i found false shown is = cc

        by_image : (i : Option ImageName) → image_name c name ≡ i → option_map (λ v. v.form) (meant_variable (outer_meaning c u name i)) ≡ Some f → form_in (unit_entities c u) name ≡ Some f
        by_image None found is = absurd (no_global (unit_named c name) None (is_predeclared c name) f is)
        by_image (Some i) found is = by_seen i found (sees c u i) refl is

-- a unit that is no program sees no image
pub none_seen : (c : Config) (u : ProgramUnit) → is_program u ≡ false → (is : List ImageName) → seen_among c u is ≡ []
none_seen c u other [] = refl
none_seen c u other (i ∷ is) =
    ap (λ b. if b && is_seen_by (program_role c u.name.name c.programs) i.audience then entity i.variable.name i.variable.form None ∷ seen_among c u is else seen_among c u is) other ∙ none_seen c u other is

-- so it has nothing after its own variables and its result
pub no_others : (c : Config) (u : ProgramUnit) → is_program u ≡ false → u.externals ≡ [] → entities u.externals ++ seen_image c u ≡ []
no_others c u other none =
    let all : List ImageName = image_of c.cars.value c.floors.value c.slots.value in
    ap₂ (λ (ds : List Declaration) es. entities ds ++ es) none (ap₂ ◌++◌ (none_seen c u other (filter is_common all)) (none_seen c u other (filter (λ i. not (is_common i)) all)))

pub block_is_no_function : (k : UnitKind) → is_function_block_kind k ≡ true → (is_function_kind k ≡ false) × (is_program_kind k ≡ false)
block_is_no_function (Function s p) is = cc
block_is_no_function FunctionBlock is = (refl, refl)
block_is_no_function Program is = cc

-- a block's declarations are its own variables
pub block_alone : (c : Config) (block : Text) (v : ProgramUnit) → function_block_named c block ≡ Some v → v.externals ≡ [] → unit_entities c v ≡ block_entities c block
block_alone c block v is none =
    let w = own c block v is in
    ap₂ (λ r es. own_entities v ++ (r ++ es)) (no_result v.kind w.kind) (no_others c v (block_is_no_function v.kind w.kind).1 none) ∙ append-nil (own_entities v) ∙ sym (block_is_own c block v is)
  where
    no_result : (k : UnitKind) → is_function_block_kind k ≡ true → result_entities k v.name.name ≡ []
    no_result (Function s p) is = cc
    no_result FunctionBlock is = refl
    no_result Program is = cc

-- the declarations of a unit's own name
pub declared_is : (c : Config) (u : ProgramUnit) → unit_named c u.name.name ≡ Some u → declared_in c u.name.name ≡ unit_entities c u
declared_is c u found = ap (entities_if c) found
