-- What a name means in an accepted configuration: a declared one its own variable, and nothing else.
use Rattle.std.proofs.Common.{◌≡◌, ◌≢◌, zero, suc, Bool, true, false, List, [], ◌∷◌, ◌++◌, map, refl, sym, ap, ◌∙◌, Some, None, Option, subst, arith, ◌⊎◌, inl, inr}
use Rattle.std.proofs.lemmas.List.Elements.{Contains-append_left, Contains-append_right, Contains-append_cases}
use Rattle.std.proofs.lemmas.Option.{same_Some}
use Rattle.std.proofs.lemmas.Slice.Eq.{bytes_eq-Decides}
use Rattle.std.specs.Prelude.{Contains, option_map, bytes_eq, ◌&&◌, if◌then◌else◌}
use Rattle.il_syntax.specs.declared.tree.Config.{Config}
use Rattle.il_syntax.specs.declared.tree.Unit.{Unit as ProgramUnit}
use Rattle.il_syntax.specs.declared.tree.UnitKind.{UnitKind}
use Rattle.il_syntax.specs.declared.tree.UnitKind.TheVariants.{Function, FunctionBlock, Program}
use Rattle.il_syntax.specs.declared.tree.Scalar.{Scalar}
use Rattle.il_syntax.specs.declared.tree.Place.{Place}
use Rattle.il_syntax.specs.declared.tree.Named.{Named}
use Rattle.il_syntax.specs.declared.tree.Declaration.{Declaration}
use Rattle.il_syntax.specs.declared.tree.Form.{Form}
use Rattle.il_syntax.specs.declared.tree.Form.TheVariants.{Scalar as ScalarForm}
use Rattle.il_statics.specs.declared.names.Origin.{Origin}
use Rattle.il_statics.specs.declared.names.Origin.TheVariants.{Input as AsInput, Output as AsOutput, Local as AsVariable, External as AsExternal}
use Rattle.il_statics.specs.Names.{Variable, ImageName, image_of, image_name, named_forms, with_origin, result_of, variables_of, own_variable, sees, is_program, is_seen_by, program_role, is_predeclared, unit_named, meaning, MeansVariable, MeansUnit, MeansStandard, meant_variable, outer_meaning, form_named, or_else}
use Rattle.il_statics.specs.Declarations.{unit_declarations, unit_names, names_in, names_of_units, predeclared_variable, variable_as_unit, second_variable, second_unit}
use Rattle.il_statics.specs.Faults.{duplicate, HasNoFault, Broken, Declaring}
use Rattle.base_maps.specs.NameMap.{Text}
use Rattle.il_semantics_laws.proofs.Lists.{in_nothing, in_map, of_map, in_flat_map, of_flat_map, found_in, finds_some, AreDistinct, distinct_names, only_one}

-- ENTRIES OF DECLARATIONS

-- a name in a list of declarations, with its declaration
pub record IsListed (ds : List Declaration) (name : Text) (form : Form) : Type 0 where
  pub declaration : Declaration
  pub name_of : Named
  pub among : Contains ds declaration
  pub listed : Contains declaration.names name_of
  pub spelled : name_of.name ≡ name
  pub formed : declaration.declared.form ≡ form

pub listed : (ds : List Declaration) (name : Text) (form : Form) → Contains (named_forms ds) (name, form) → IsListed ds name form
listed ds name form among =
    let outer = of_flat_map (λ (d : Declaration). map (λ (n : Named). (n.name, d.declared.form)) d.names) ds (name, form) among in
    let inner = of_map (λ (n : Named). (n.name, outer.0.declared.form)) outer.0.names (name, form) outer.2 in
    record { declaration = outer.0; name_of = inner.0; among = outer.1; listed = inner.1; spelled = ap (λ (e : Text × Form). e.0) inner.2; formed = ap (λ (e : Text × Form). e.1) inner.2 }

pub entry : (ds : List Declaration) (d : Declaration) (n : Named) → Contains ds d → Contains d.names n → Contains (named_forms ds) (n.name, d.declared.form)
entry ds d n among named =
    in_flat_map (λ (d : Declaration). map (λ (n : Named). (n.name, d.declared.form)) d.names) ds d (n.name, d.declared.form) among (in_map (λ (n : Named). (n.name, d.declared.form)) d.names n named)

pub listed_name : (ds : List Declaration) (name : Text) (form : Form) (l : IsListed ds name form) → Contains (names_in ds) l.name_of
listed_name ds name form l = in_flat_map (λ (d : Declaration). d.names) ds l.declaration l.name_of l.among l.listed

-- declarations among others
pub wider : (ds es : List Declaration) → ((d : Declaration) → Contains ds d → Contains es d) → (name : Text) (form : Form) → IsListed ds name form → IsListed es name form
wider ds es more name form l = record { declaration = l.declaration; name_of = l.name_of; among = more l.declaration l.among; listed = l.listed; spelled = l.spelled; formed = l.formed }

-- the lists of a unit
pub from_inputs : (u : ProgramUnit) (d : Declaration) → Contains u.inputs d → Contains (unit_declarations u) d
from_inputs u d among = Contains-append_left (u.inputs ++ u.outputs ++ u.variables) u.externals d (Contains-append_left (u.inputs ++ u.outputs) u.variables d (Contains-append_left u.inputs u.outputs d among))

pub from_outputs : (u : ProgramUnit) (d : Declaration) → Contains u.outputs d → Contains (unit_declarations u) d
from_outputs u d among = Contains-append_left (u.inputs ++ u.outputs ++ u.variables) u.externals d (Contains-append_left (u.inputs ++ u.outputs) u.variables d (Contains-append_right u.inputs u.outputs d among))

pub from_variables : (u : ProgramUnit) (d : Declaration) → Contains u.variables d → Contains (unit_declarations u) d
from_variables u d among = Contains-append_left (u.inputs ++ u.outputs ++ u.variables) u.externals d (Contains-append_right (u.inputs ++ u.outputs) u.variables d among)

pub from_externals : (u : ProgramUnit) (d : Declaration) → Contains u.externals d → Contains (unit_declarations u) d
from_externals u d among = Contains-append_right (u.inputs ++ u.outputs ++ u.variables) u.externals d among

-- VARIABLES OF A UNIT

-- how a unit has a variable
pub data Owned (u : ProgramUnit) (name : Text) (form : Form) : Type 0 where
  as_result : (s : Scalar) (place : Place) → u.kind ≡ Function s place → u.name.name ≡ name → ScalarForm s ≡ form → Owned u name form
  as_input : IsListed u.inputs name form → Owned u name form
  as_output : IsListed u.outputs name form → Owned u name form
  as_variable : IsListed u.variables name form → Owned u name form
  as_external : IsListed u.externals name form → Owned u name form

of_origin : (o : Origin) (ds : List Declaration) (v : Variable) → Contains (with_origin o ds) v → IsListed ds v.name v.form
of_origin o ds v among =
    let r = of_map (λ (e : Text × Form). record { name = e.0; form = e.1; origin = o }) (named_forms ds) v among in
    subst (λ (w : Variable). IsListed ds w.name w.form) r.2 (listed ds r.0.0 r.0.1 r.1)

in_origin : (o : Origin) (ds : List Declaration) (name : Text) (form : Form) → IsListed ds name form → Contains (with_origin o ds) (record { name = name; form = form; origin = o })
in_origin o ds name form l =
    let there = in_map (λ (e : Text × Form). record { name = e.0; form = e.1; origin = o }) (named_forms ds) (l.name_of.name, l.declaration.declared.form) (entry ds l.declaration l.name_of l.among l.listed) in
    subst (λ (f : Form). Contains (with_origin o ds) (record { name = name; form = f; origin = o })) l.formed
    (subst (λ (t : Text). Contains (with_origin o ds) (record { name = t; form = l.declaration.declared.form; origin = o })) l.spelled there)

owned : (u : ProgramUnit) (v : Variable) → Contains (variables_of u) v → Owned u v.name v.form
owned u v among = by_external (Contains-append_cases (result_of u.kind u.name.name ++ with_origin AsInput u.inputs ++ with_origin AsOutput u.outputs ++ with_origin AsVariable u.variables) (with_origin AsExternal u.externals) v among)
  where
    by_result : (k : UnitKind) → u.kind ≡ k → Contains (result_of k u.name.name) v → Owned u v.name v.form
    by_result (Function s place) is (zero, low, same) = as_result s place is (ap (λ (w : Variable). w.name) same) (ap (λ (w : Variable). w.form) same)
    by_result (Function s place) is (suc n, low, same) = absurd (omega arith)
    by_result FunctionBlock is among = absurd (in_nothing v among)
    by_result Program is among = absurd (in_nothing v among)

    by_input : Contains (result_of u.kind u.name.name) v ⊎ Contains (with_origin AsInput u.inputs) v → Owned u v.name v.form
    by_input (inl a) = by_result u.kind refl a
    by_input (inr a) = as_input (of_origin AsInput u.inputs v a)

    by_output : Contains (result_of u.kind u.name.name ++ with_origin AsInput u.inputs) v ⊎ Contains (with_origin AsOutput u.outputs) v → Owned u v.name v.form
    by_output (inl a) = by_input (Contains-append_cases (result_of u.kind u.name.name) (with_origin AsInput u.inputs) v a)
    by_output (inr a) = as_output (of_origin AsOutput u.outputs v a)

    by_variable : Contains (result_of u.kind u.name.name ++ with_origin AsInput u.inputs ++ with_origin AsOutput u.outputs) v ⊎ Contains (with_origin AsVariable u.variables) v → Owned u v.name v.form
    by_variable (inl a) = by_output (Contains-append_cases (result_of u.kind u.name.name ++ with_origin AsInput u.inputs) (with_origin AsOutput u.outputs) v a)
    by_variable (inr a) = as_variable (of_origin AsVariable u.variables v a)

    by_external : Contains (result_of u.kind u.name.name ++ with_origin AsInput u.inputs ++ with_origin AsOutput u.outputs ++ with_origin AsVariable u.variables) v ⊎ Contains (with_origin AsExternal u.externals) v → Owned u v.name v.form
    by_external (inl a) = by_variable (Contains-append_cases (result_of u.kind u.name.name ++ with_origin AsInput u.inputs ++ with_origin AsOutput u.outputs) (with_origin AsVariable u.variables) v a)
    by_external (inr a) = as_external (of_origin AsExternal u.externals v a)

-- the variable that is found of its name
pub owned_by_name : (u : ProgramUnit) (name : Text) (v : Variable) → own_variable u name ≡ Some v → Owned u name v.form
owned_by_name u name v e =
    let r = found_in (λ (w : Variable). bytes_eq w.name name) (variables_of u) v e in
    subst (λ (t : Text). Owned u t v.form) ((bytes_eq-Decides v.name name).0 r.1) (owned u v r.0)

-- what declares it, where it is no result
pub declared_in : (u : ProgramUnit) (name : Text) (form : Form) → Owned u name form → ((s : Scalar) × (place : Place) × (u.kind ≡ Function s place) × (u.name.name ≡ name) × (ScalarForm s ≡ form)) ⊎ IsListed (unit_declarations u) name form
declared_in u name form (as_result s place kind same is) = inl (s, place, kind, same, is)
declared_in u name form (as_input l) = inr (wider u.inputs (unit_declarations u) (from_inputs u) name form l)
declared_in u name form (as_output l) = inr (wider u.outputs (unit_declarations u) (from_outputs u) name form l)
declared_in u name form (as_variable l) = inr (wider u.variables (unit_declarations u) (from_variables u) name form l)
declared_in u name form (as_external l) = inr (wider u.externals (unit_declarations u) (from_externals u) name form l)

-- MEANINGS

abbrev pub images : Config → List ImageName
images c = image_of c.cars.value c.floors.value c.slots.value

-- a name that is no variable of the unit, and the image's
pub record Imaged (c : Config) (u : ProgramUnit) (name : Text) (form : Form) : Type 0 where
  pub image : ImageName
  pub among : Contains (images c) image
  pub spelled : image.variable.name ≡ name
  pub formed : image.variable.form ≡ form
  pub program : is_program u ≡ true
  pub seen : sees c u image ≡ true

image_found : (c : Config) (name : Text) (i : ImageName) → image_name c name ≡ Some i → Contains (images c) i × (i.variable.name ≡ name)
unfolding image_name
image_found c name i e =
    let r = found_in (λ (j : ImageName). bytes_eq j.variable.name name) (images c) i e in
    (r.0, (bytes_eq-Decides i.variable.name name).0 r.1)

first_true : (a b : Bool) → (a && b) ≡ true → a ≡ true
first_true true b e = refl
first_true false b e = e

-- what a name means that means a variable
pub means : (c : Config) (u : ProgramUnit) (name : Text) (form : Form) → form_named c u name ≡ Some form → Owned u name form ⊎ Imaged c u name form
unfolding meaning
means c u name form e = from_own (own_variable u name) refl e
  where
    from_global : (o : Option ProgramUnit) (b : Bool) → option_map (λ (v : Variable). v.form) (meant_variable (or_else (option_map MeansUnit o) (if b then Some MeansStandard else None))) ≡ Some form → Owned u name form ⊎ Imaged c u name form
    from_global (Some v) b e = cc
    from_global None true e = cc
    from_global None false e = cc

    by_sight : (i : ImageName) → image_name c name ≡ Some i → (b : Bool) → sees c u i ≡ b → option_map (λ (v : Variable). v.form) (meant_variable (if b then Some (MeansVariable i.variable) else None)) ≡ Some form → Owned u name form ⊎ Imaged c u name form
    by_sight i is true seen e =
        let r = image_found c name i is in
        inr (record { image = i; among = r.0; spelled = r.1; formed = same_Some i.variable.form form e; program = first_true (is_program u) (is_seen_by (program_role c u.name.name c.programs) i.audience) seen; seen = seen })
    by_sight i is false seen e = cc

    from_image : (o : Option ImageName) → image_name c name ≡ o → option_map (λ (v : Variable). v.form) (meant_variable (outer_meaning c u name o)) ≡ Some form → Owned u name form ⊎ Imaged c u name form
    from_image None is e = from_global (unit_named c name) (is_predeclared c name) e
    from_image (Some i) is e = by_sight i is (sees c u i) refl e

    from_own : (o : Option Variable) → own_variable u name ≡ o → option_map (λ (v : Variable). v.form) (meant_variable (or_else (option_map MeansVariable o) (outer_meaning c u name (image_name c name)))) ≡ Some form → Owned u name form ⊎ Imaged c u name form
    from_own (Some v) is e = inl (subst (Owned u name) (same_Some v.form form e) (owned_by_name u name v is))
    from_own None is e = from_image (image_name c name) refl e

-- THE RULES OF NAMES

pub entry_names : (ds : List Declaration) → map (λ (e : Text × Form). e.0) (named_forms ds) ≡ map (λ (n : Named). n.name) (names_in ds)
entry_names [] = refl
entry_names (d ∷ ds) = in_one d.names (entry_names ds)
  where
    in_one : (ns : List Named) → map (λ (e : Text × Form). e.0) (named_forms ds) ≡ map (λ (n : Named). n.name) (names_in ds) → map (λ (e : Text × Form). e.0) (map (λ (n : Named). (n.name, d.declared.form)) ns ++ named_forms ds) ≡ map (λ (n : Named). n.name) (ns ++ names_in ds)
    in_one [] rest = rest
    in_one (n ∷ ns) rest = ap (λ (ts : List Text). n.name ∷ ts) (in_one ns rest)

module _ (c : Config) (unbroken : HasNoFault (Broken Declaring c)) where
  -- two declarations of one name are one (20)
  pub declared_once : (u : ProgramUnit) → Contains c.units u → (name : Text) (f g : Form) → IsListed (unit_declarations u) name f → IsListed (unit_declarations u) name g → f ≡ g
  declared_once u among name f g a b =
      let apart = subst AreDistinct (sym (entry_names (unit_declarations u))) (distinct_names (λ (n : Named). n.name) (unit_names u) (λ n again. unbroken 20 n.place (duplicate refl (second_variable u n among again refl)))) in
      let one = only_one (λ (e : Text × Form). e.0) (named_forms (unit_declarations u)) (a.name_of.name, a.declaration.declared.form) (b.name_of.name, b.declaration.declared.form) apart
      (entry (unit_declarations u) a.declaration a.name_of a.among a.listed) (entry (unit_declarations u) b.declaration b.name_of b.among b.listed) (a.spelled ∙ sym b.spelled) in
      sym a.formed ∙ ap (λ (e : Text × Form). e.1) one ∙ b.formed

  -- a declared name is no unit's (20)
  pub no_unit : (u v : ProgramUnit) → Contains c.units u → Contains c.units v → (name : Text) (form : Form) → IsListed (unit_declarations u) name form → v.name.name ≢ name
  no_unit u v among other name form l same =
      unbroken 20 l.name_of.place (duplicate refl (variable_as_unit u l.name_of among (listed_name (unit_declarations u) name form l)
      (subst (Contains (names_of_units c)) (same ∙ sym l.spelled) (in_map (λ (w : ProgramUnit). w.name.name) c.units v other)) refl))

  -- nor a predeclared one (20)
  pub not_predeclared : (u : ProgramUnit) → Contains c.units u → (name : Text) (form : Form) → IsListed (unit_declarations u) name form → is_predeclared c name ≢ true
  not_predeclared u among name form l is =
      unbroken 20 l.name_of.place (duplicate refl (predeclared_variable u l.name_of among (listed_name (unit_declarations u) name form l) (ap (is_predeclared c) l.spelled ∙ is) refl))

  -- two units of one name are one (20)
  pub one_unit : (u v : ProgramUnit) → Contains c.units u → Contains c.units v → u.name.name ≡ v.name.name → u ≡ v
  one_unit u v a b same = only_one (λ (w : ProgramUnit). w.name.name) c.units u v (distinct_names (λ (w : ProgramUnit). w.name.name) c.units (λ w again. unbroken 20 w.place (duplicate refl (second_unit w again refl)))) a b same

  -- a declared name means its variable (20)
  pub declared_means : (u : ProgramUnit) → Contains c.units u → (name : Text) (form : Form) → IsListed (unit_declarations u) name form → (v : Variable) → Contains (variables_of u) v → v.name ≡ name → form_named c u name ≡ Some form
  unfolding meaning
  declared_means u among name form l v has same =
      let found = finds_some (λ (w : Variable). bytes_eq w.name name) (variables_of u) v has ((bytes_eq-Decides v.name name).1 same) in
      let is : own_variable u name ≡ Some found.0 = found.1 in
      ap (λ o. option_map (λ (x : Variable). x.form) (meant_variable (or_else (option_map MeansVariable o) (outer_meaning c u name (image_name c name))))) is
      ∙ ap Some (by_way found.0.form (declared_in u name found.0.form (owned_by_name u name found.0 is)))
    where
      by_way : (g : Form) → ((s : Scalar) × (place : Place) × (u.kind ≡ Function s place) × (u.name.name ≡ name) × (ScalarForm s ≡ g)) ⊎ IsListed (unit_declarations u) name g → g ≡ form
      by_way g (inl r) = absurd (no_unit u u among among name form l r.3)
      by_way g (inr k) = declared_once u among name g form k l

  pub input_means : (u : ProgramUnit) → Contains c.units u → (name : Text) (form : Form) → IsListed u.inputs name form → form_named c u name ≡ Some form
  input_means u among name form l =
      declared_means u among name form (wider u.inputs (unit_declarations u) (from_inputs u) name form l) (record { name = name; form = form; origin = AsInput })
      (Contains-append_left (result_of u.kind u.name.name ++ with_origin AsInput u.inputs ++ with_origin AsOutput u.outputs ++ with_origin AsVariable u.variables) (with_origin AsExternal u.externals) _
      (Contains-append_left (result_of u.kind u.name.name ++ with_origin AsInput u.inputs ++ with_origin AsOutput u.outputs) (with_origin AsVariable u.variables) _
      (Contains-append_left (result_of u.kind u.name.name ++ with_origin AsInput u.inputs) (with_origin AsOutput u.outputs) _
      (Contains-append_right (result_of u.kind u.name.name) (with_origin AsInput u.inputs) _ (in_origin AsInput u.inputs name form l))))) refl

  pub output_means : (u : ProgramUnit) → Contains c.units u → (name : Text) (form : Form) → IsListed u.outputs name form → form_named c u name ≡ Some form
  output_means u among name form l =
      declared_means u among name form (wider u.outputs (unit_declarations u) (from_outputs u) name form l) (record { name = name; form = form; origin = AsOutput })
      (Contains-append_left (result_of u.kind u.name.name ++ with_origin AsInput u.inputs ++ with_origin AsOutput u.outputs ++ with_origin AsVariable u.variables) (with_origin AsExternal u.externals) _
      (Contains-append_left (result_of u.kind u.name.name ++ with_origin AsInput u.inputs ++ with_origin AsOutput u.outputs) (with_origin AsVariable u.variables) _
      (Contains-append_right (result_of u.kind u.name.name ++ with_origin AsInput u.inputs) (with_origin AsOutput u.outputs) _ (in_origin AsOutput u.outputs name form l)))) refl

  pub variable_means : (u : ProgramUnit) → Contains c.units u → (name : Text) (form : Form) → IsListed u.variables name form → form_named c u name ≡ Some form
  variable_means u among name form l =
      declared_means u among name form (wider u.variables (unit_declarations u) (from_variables u) name form l) (record { name = name; form = form; origin = AsVariable })
      (Contains-append_left (result_of u.kind u.name.name ++ with_origin AsInput u.inputs ++ with_origin AsOutput u.outputs ++ with_origin AsVariable u.variables) (with_origin AsExternal u.externals) _
      (Contains-append_right (result_of u.kind u.name.name ++ with_origin AsInput u.inputs ++ with_origin AsOutput u.outputs) (with_origin AsVariable u.variables) _ (in_origin AsVariable u.variables name form l))) refl

  pub external_means : (u : ProgramUnit) → Contains c.units u → (name : Text) (form : Form) → IsListed u.externals name form → form_named c u name ≡ Some form
  external_means u among name form l =
      declared_means u among name form (wider u.externals (unit_declarations u) (from_externals u) name form l) (record { name = name; form = form; origin = AsExternal })
      (Contains-append_right (result_of u.kind u.name.name ++ with_origin AsInput u.inputs ++ with_origin AsOutput u.outputs ++ with_origin AsVariable u.variables) (with_origin AsExternal u.externals) _ (in_origin AsExternal u.externals name form l)) refl
