-- What is in a list of paths is kept: entities of declarations, elements of arrays, members of instances.
use Rattle.std.proofs.Common.{◌≡◌, ◌≢◌, ◌<◌, ℕ, zero, suc, ℤ, pos, negsuc, true, List, [], ◌∷◌, ◌++◌, refl, sym, ap, ◌∙◌, Some, None, Option, subst, arith, ◌⊎◌, inl, inr}
use Rattle.std.proofs.lemmas.Int.{ints}
use Rattle.std.proofs.lemmas.List.Elements.{Contains-append_left, Contains-append_right, Contains-append_cases}
use Rattle.std.specs.Prelude.{Contains, ◌+ℤ◌, ◌-ℤ◌}
use Rattle.il_syntax.specs.declared.tree.Config.{Config}
use Rattle.il_syntax.specs.declared.tree.Unit.{Unit as ProgramUnit}
use Rattle.il_syntax.specs.declared.tree.Scalar.{Scalar}
use Rattle.il_syntax.specs.declared.tree.Subrange.{Subrange}
use Rattle.il_syntax.specs.declared.tree.Declaration.{Declaration}
use Rattle.il_syntax.specs.declared.tree.Form.{Form}
use Rattle.il_syntax.specs.declared.tree.Form.TheVariants.{Scalar as ScalarForm, Array as ArrayForm, Block as BlockForm}
use Rattle.il_statics.specs.declared.names.StandardBlock.{StandardBlock}
use Rattle.il_statics.specs.Names.{BlockVariables, standard_block, standard_variables, function_block_named, own_block_variables, named_forms}
use Rattle.il_statics.specs.Declarations.{is_within}
use Rattle.base_maps.specs.NameMap.{Text}
use Rattle.il_semantics.specs.Meaning.{under, element_path, member_path, Entity, entities, own_entities, block_entities, standard_entities, width, width_of}
use Rattle.il_semantics.specs.Ranges.{scalars_at, element_scalars, entity_scalars, instance_scalars}
use Rattle.il_semantics_laws.specs.Agreement.{HasVariable, Keeps, itself, element, member}
use Rattle.il_semantics_laws.proofs.Going.{within_yes}
use Rattle.il_semantics_laws.proofs.Running.{standard_are, under_member}
use Rattle.il_semantics_laws.proofs.Lists.{in_nothing, at_head, in_tail, of_map}
use Rattle.il_semantics_laws.proofs.Declared.{IsListed, entry}
use Rattle.il_semantics_laws.proofs.Meant.{own_are}
use Rattle.il_semantics_laws.proofs.Fresh.{IsEntity, of_entities}

-- LISTS OF PATHS

pub of_scalars : (inner : Text → Text → List (Text × Scalar)) (path : Text) (es : List Entity) (x : Text × Scalar) → Contains (entity_scalars inner path es) x → (e : Entity) × Contains es e × Contains (scalars_at inner (under path e.name) e.form) x
of_scalars inner path [] x among = absurd (in_nothing x among)
of_scalars inner path (e ∷ es) x among = by_side (Contains-append_cases (scalars_at inner (under path e.name) e.form) (entity_scalars inner path es) x among) (of_scalars inner path es x)
  where
    by_side : Contains (scalars_at inner (under path e.name) e.form) x ⊎ Contains (entity_scalars inner path es) x
        → (Contains (entity_scalars inner path es) x → (d : Entity) × Contains es d × Contains (scalars_at inner (under path d.name) d.form) x)
        → (d : Entity) × Contains (e ∷ es) d × Contains (scalars_at inner (under path d.name) d.form) x
    by_side (inl here) more = (e, at_head e es, here)
    by_side (inr there) more = let r = more there in (r.0, in_tail e es r.0 r.1, r.2)

-- an element's index, so many from the first
pub of_elements : (n : ℕ) (path : Text) (z : ℤ) (s : Scalar) (x : Text × Scalar) → Contains (element_scalars n path z s) x → (k : ℕ) × (k < n) × ((element_path path (z +ℤ pos k), s) ≡ x)
of_elements zero path z s x among = absurd (in_nothing x among)
of_elements (suc n) path z s x (zero, low, same) = (0, omega arith, ap (λ (y : ℤ). (element_path path y, s)) (omega (arith, ints)) ∙ same)
of_elements (suc n) path z s x (suc i, low, same) =
    let r = of_elements n path (z +ℤ pos 1) s x (i, omega arith, same) in
    let there = r.1 in
    (suc r.0, omega arith, ap (λ (y : ℤ). (element_path path y, s)) (next z r.0) ∙ r.2)
  where
    next : (z : ℤ) (k : ℕ) → z +ℤ pos (suc k) ≡ (z +ℤ pos 1) +ℤ pos k
    next z k = omega (arith, ints)

inside_width : (s : Subrange) (k : ℕ) → k < width s → is_within s (s.lower +ℤ pos k) ≡ true
inside_width s k low = by_width ((s.upper -ℤ s.lower) +ℤ pos 1) refl low
  where
    by_width : (w : ℤ) → (s.upper -ℤ s.lower) +ℤ pos 1 ≡ w → k < width_of w → is_within s (s.lower +ℤ pos k) ≡ true
    by_width (pos n) is low = within_yes s (s.lower +ℤ pos k) (omega (arith, ints)) (omega (arith, ints))
    by_width (negsuc n) is low = absurd (omega arith)

-- ENTITIES

entity_entry : (ds : List Declaration) (e : Entity) → IsEntity ds e → Contains (named_forms ds) (e.name, e.form)
entity_entry ds e l = subst (λ (x : Entity). Contains (named_forms ds) (x.name, x.form)) l.same (entry ds l.declaration l.name_of l.among l.listed)

pub entity_listed : (ds : List Declaration) (e : Entity) → IsEntity ds e → IsListed ds e.name e.form
entity_listed ds e l = record { declaration = l.declaration; name_of = l.name_of; among = l.among; listed = l.listed; spelled = ap (λ (x : Entity). x.name) l.same; formed = ap (λ (x : Entity). x.form) l.same }

own_entry : (v : ProgramUnit) (e : Entity) → Contains (own_entities v) e → Contains (named_forms v.inputs ++ named_forms v.outputs ++ named_forms v.variables) (e.name, e.form)
own_entry v e among = by_variable (Contains-append_cases (entities v.inputs ++ entities v.outputs) (entities v.variables) e among)
  where
    by_input : Contains (entities v.inputs) e ⊎ Contains (entities v.outputs) e → Contains (named_forms v.inputs ++ named_forms v.outputs) (e.name, e.form)
    by_input (inl a) = Contains-append_left (named_forms v.inputs) (named_forms v.outputs) _ (entity_entry v.inputs e (of_entities v.inputs e a))
    by_input (inr a) = Contains-append_right (named_forms v.inputs) (named_forms v.outputs) _ (entity_entry v.outputs e (of_entities v.outputs e a))

    by_variable : Contains (entities v.inputs ++ entities v.outputs) e ⊎ Contains (entities v.variables) e → Contains (named_forms v.inputs ++ named_forms v.outputs ++ named_forms v.variables) (e.name, e.form)
    by_variable (inl a) = Contains-append_left (named_forms v.inputs ++ named_forms v.outputs) (named_forms v.variables) _ (by_input (Contains-append_cases (entities v.inputs) (entities v.outputs) e a))
    by_variable (inr a) = Contains-append_right (named_forms v.inputs ++ named_forms v.outputs) (named_forms v.variables) _ (entity_entry v.variables e (of_entities v.variables e a))

standard_entry : (v : BlockVariables) (e : Entity) → Contains (standard_entities v) e → Contains (v.inputs ++ v.outputs ++ v.inner) (e.name, e.form)
standard_entry v e among =
    let r = of_map (λ (w : Text × Form). record { name = w.0; form = w.1; initial = None }) (v.inputs ++ v.outputs ++ v.inner) e among in
    subst (λ (x : Entity). Contains (v.inputs ++ v.outputs ++ v.inner) (x.name, x.form)) r.2 r.1

-- an entity of a block is a variable of it
block_entry : (c : Config) (block : Text) (e : Entity) → Contains (block_entities c block) e → HasVariable c block e.name e.form
block_entry c block e among = by_standard (standard_block block) refl
  where
    by_own : standard_block block ≡ None → (o : Option ProgramUnit) → function_block_named c block ≡ o → HasVariable c block e.name e.form
    by_own none None is = absurd (in_nothing e (rw (is, none) at among))
    by_own none (Some v) is = (own_block_variables v, own_are c block v is, own_entry v e (rw (is, none) at among))

    by_standard : (o : Option StandardBlock) → standard_block block ≡ o → HasVariable c block e.name e.form
    by_standard (Some s) is = (standard_variables s, standard_are c block s is, standard_entry (standard_variables s) e (rw is at among))
    by_standard None is = by_own is (function_block_named c block) refl

-- KEPT PATHS

pub member_some : (path word : Text) → path ≢ [] → member_path path word ≢ []
member_some [] word some e = some refl
member_some (x ∷ xs) word some e = cc

pub kept_at : (n : ℕ) (c : Config) (path : Text) (form : Form) (x : Text × Scalar) → path ≢ [] → Contains (scalars_at (instance_scalars n c) path form) x → Keeps c x.0 x.1 path form
kept_at n c path (ScalarForm s) x some (zero, low, same) = itself path (ScalarForm s) (ap (λ (y : Text × Scalar). ScalarForm y.1) same) (ap (λ (y : Text × Scalar). y.0) (sym same))
kept_at n c path (ScalarForm s) x some (suc i, low, same) = absurd (omega arith)
kept_at n c path (ArrayForm bounds s) x some among =
    let r = of_elements (width bounds) path bounds.lower s x among in
    element path (ArrayForm bounds s) bounds (bounds.lower +ℤ pos r.0) (ap (λ (y : Text × Scalar). ArrayForm bounds y.1) r.2) (inside_width bounds r.0 r.1) (ap (λ (y : Text × Scalar). y.0) (sym r.2))
kept_at zero c path (BlockForm block) x some among = absurd (in_nothing x among)
kept_at (suc n) c path (BlockForm block) x some among =
    let r = of_scalars (instance_scalars n c) path (block_entities c block) x among in
    let e = r.0 in
    member path (BlockForm block) block e.name e.form refl (block_entry c block e r.1)
    (kept_at n c (member_path path e.name) e.form x (member_some path e.name some) (subst (λ (t : Text). Contains (scalars_at (instance_scalars n c) t e.form) x) (under_member path e.name some) r.2))
