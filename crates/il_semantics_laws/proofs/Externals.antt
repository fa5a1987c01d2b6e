-- Externals are globals of the same type.
use Rattle.std.proofs.Common.{◌≡◌, ◌≢◌, zero, ℤ, Bool, true, false, [], refl, sym, ap, ◌∙◌, Some, None, Option, subst, Contains, arith, ◌⊎◌, inl, inr}
use Rattle.std.proofs.lemmas.Int.{ints}
use Rattle.std.proofs.lemmas.Option.{same_Some}
use Rattle.std.proofs.lemmas.Slice.Eq.{bytes_eq-Decides}
use Rattle.std.specs.Prelude.{int_le, bytes_eq}
use Rattle.il_syntax.specs.ElementaryTypes.{is_same_type}
use Rattle.il_syntax.specs.declared.tree.Config.{Config}
use Rattle.il_syntax.specs.declared.tree.Unit.{Unit as ProgramUnit}
use Rattle.il_syntax.specs.declared.tree.Elementary.{Elementary}
use Rattle.il_syntax.specs.declared.tree.Subrange.{Subrange}
use Rattle.il_syntax.specs.declared.tree.Scalar.{Scalar}
use Rattle.il_syntax.specs.declared.tree.Form.{Form}
use Rattle.il_syntax.specs.declared.tree.Form.TheVariants.{Scalar as ScalarForm, Array as ArrayForm, Block as BlockForm}
use Rattle.il_statics.specs.Names.{named_forms}
use Rattle.il_statics.specs.Declarations.{IsExternal, global_form, unknown_global, external_differs}
use Rattle.il_statics.specs.Faults.{HasNoFault, Broken, Declaring, unknown, other_type}
use Rattle.base_maps.specs.NameMap.{Text}
use Rattle.il_semantics.specs.Meaning.{under, entities}
use Rattle.il_semantics.specs.Ranges.{scalars_at, instance_scalars, external_scalars, global_scalars}
use Rattle.il_semantics_laws.specs.Accepted.{IsAccepted}
use Rattle.il_semantics_laws.specs.Listed.{SharesGlobals}
use Rattle.il_semantics_laws.proofs.Going.{type_itself, same_by}
use Rattle.il_semantics_laws.proofs.Named.{found_unit}
use Rattle.il_semantics_laws.proofs.Reading.{found_entry}
use Rattle.il_semantics_laws.proofs.Declared.{IsListed, listed}
use Rattle.il_semantics_laws.proofs.Meant.{program_is}
use Rattle.il_semantics_laws.proofs.Fresh.{of_entities}
use Rattle.il_semantics_laws.proofs.Kept.{of_scalars, entity_listed}
use Rattle.il_semantics_laws.proofs.Listing.{listed_entity, in_scalars}
use Rattle.il_semantics_laws.proofs.Opening.{globals_once}

-- TYPES ARE THE SAME OR NOT

abbrev IsSame : {A : Type 0} → A → A → Type 0
IsSame a b = (a ≡ b) ⊎ (a ≢ b)

same_elementary : (e f : Elementary) → IsSame e f
same_elementary e f = by_test (is_same_type e f) refl
  where
    by_test : (b : Bool) → is_same_type e f ≡ b → IsSame e f
    by_test true is = inl (same_by e f is)
    by_test false is = inr (λ same. let never : true ≡ false = sym (type_itself e) ∙ ap (is_same_type e) same ∙ is in cc)

same_number : (y z : ℤ) → IsSame y z
same_number y z = by_test (int_le y z) (int_le z y) refl refl
  where
    by_test : (a b : Bool) → int_le y z ≡ a → int_le z y ≡ b → IsSame y z
    by_test true true h k = inl (grind (arith, ints))
    by_test false b h k = inr (λ same. grind (arith, ints))
    by_test true false h k = inr (λ same. grind (arith, ints))

same_range : (r s : Subrange) → IsSame r s
same_range r s = by_parts (same_number r.lower s.lower) (same_number r.upper s.upper)
  where
    by_parts : IsSame r.lower s.lower → IsSame r.upper s.upper → IsSame r s
    by_parts (inl a) (inl b) = inl (λ i. record { lower = a i; upper = b i })
    by_parts (inr no_lower) b = inr (λ same. no_lower (ap (λ (x : Subrange). x.lower) same))
    by_parts (inl a) (inr no_upper) = inr (λ same. no_upper (ap (λ (x : Subrange). x.upper) same))

same_subrange : (r s : Option Subrange) → IsSame r s
same_subrange None None = inl refl
same_subrange None (Some s) = inr (λ same. cc)
same_subrange (Some r) None = inr (λ same. cc)
same_subrange (Some r) (Some s) = by_range (same_range r s)
  where
    by_range : IsSame r s → IsSame (Some r) (Some s)
    by_range (inl a) = inl (ap (λ (x : Subrange). Some x) a)
    by_range (inr other) = inr (λ same. other (same_Some r s same))

same_scalar : (s t : Scalar) → IsSame s t
same_scalar s t = by_parts (same_elementary s.elementary t.elementary) (same_subrange s.subrange t.subrange)
  where
    by_parts : IsSame s.elementary t.elementary → IsSame s.subrange t.subrange → IsSame s t
    by_parts (inl a) (inl b) = inl (λ i. record { elementary = a i; subrange = b i })
    by_parts (inr other) b = inr (λ same. other (ap (λ (x : Scalar). x.elementary) same))
    by_parts (inl a) (inr other) = inr (λ same. other (ap (λ (x : Scalar). x.subrange) same))

same_name : (a b : Text) → IsSame a b
same_name a b = by_test (bytes_eq a b) refl
  where
    by_test : (t : Bool) → bytes_eq a b ≡ t → IsSame a b
    by_test true is = inl ((bytes_eq-Decides a b).0 is)
    by_test false is = inr (λ same. let never : true ≡ false = sym ((bytes_eq-Decides a b).1 same) ∙ is in cc)

-- parts of a type, of no other kind
abbrev scalar_in : Form → Option Scalar
scalar_in (ScalarForm s) = Some s
scalar_in (ArrayForm bounds s) = Some s
scalar_in (BlockForm block) = None

abbrev bounds_in : Form → Option Subrange
bounds_in (ScalarForm s) = None
bounds_in (ArrayForm bounds s) = Some bounds
bounds_in (BlockForm block) = None

abbrev block_in : Form → Option Text
block_in (ScalarForm s) = None
block_in (ArrayForm bounds s) = None
block_in (BlockForm block) = Some block

same_form : (f g : Form) → IsSame f g
same_form (ScalarForm s) (ScalarForm t) = by_scalar (same_scalar s t)
  where
    by_scalar : IsSame s t → IsSame (ScalarForm s) (ScalarForm t)
    by_scalar (inl a) = inl (ap (λ (x : Scalar). ScalarForm x) a)
    by_scalar (inr other) = inr (λ same. other (same_Some s t (ap scalar_in same)))
same_form (ArrayForm b s) (ArrayForm d t) = by_parts (same_range b d) (same_scalar s t)
  where
    by_parts : IsSame b d → IsSame s t → IsSame (ArrayForm b s) (ArrayForm d t)
    by_parts (inl x) (inl y) = inl (λ i. ArrayForm (x i) (y i))
    by_parts (inr other) y = inr (λ same. other (same_Some b d (ap bounds_in same)))
    by_parts (inl x) (inr other) = inr (λ same. other (same_Some s t (ap scalar_in same)))
same_form (BlockForm a) (BlockForm b) = by_name (same_name a b)
  where
    by_name : IsSame a b → IsSame (BlockForm a) (BlockForm b)
    by_name (inl x) = inl (ap (λ (y : Text). BlockForm y) x)
    by_name (inr other) = inr (λ same. other (same_Some a b (ap block_in same)))
same_form (ScalarForm s) (ArrayForm b t) = inr (λ same. cc)
same_form (ScalarForm s) (BlockForm b) = inr (λ same. cc)
same_form (ArrayForm b s) (ScalarForm t) = inr (λ same. cc)
same_form (ArrayForm b s) (BlockForm d) = inr (λ same. cc)
same_form (BlockForm b) (ScalarForm t) = inr (λ same. cc)
same_form (BlockForm b) (ArrayForm d t) = inr (λ same. cc)

-- EXTERNALS

module _ (c : Config) (unbroken : HasNoFault (Broken Declaring c)) (p : ProgramUnit) (among : Contains c.units p) where
  -- an external name is listed among the globals with its type (21, 25)
  global_listed : (name : Text) (form : Form) → IsListed p.externals name form → IsListed c.globals name form
  global_listed name form l = by_global (global_form c l.name_of.name) refl
    where
      external : IsExternal c l.declaration l.name_of
      external = record { unit = p; written = among; listed = l.among; named = l.listed }

      by_form : (f : Form) → global_form c l.name_of.name ≡ Some f → IsSame l.declaration.declared.form f → IsListed c.globals name form
      by_form f is (inl same) =
          subst (λ (t : Text). IsListed c.globals t form) l.spelled (subst (IsListed c.globals l.name_of.name) (sym same ∙ l.formed) (listed c.globals l.name_of.name f (found_entry (named_forms c.globals) l.name_of.name f is)))
      by_form f is (inr other) = absurd (unbroken 25 l.declaration.declared.place (other_type refl (external_differs l.declaration l.name_of f external is other refl)))

      by_global : (o : Option Form) → global_form c l.name_of.name ≡ o → IsListed c.globals name form
      by_global None is = absurd (unbroken 21 l.name_of.place (unknown refl (unknown_global l.declaration l.name_of external is refl)))
      by_global (Some f) is = by_form f is (same_form l.declaration.declared.form f)

  external_is_global : (x : Text × Scalar) → Contains (external_scalars c p) x → Contains (global_scalars c) x
  external_is_global x has =
      let r = of_scalars (instance_scalars zero c) [] (entities p.externals) x has in
      let e = listed_entity c.globals r.0.name r.0.form (global_listed r.0.name r.0.form (entity_listed p.externals r.0 (of_entities p.externals r.0 r.1))) in
      in_scalars (instance_scalars zero c) [] (entities c.globals) e.0 x e.1
      (subst (λ (f : Form). Contains (scalars_at (instance_scalars zero c) (under [] e.0.name) f) x) (sym e.3) (subst (λ (t : Text). Contains (scalars_at (instance_scalars zero c) (under [] t) r.0.form) x) (sym e.2) r.2))

pub shares_globals : (c : Config) (p : ProgramUnit) → IsAccepted c p → SharesGlobals c p
shares_globals c p accepted = record {
  externals = external_is_global c accepted.declared p (found_unit c p.name.name p (program_is c p.name.name p accepted.program).0);
  once = globals_once c accepted.declared accepted.written;
}
