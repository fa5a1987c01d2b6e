-- The first rows of a task show il_semantics's variables at the opening.
use Rattle.std.proofs.Common.{◌≡◌, ℕ, zero, suc, List, [], ◌∷◌, ◌++◌, refl, ap, ap₂, ◌∙◌, Option, None, ℤ, pos, ◌+ℤ◌}
use Rattle.il_syntax.specs.declared.tree.Scalar.{Scalar}
use Rattle.il_syntax.specs.declared.tree.Literal.{Literal}
use Rattle.il_syntax.specs.declared.tree.Form.{Form}
use Rattle.il_syntax.specs.declared.tree.Form.TheVariants.{Scalar as ScalarForm, Array as ArrayForm, Block as BlockForm}
use Rattle.il_syntax.specs.declared.tree.Config.{Config}
use Rattle.il_statics.specs.Declarations.{declared_limits}
use Rattle.il_semantics.specs.declared.value.Value.{Value}
use Rattle.base_maps.specs.NameMap.{Text, insert, from_entries}
use Rattle.il_semantics.specs.Meaning.{Entity, under, width, elements, values_at, entity_values, instance_values, initial_value, block_entities}
use Rattle.load_slots.specs.declared.flat.Cell.{Cell}
use Rattle.load_slots.specs.Layout.{view, value_by, number_part, flag_part, HasKind}
use Rattle.load_slots.specs.Cells.{element_cells, cells_at, entity_cells, instance_cells}
use Rattle.load_slots.specs.Whole.{IsInitial, AreInitial, AreOf, first_rows}

-- the rows of values show them
pub shown : (xs : List Cell) (vs : List (Text × Value)) → AreOf xs vs → view xs (first_rows vs) ≡ from_entries vs
shown [] [] all = refl
shown [] (v ∷ vs) all = absurd all
shown (x ∷ xs) [] all = absurd all
shown (x ∷ xs) (v ∷ vs) all =
    ap (λ m. insert m x.path (value_by (declared_limits x.scalar) (number_part v.1) (flag_part v.1))) (shown xs vs all.2) ∙ ap₂ (insert (from_entries vs)) all.0 all.1

pub are_of-append : (xs ys : List Cell) (vs ws : List (Text × Value)) → AreOf xs vs → AreOf ys ws → AreOf (xs ++ ys) (vs ++ ws)
are_of-append [] ys [] ws all more = more
are_of-append [] ys (v ∷ vs) ws all more = absurd all
are_of-append (x ∷ xs) ys [] ws all more = absurd all
are_of-append (x ∷ xs) ys (v ∷ vs) ws all more = (all.0, all.1, are_of-append xs ys vs ws all.2 more)

elements_of : (k : ℕ) (path : Text) (z : ℤ) (s : Scalar) (v : Value) → HasKind s v → AreOf (element_cells k path z s) (elements k path z v)
elements_of zero path z s v kind = tt
elements_of (suc k) path z s v kind = (refl, kind, elements_of k path (z +ℤ pos 1) s v kind)

module _ (cells : Text → Text → List Cell) (values : Text → Text → List (Text × Value)) (same : (path block : Text) → AreOf (cells path block) (values path block)) where
  form_of : (path : Text) (initial : Option Literal) (f : Form) → IsInitial initial f → AreOf (cells_at cells path f) (values_at values path initial f)
  form_of path initial (ScalarForm s) is = (refl, is, tt)
  form_of path initial (ArrayForm bounds element) is = elements_of (width bounds) path bounds.lower element (initial_value element None) is
  form_of path initial (BlockForm block) is = same path block

  pub entities_of : (path : Text) (es : List Entity) → AreInitial es → AreOf (entity_cells cells path es) (entity_values values path es)
  entities_of path [] all = tt
  entities_of path (e ∷ es) all =
      are_of-append (cells_at cells (under path e.name) e.form) (entity_cells cells path es) (values_at values (under path e.name) e.initial e.form) (entity_values values path es)
      (form_of (under path e.name) e.initial e.form all.0) (entities_of path es all.1)

module _ (c : Config) (initial : (block : Text) → AreInitial (block_entities c block)) where
  pub instances_of : (n : ℕ) (path block : Text) → AreOf (instance_cells n c path block) (instance_values n c path block)
  instances_of zero path block = tt
  instances_of (suc n) path block = entities_of (instance_cells n c) (instance_values n c) (instances_of n) path (block_entities c block) (initial block)
