-- A task's own variables.
use Rattle.std.proofs.Common.{◌≡◌, ℕ, zero, suc, true, List, [], ◌∷◌, ◌++◌, length, refl, sym, ap, ◌∙◌, Some, None, Option, subst, arith}
use Rattle.std.specs.Prelude.{Contains, is_some}
use Rattle.std.proofs.lemmas.List.{length-map}
use Rattle.il_syntax.specs.declared.tree.Config.{Config}
use Rattle.il_syntax.specs.declared.tree.Scalar.{Scalar}
use Rattle.il_syntax.specs.declared.tree.Unit.{Unit as ProgramUnit}
use Rattle.il_statics.specs.Names.{is_function, or_else}
use Rattle.il_semantics.specs.declared.value.Value.{Value}
use Rattle.base_maps.specs.NameMap.{Text, get}
use Rattle.il_semantics.specs.State.{Values}
use Rattle.il_semantics.specs.Scan.{function_values, opening_variables}
use Rattle.il_semantics.specs.Meaning.{own_entities, depth, block_entities, instance_values, entity_values, fresh_values}
use Rattle.il_semantics.specs.Ranges.{HaveValues, HoldsTask, task_scalars}
use Rattle.il_semantics_laws.specs.Accepted.{IsAccepted}
use Rattle.il_semantics_laws.specs.Agreement.{Holds}
use Rattle.il_semantics_laws.specs.Listed.{given_scalars}
use Rattle.il_semantics_laws.proofs.Lists.{in_nothing, at_head, in_tail}
use Rattle.il_semantics_laws.proofs.Opening.{variables_open}
use Rattle.il_semantics_laws.proofs.Starting.{values_are}
use Rattle.base_maps.specs.ByText.{HaveSameNames}
use Rattle.load_slots.specs.declared.flat.Cell.{Cell}
use Rattle.load_slots.specs.Cells.{entity_cells, instance_cells}
use Rattle.load_slots.specs.Layout.{Rows, Fits, view}
use Rattle.load_slots.specs.Places.{deepest, height_to, any_block}
use Rattle.load_slots.specs.Whole.{first_rows, AreOf}
use Rattle.load_slots.specs.Program.{task_functions, function_cells, functions_cells, variable_cells, own_cells, own_values}
use Rattle.load_slots.proofs.IsPlaced.{entities_same, instances_same}
use Rattle.load_slots.proofs.Opening.{are_of-append, entities_of, instances_of}
use Rattle.load_slots.proofs.Openings.{own_opening, function_head}
use Rattle.load_slots.proofs.Uses.{heights, own_below}
use Rattle.load_slots.proofs.Begins.{own_initial, blocks_initial}
use Rattle.load_slots.proofs.Frames.{of_task_functions}
use Rattle.load_slots.proofs.Tasks.{fresh_cells, fresh_are, program_among}
use Rattle.scan_task.specs.Scanning.{over}
use Rattle.scan_task.proofs.Over.{get-over, same_names}

-- FIRST ROWS

-- there is a row for each value
pub fits_of : (xs : List Cell) (vs : List (Text × Value)) → AreOf xs vs → Fits xs (first_rows vs)
fits_of xs vs all = let n = lengths xs vs all in record { numbers = length-map vs _ ∙ n; flags = length-map vs _ ∙ n }
  where
    lengths : (xs : List Cell) (vs : List (Text × Value)) → AreOf xs vs → length vs ≡ length xs
    lengths [] [] all = refl
    lengths [] (v ∷ vs) all = absurd all
    lengths (x ∷ xs) [] all = absurd all
    lengths (x ∷ xs) (v ∷ vs) all = ap suc (lengths xs vs all.2)

module _ (c : Config) (p : ProgramUnit) (accepted : IsAccepted c p) where
  abbrev own : List (Text × Value)
  own = entity_values (instance_values depth c) [] (own_entities p)

  abbrev height : Text → ℕ
  height = height_to any_block (block_entities c) 18

  functions_of : (us : List ProgramUnit) → ((v : ProgramUnit) → Contains us v → Contains c.units v × (is_function v ≡ true)) → AreOf (functions_cells c us) (function_values c us)
  functions_of [] each = tt
  functions_of (u ∷ us) each =
      let here = each u (at_head u us) in
      subst (AreOf (functions_cells c (u ∷ us))) (sym (function_head c u us here.1))
      (are_of-append (function_cells c u) (functions_cells c us) (fresh_values c u) (function_values c us)
      (subst (λ xs. AreOf xs (fresh_values c u)) (fresh_cells c p accepted u here.0 here.1) (fresh_are c p accepted u here.0 here.1)) (functions_of us (λ v has. each v (in_tail u us v has))))

  variables_same : entity_cells (instance_cells depth c) [] (own_entities p) ≡ variable_cells c p
  variables_same =
      entities_same height 16 (instance_cells depth c) (instance_cells deepest c) (λ path block low. instances_same c height (heights c accepted.declared accepted.ordered) depth deepest path block low (omega (arith, low))) [] (own_entities p)
      (own_below c accepted.declared accepted.ordered p (program_among c p accepted))

  -- each own slot has a first value
  pub own_of : AreOf (own_cells c p) (own_values c p)
  own_of =
      are_of-append (functions_cells c (task_functions c p)) (variable_cells c p) (function_values c (task_functions c p)) own
      (functions_of (task_functions c p) (λ v has. let r = of_task_functions c p v has in (r.0, r.1)))
      (subst (λ xs. AreOf xs own) variables_same
      (entities_of (instance_cells depth c) (instance_values depth c) (instances_of c (blocks_initial c accepted.declared) depth) [] (own_entities p) (own_initial c accepted.declared p (program_among c p accepted))))

  -- OWN VARIABLES

  -- rows of the own slots hold the paths of the variables that open
  pub own_names : (r : Rows) → Fits (own_cells c p) r → HaveSameNames (view (own_cells c p) r) (opening_variables c p)
  own_names r fits q = same_names (own_cells c p) r (first_rows (own_values c p)) fits (fits_of (own_cells c p) (own_values c p) own_of) q ∙ ap (λ m. is_some (get m q)) (own_opening c p accepted)

  -- a value above is one of both
  above : (a b : Option Value) (v : Value) → is_some a ≡ true → or_else a b ≡ Some v → a ≡ Some v
  above None b v there is = cc
  above (Some w) b v there is = is

  some_of : (a : Option Value) → (v : Value) → a ≡ Some v → is_some a ≡ true
  some_of a v is = ap is_some is

  each_of : (values given : Values) (ps qs : List (Text × Scalar)) → ((x : Text × Scalar) → Contains ps x → is_some (get values x.0) ≡ true) → HaveValues (over given values) (ps ++ qs) → HaveValues values ps
  each_of values given [] qs there all = tt
  each_of values given (x ∷ ps) qs there all =
      let here = all.0 in
      ((here.0, above (get values x.0) (get given x.0) here.0 (there x (at_head x ps)) (sym (get-over given values x.0) ∙ here.1), here.2), each_of values given ps qs (λ y has. there y (in_tail x ps y has)) all.1)

  opens_at : (m : Values) (ps : List (Text × Scalar)) → HaveValues m ps → (x : Text × Scalar) → Contains ps x → is_some (get m x.0) ≡ true
  opens_at m [] all x has = absurd (in_nothing x has)
  opens_at m (y ∷ ps) all x (zero, low, same) = ap (λ (z : Text × Scalar). is_some (get m z.0)) (sym same) ∙ some_of (get m y.0) all.0.0 all.0.1
  opens_at m (y ∷ ps) all x (suc n, low, same) = opens_at m ps all.1 x (n, omega arith, same)

  some_is : (a : Option Value) → is_some a ≡ true → (w : Value) × (a ≡ Some w)
  some_is None e = cc
  some_is (Some w) e = (w, refl)

  -- where all that a scan keeps holds, the task's variables have values of their declared sets
  pub own_held : (r : Rows) (given : Values) → Fits (own_cells c p) r → Holds c p (over given (view (own_cells c p) r)) → HoldsTask c p (view (own_cells c p) r)
  own_held r given fits holds =
      let opens = variables_open c p accepted in
      let names = own_names r fits in
      record {
        each = each_of (view (own_cells c p) r) given (task_scalars c p) (given_scalars c p) (λ x has. names x.0 ∙ opens_at (opening_variables c p) (task_scalars c p) opens.each x has)
            (values_are c p accepted (over given (view (own_cells c p) r)) holds);
        only = λ q v is. let w = some_is (get (opening_variables c p) q) (sym (names q) ∙ some_of (get (view (own_cells c p) r) q) v is) in opens.only q w.0 w.1;
      }
