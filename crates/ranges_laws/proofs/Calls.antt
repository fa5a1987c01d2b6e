-- Calls of own functions and of blocks: what the pass hands on is an annotation's, and lies below each annotation's.
use Rattle.std.proofs.Common.{◌≡◌, ℕ, ◌+◌, Bool, true, false, cond, ◌&&◌, List, [], ◌∷◌, Option, Some, None, refl, sym, ap, ◌∙◌, subst}
use Rattle.std.specs.Prelude.{option_and_then}
use Rattle.std.specs.Ordering.{eq_by_cmp}
use Rattle.ranges_interval.specs.declared.Interval.{Interval}
use Rattle.il_syntax.specs.declared.tree.Config.{Config}
use Rattle.il_syntax.specs.declared.tree.Unit.{Unit as ProgramUnit}
use Rattle.il_syntax.specs.declared.tree.UnitKind.{UnitKind}
use Rattle.il_syntax.specs.declared.tree.UnitKind.TheVariants.{Function, FunctionBlock, Program}
use Rattle.il_syntax.specs.declared.tree.Scalar.{Scalar}
use Rattle.il_syntax.specs.declared.tree.Form.{Form}
use Rattle.il_syntax.specs.declared.tree.Form.TheVariants.{Scalar as ScalarForm, Array as ArrayForm, Block as BlockForm}
use Rattle.il_syntax.specs.declared.tree.Named.{Named}
use Rattle.il_syntax.specs.declared.tree.Operand.{Operand}
use Rattle.il_syntax.specs.declared.tree.Reference.TheVariants.{Variable}
use Rattle.il_syntax.specs.declared.tree.Argument.{Argument}
use Rattle.il_syntax.specs.declared.tree.Argument.TheVariants.{Input, Output}
use Rattle.il_syntax.specs.declared.tree.Condition.{Condition}
use Rattle.il_syntax.specs.declared.tree.Condition.TheVariants.{Always, WhenTrue, WhenFalse}
use Rattle.il_syntax.specs.declared.tree.Instruction.TheVariants.{Call, Invoke}
use Rattle.il_statics.specs.declared.names.StandardFunction.{StandardFunction}
use Rattle.il_statics.specs.Names.{standard_function, function_named, entry_of, block_variables, named_forms, form_named}
use Rattle.base_maps.specs.NameMap.{NameMap, Text, order, get, get-insert}
use Rattle.il_semantics.specs.Meaning.{Denotation, Constant, Direct, Numbered, Indexed, Inside, Unknown, denotation, inputs_of, outputs_of}
use Rattle.il_semantics.specs.Step.{rest_of}
use Rattle.il_semantics.specs.declared.known.Known.{Known}
use Rattle.il_semantics.specs.declared.known.Known.TheVariants.{Flag, Ranged}
use Rattle.il_semantics.specs.Annotation.{Knowledge, knowledge, Annotation, Spot, Leads, IsPart, IsKnownWithin, IsVariableWithin, range, declared_known, WithKnownResult, WithScalarForm, WithOperand, WithTarget, Fits, FitArguments, after_store, after_output, after_outputs, IsCalled, FitInputs, FitsFirst, IsResultOf, IsInvoked, MayPass, GoesOnWith}
use Rattle.ranges_laws.specs.Pass.{Moves}
use Rattle.ranges_laws.specs.declared.facts.Facts.{Facts}
use Rattle.ranges_laws.specs.Facts.{Names, row_at, row_join, variables_of, IsRowOf, facts, with_result, shown, IsFineKnown, IsFine}
use Rattle.ranges_laws.specs.Found.{provided, found_operand, fits_target}
use Rattle.ranges_laws.specs.Steps.{to_next, giving, stored_row, has_condition, fits_form, found_fits, fits_input, fits_output, fits_first, fit_inputs, found_result, own_result, moves_of_invoke, fit_arguments, output_row, outputs_row, passed_row, called, moves_of_call, moves_of}
use Rattle.ranges_laws.specs.Prepared.{AreFineUnits, HasNumber, HaveNumbers}
use Rattle.ranges_laws.proofs.Tests.{left_true, right_true, both_true}
use Rattle.ranges_laws.proofs.Least.{Over, AllOver, same_some}
use Rattle.ranges_laws.proofs.Joins.{Under, known_itself, part_trans, deferred_itself, under_row, row_under}
use Rattle.ranges_laws.proofs.Rows.{put_fine, put_map, row_is, variable_itself, join_row_fine, row_first, row_second, row_least}
use Rattle.ranges_laws.proofs.Agree.{Tests, agrees_if_both, agrees_then, provided_is, is_provided}
use Rattle.ranges_laws.proofs.Operations.{Knows, finds, finds_none, operand_agrees}
use Rattle.ranges_laws.proofs.Instructions.{spot, lead, AreFineMoves, Works, Nexts, Stands, gives, variables_of_place, result_agrees, condition_tests, fits_tests, target_tests, store_grows, ranged_fits, result_map, works_standard}

-- TESTS OF ARGUMENTS

-- a test of what was found
tests_found : (s : Scalar) (o : Option Known) (narrow wide : (Known → Type 0) → Type 0) → Knows o narrow wide → Tests (found_fits s o) (narrow (λ k. Fits s k)) (wide (λ k. Fits s k))
tests_found s o narrow wide a = record { holds = λ e. holds o refl e; follows = λ g. let h = a.complete (λ k. Fits s k) g in ap (found_fits s) h.is ∙ (fits_tests s.elementary (range s) h.least h.wide h.within).follows h.goes }
  where
    holds : (p : Option Known) → o ≡ p → found_fits s p ≡ true → narrow (λ k. Fits s k)
    holds None is e = absurd (let bad : false ≡ true = e in cc)
    holds (Some k) is e = a.sound k is (λ k. Fits s k) ((fits_tests s.elementary (range s) k k (known_itself k)).holds e)

never_tests : Tests false ⊥ ⊥
never_tests = record { holds = λ e. let bad : false ≡ true = e in cc; follows = λ h. absurd h }

both_tests : (a b : Bool) (P Q R S : Type 0) → Tests a P Q → Tests b R S → Tests (a && b) (P × R) (Q × S)
both_tests a b P Q R S t v = record { holds = λ e. (t.holds (left_true a b e), v.holds (right_true a b e)); follows = λ h. both_true a b (t.follows h.0) (v.follows h.1) }

input_tests : (names : Names) (c : Config) (u : ProgramUnit) (f : Facts) (l : Knowledge) → Stands names c u f l → (o : Operand) (form : Option Form)
    → Tests (fits_input names f.row (denotation c u o.reference) form) (WithScalarForm form (λ scalar. WithOperand (variables_of names f.row) scalar.elementary (denotation c u o.reference) (λ k. Fits scalar k)))
    (WithScalarForm form (λ scalar. WithOperand l.variables scalar.elementary (denotation c u o.reference) (λ k. Fits scalar k)))
input_tests names c u f l s o (Some (ScalarForm t)) =
    tests_found t (found_operand (row_at names f.row) t.elementary (denotation c u o.reference)) (WithOperand (variables_of names f.row) t.elementary (denotation c u o.reference)) (WithOperand l.variables t.elementary (denotation c u o.reference))
    (operand_agrees names f.row l.variables (variables_of_place names c u f l s) t.elementary (denotation c u o.reference) (s.denotes o.reference))
input_tests names c u f l s o None = never_tests
input_tests names c u f l s o (Some (ArrayForm bounds element)) = never_tests
input_tests names c u f l s o (Some (BlockForm block)) = never_tests

output_tests : (names : Names) (c : Config) (u : ProgramUnit) (f : Facts) (l : Knowledge) → Stands names c u f l → (d : Denotation) (form : Option Form)
    → Tests (fits_output names f.row d form) (WithScalarForm form (λ scalar. WithTarget (variables_of names f.row) d (λ aim. Fits aim (declared_known scalar)))) (WithScalarForm form (λ scalar. WithTarget l.variables d (λ aim. Fits aim (declared_known scalar))))
output_tests names c u f l s d (Some (ScalarForm t)) = target_tests names f.row l.variables (variables_of_place names c u f l s) d (declared_known t) (declared_known t) (known_itself (declared_known t))
output_tests names c u f l s d None = never_tests
output_tests names c u f l s d (Some (ArrayForm bounds element)) = never_tests
output_tests names c u f l s d (Some (BlockForm block)) = never_tests

-- OWN FUNCTIONS

first_tests : (es : List (Text × Form)) (k w : Known) → IsKnownWithin k w → Tests (fits_first es k) (FitsFirst es k) (FitsFirst es w)
first_tests [] k w h = never_tests
first_tests (e ∷ es) k w h = by_form e.1
  where
    by_form : (form : Form) → Tests (fits_form (Some form) k) (WithScalarForm (Some form) (λ scalar. Fits scalar k)) (WithScalarForm (Some form) (λ scalar. Fits scalar w))
    by_form (ScalarForm t) = fits_tests t.elementary (range t) k w h
    by_form (ArrayForm bounds element) = never_tests
    by_form (BlockForm block) = never_tests

-- the inputs, without the place
InputsFit : NameMap Interval → Config → ProgramUnit → List (Text × Form) → List Operand → Type 0
InputsFit variables c u [] [] = Unit {0}
InputsFit variables c u (e ∷ es) (o ∷ os) = WithScalarForm (Some e.1) (λ scalar. WithOperand variables scalar.elementary (denotation c u o.reference) (λ k. Fits scalar k)) × InputsFit variables c u es os
InputsFit variables c u [] (o ∷ os) = ⊥
InputsFit variables c u (e ∷ es) [] = ⊥

to_inputs : (s : Spot) (es : List (Text × Form)) (os : List Operand) → InputsFit s.known.variables s.config s.unit es os → FitInputs s es os
unfolding InputsFit
to_inputs s [] [] h = h
to_inputs s (e ∷ es) (o ∷ os) h = (h.0, to_inputs s es os h.1)
to_inputs s [] (o ∷ os) h = h
to_inputs s (e ∷ es) [] h = h

of_inputs : (s : Spot) (es : List (Text × Form)) (os : List Operand) → FitInputs s es os → InputsFit s.known.variables s.config s.unit es os
unfolding InputsFit
of_inputs s [] [] h = h
of_inputs s (e ∷ es) (o ∷ os) h = (h.0, of_inputs s es os h.1)
of_inputs s [] (o ∷ os) h = h
of_inputs s (e ∷ es) [] h = h

inputs_tests : (names : Names) (c : Config) (u : ProgramUnit) (f : Facts) (l : Knowledge) → Stands names c u f l → (es : List (Text × Form)) (os : List Operand) → Tests (fit_inputs names f.row c u es os) (InputsFit (variables_of names f.row) c u es os) (InputsFit l.variables c u es os)
unfolding InputsFit
inputs_tests names c u f l s [] [] = record { holds = λ e. tt; follows = λ h. refl }
inputs_tests names c u f l s (e ∷ es) (o ∷ os) = both_tests _ _ _ _ _ _ (input_tests names c u f l s o (Some e.1)) (inputs_tests names c u f l s es os)
inputs_tests names c u f l s [] (o ∷ os) = never_tests
inputs_tests names c u f l s (e ∷ es) [] = never_tests

WithResultOf : UnitKind → (Known → Type 0) → Type 0
WithResultOf (Function scalar place) go = go (declared_known scalar)
WithResultOf FunctionBlock go = ⊥
WithResultOf Program go = ⊥

to_result : (s : Spot) (kind : UnitKind) → WithResultOf kind (λ k. GoesOnWith s (Some k)) → IsResultOf s kind
unfolding WithResultOf
to_result s (Function scalar place) h = h
to_result s FunctionBlock h = h
to_result s Program h = h

of_result : (s : Spot) (kind : UnitKind) → IsResultOf s kind → WithResultOf kind (λ k. GoesOnWith s (Some k))
unfolding WithResultOf
of_result s (Function scalar place) h = h
of_result s FunctionBlock h = h
of_result s Program h = h

kind_agrees : (c : Config) → AreFineUnits c → (name : Text) (own : ProgramUnit) → function_named c name ≡ Some own → (kind : UnitKind) → own.kind ≡ kind → Knows (found_result kind) (WithResultOf kind) (WithResultOf kind)
unfolding WithResultOf
kind_agrees c a name own named (Function scalar place) is = finds (declared_known scalar) (declared_known scalar) (a.results name own scalar place named is) (known_itself (declared_known scalar))
kind_agrees c a name own named FunctionBlock is = finds_none _ _ (λ go h. h)
kind_agrees c a name own named Program is = finds_none _ _ (λ go h. h)

works_own : (names : Names) (c : Config) (u : ProgramUnit) (f : Facts) (l : Knowledge) → Stands names c u f l → (function : Named) (operands : List Operand) (own : ProgramUnit) → standard_function function.name ≡ None → function_named c function.name ≡ Some own → Works names c u f l (Invoke function operands)
works_own names c u f l s function operands own not_standard named = record {
  fine = λ m e. g.fine m (sym same ∙ e);
  sound = λ a p m e over. to_spot (spot c u a p (shown names f)) (result_map f.result _ _ (λ first x. (x.0, to_inputs (spot c u a p (shown names f)) (rest_of (named_forms own.inputs)) operands x.1, to_result (spot c u a p (shown names f)) own.kind x.2)) (g.sound a p m (sym same ∙ e) over));
  complete = λ a p h.
      let r = g.complete a p (result_map l.result _ _ (λ first x. (x.0, of_inputs (spot c u a p l) (rest_of (named_forms own.inputs)) operands x.1, of_result (spot c u a p l) own.kind x.2)) (of_spot (spot c u a p l) h)) in
      (r.0, same ∙ r.1, r.2);
}
  where
    IsOwn : NameMap Interval → Known → (Known → Type 0) → Type 0
    IsOwn variables first go = FitsFirst (named_forms own.inputs) first × InputsFit variables c u (rest_of (named_forms own.inputs)) operands × WithResultOf own.kind go

    same : moves_of names c u f (Invoke function operands) ≡ giving f (option_and_then (own_result names f.row c u own operands) f.result)
    same = ap (λ o. moves_of_invoke names c u f o (function_named c function.name) operands) not_standard ∙ ap (λ o. moves_of_invoke names c u f None o operands) named

    to_spot : (t : Spot) → WithKnownResult t.known.result (λ first. IsInvoked t None (Some own) operands first) → WithKnownResult t.known.result (λ first. IsInvoked t (standard_function function.name) (function_named c function.name) operands first)
    to_spot t h = subst (λ o. WithKnownResult t.known.result (λ first. IsInvoked t o (function_named c function.name) operands first)) (sym not_standard) (subst (λ o. WithKnownResult t.known.result (λ first. IsInvoked t None o operands first)) (sym named) h)

    of_spot : (t : Spot) → WithKnownResult t.known.result (λ first. IsInvoked t (standard_function function.name) (function_named c function.name) operands first) → WithKnownResult t.known.result (λ first. IsInvoked t None (Some own) operands first)
    of_spot t h = subst (λ o. WithKnownResult t.known.result (λ first. IsInvoked t None o operands first)) named (subst (λ o. WithKnownResult t.known.result (λ first. IsInvoked t o (function_named c function.name) operands first)) not_standard h)

    calls : Knows (option_and_then (own_result names f.row c u own operands) f.result)
        (λ go. WithKnownResult f.result (λ first. FitsFirst (named_forms own.inputs) first × InputsFit (variables_of names f.row) c u (rest_of (named_forms own.inputs)) operands × WithResultOf own.kind go))
        (λ go. WithKnownResult l.result (λ first. FitsFirst (named_forms own.inputs) first × InputsFit l.variables c u (rest_of (named_forms own.inputs)) operands × WithResultOf own.kind go))
    calls = agrees_then IsFineKnown IsKnownWithin IsFineKnown IsKnownWithin f.result (WithKnownResult f.result) (WithKnownResult l.result) (result_agrees f.result l.result s.fine.result s.under.result) known_itself (own_result names f.row c u own operands)
        (λ first go. FitsFirst (named_forms own.inputs) first × InputsFit (variables_of names f.row) c u (rest_of (named_forms own.inputs)) operands × WithResultOf own.kind go)
        (λ first go. FitsFirst (named_forms own.inputs) first × InputsFit l.variables c u (rest_of (named_forms own.inputs)) operands × WithResultOf own.kind go)
        (λ first wide ff h. agrees_if_both IsFineKnown IsKnownWithin (fits_first (named_forms own.inputs) first) (fit_inputs names f.row c u (rest_of (named_forms own.inputs)) operands) (FitsFirst (named_forms own.inputs) first) (FitsFirst (named_forms own.inputs) wide)
        (InputsFit (variables_of names f.row) c u (rest_of (named_forms own.inputs)) operands) (InputsFit l.variables c u (rest_of (named_forms own.inputs)) operands) (found_result own.kind) (WithResultOf own.kind) (WithResultOf own.kind)
        (first_tests (named_forms own.inputs) first wide h) (inputs_tests names c u f l s (rest_of (named_forms own.inputs)) operands) (kind_agrees c s.units function.name own named own.kind refl))

    g : Nexts names (option_and_then (own_result names f.row c u own operands) f.result) (with_result f)
        (λ go. WithKnownResult f.result (λ first. FitsFirst (named_forms own.inputs) first × InputsFit (variables_of names f.row) c u (rest_of (named_forms own.inputs)) operands × WithResultOf own.kind go))
        (λ go. WithKnownResult l.result (λ first. FitsFirst (named_forms own.inputs) first × InputsFit l.variables c u (rest_of (named_forms own.inputs)) operands × WithResultOf own.kind go))
        (λ k. knowledge (variables_of names f.row) (Some k) f.deferred) (λ k. knowledge l.variables (Some k) l.deferred)
    g = gives names c u f l s _ _ _ calls

works_nothing : (names : Names) (c : Config) (u : ProgramUnit) (f : Facts) (l : Knowledge) (function : Named) (operands : List Operand) → standard_function function.name ≡ None → function_named c function.name ≡ None → Works names c u f l (Invoke function operands)
works_nothing names c u f l function operands not_standard named = record {
  fine = λ m e. absurd (let bad : None ≡ Some m = sym same ∙ e in cc);
  sound = λ a p m e over. absurd (let bad : None ≡ Some m = sym same ∙ e in cc);
  complete = λ a p h. absurd (never l.result (of_spot (spot c u a p l) h));
}
  where
    same : moves_of names c u f (Invoke function operands) ≡ None
    same = ap (λ o. moves_of_invoke names c u f o (function_named c function.name) operands) not_standard ∙ ap (λ o. moves_of_invoke names c u f None o operands) named

    of_spot : (t : Spot) → WithKnownResult t.known.result (λ first. IsInvoked t (standard_function function.name) (function_named c function.name) operands first) → WithKnownResult t.known.result (λ first. IsInvoked t None None operands first)
    of_spot t h = subst (λ o. WithKnownResult t.known.result (λ first. IsInvoked t None o operands first)) named (subst (λ o. WithKnownResult t.known.result (λ first. IsInvoked t o (function_named c function.name) operands first)) not_standard h)

    never : (o : Option Known) → WithKnownResult o (λ first. ⊥) → ⊥
    never None h = h
    never (Some k) h = h

-- a call of a function, standard or own
pub works_invoke : (names : Names) (c : Config) (u : ProgramUnit) (f : Facts) (l : Knowledge) → Stands names c u f l → (function : Named) (operands : List Operand) → Works names c u f l (Invoke function operands)
works_invoke names c u f l s function operands = by_standard (standard_function function.name) refl
  where
    by_own : standard_function function.name ≡ None → (o : Option ProgramUnit) → function_named c function.name ≡ o → Works names c u f l (Invoke function operands)
    by_own none (Some own) is = works_own names c u f l s function operands own none is
    by_own none None is = works_nothing names c u f l function operands none is

    by_standard : (o : Option StandardFunction) → standard_function function.name ≡ o → Works names c u f l (Invoke function operands)
    by_standard (Some standard) is = works_standard names c u f l s function operands standard is
    by_standard None is = by_own is (function_named c function.name) refl

-- BLOCKS

arguments_tests : (names : Names) (c : Config) (u : ProgramUnit) (f : Facts) (l : Knowledge) → Stands names c u f l → (a : Annotation) (p : ℕ) (block : Text) (arguments : List Argument)
    → Tests (fit_arguments names f.row c u block arguments) (FitArguments (spot c u a p (shown names f)) block arguments) (FitArguments (spot c u a p l) block arguments)
arguments_tests names c u f l s a p block [] = record { holds = λ e. tt; follows = λ h. refl }
arguments_tests names c u f l s a p block (Input word o ∷ more) =
    both_tests _ _ _ _ _ _ (input_tests names c u f l s o (entry_of (inputs_of (block_variables c block)) word.name)) (arguments_tests names c u f l s a p block more)
arguments_tests names c u f l s a p block (Output word to ∷ more) =
    both_tests _ _ _ _ _ _ (output_tests names c u f l s (denotation c u (Variable to.name)) (entry_of (outputs_of (block_variables c block)) word.name)) (arguments_tests names c u f l s a p block more)

-- the same in maps with the same entries
store_same : (d : Denotation) (k : Known) (m n : NameMap Interval) → ((q : Text) → get m q ≡ get n q) → (q : Text) → get (after_store d k m) q ≡ get (after_store d k n) q
store_same (Direct name s) (Ranged e i) m n h q = get-insert m name i q ∙ ap (λ o. cond (eq_by_cmp order q name) (Some i) o) (h q) ∙ sym (get-insert n name i q)
store_same (Direct name s) Flag m n h q = h q
store_same (Constant l) k m n h q = h q
store_same (Numbered name bounds element z) k m n h q = h q
store_same (Indexed name bounds element variable s) k m n h q = h q
store_same (Inside instance word s) k m n h q = h q
store_same Unknown k m n h q = h q

-- the map after a store, in rows
row_stored : (names : Names) (row other : List Interval) (d : Denotation) (k : Known) → IsRowOf names row → HasNumber names d → fits_target names other d k ≡ true → (q : Text) → get (after_store d k (variables_of names row)) q ≡ get (variables_of names (stored_row names d k row)) q
row_stored names row other (Direct name s) (Ranged e i) fr n fits q = let d = ranged_fits s.elementary (range s) e i fits in put_map names row name i fr (n d.0 d.1) q
row_stored names row other (Direct name s) Flag fr n fits q = refl
row_stored names row other (Constant l) k fr n fits q = refl
row_stored names row other (Numbered name bounds element z) k fr n fits q = refl
row_stored names row other (Indexed name bounds element variable s) k fr n fits q = refl
row_stored names row other (Inside instance word s) k fr n fits q = refl
row_stored names row other Unknown k fr n fits q = refl

stored_row_fine : (names : Names) (row : List Interval) (d : Denotation) (k : Known) → IsRowOf names row → IsFineKnown k → IsRowOf names (stored_row names d k row)
stored_row_fine names row (Direct name s) (Ranged e i) h fk = put_fine names row name i fk h
stored_row_fine names row (Direct name s) Flag h fk = h
stored_row_fine names row (Constant l) k h fk = h
stored_row_fine names row (Numbered name bounds element z) k h fk = h
stored_row_fine names row (Indexed name bounds element variable s) k h fk = h
stored_row_fine names row (Inside instance word s) k h fk = h
stored_row_fine names row Unknown k h fk = h

-- one output
output_row_fine : (names : Names) (row : List Interval) (d : Denotation) (form : Option Form) → ((s : Scalar) → form ≡ Some (ScalarForm s) → IsFineKnown (declared_known s)) → IsRowOf names row → IsRowOf names (output_row names form d row)
output_row_fine names row d (Some (ScalarForm s)) fine h = stored_row_fine names row d (declared_known s) h (fine s refl)
output_row_fine names row d None fine h = h
output_row_fine names row d (Some (ArrayForm bounds element)) fine h = h
output_row_fine names row d (Some (BlockForm block)) fine h = h

output_same : (names : Names) (row other : List Interval) (d : Denotation) (form : Option Form) → IsRowOf names row → HasNumber names d → fits_output names other d form ≡ true → (m : NameMap Interval) → ((q : Text) → get m q ≡ get (variables_of names row) q) → (q : Text) → get (after_output form d m) q ≡ get (variables_of names (output_row names form d row)) q
output_same names row other d (Some (ScalarForm s)) fr n fits m h q = store_same d (declared_known s) m (variables_of names row) h q ∙ row_stored names row other d (declared_known s) fr n fits q
output_same names row other d None fr n fits m h q = h q
output_same names row other d (Some (ArrayForm bounds element)) fr n fits m h q = h q
output_same names row other d (Some (BlockForm block)) fr n fits m h q = h q

output_grows : (d : Denotation) (form : Option Form) (m n : NameMap Interval) → ((q : Text) → IsVariableWithin (get m q) (get n q)) → (q : Text) → IsVariableWithin (get (after_output form d m) q) (get (after_output form d n) q)
output_grows d (Some (ScalarForm s)) m n h q = store_grows d (declared_known s) (declared_known s) m n (known_itself (declared_known s)) h q
output_grows d None m n h q = h q
output_grows d (Some (ArrayForm bounds element)) m n h q = h q
output_grows d (Some (BlockForm block)) m n h q = h q

-- all outputs
outputs_row_fine : (names : Names) (c : Config) (u : ProgramUnit) → AreFineUnits c → (block : Text) (arguments : List Argument) (row : List Interval) → IsRowOf names row → IsRowOf names (outputs_row names c u block arguments row)
outputs_row_fine names c u fine block [] row h = h
outputs_row_fine names c u fine block (Input word o ∷ more) row h = outputs_row_fine names c u fine block more row h
outputs_row_fine names c u fine block (Output word to ∷ more) row h =
    outputs_row_fine names c u fine block more _ (output_row_fine names row (denotation c u (Variable to.name)) (entry_of (outputs_of (block_variables c block)) word.name) (fine.outputs block word.name) h)

outputs_same : (names : Names) (c : Config) (u : ProgramUnit) → AreFineUnits c → (a : Annotation) (p : ℕ) (k : Knowledge) (other : List Interval) (block : Text) (arguments : List Argument) → HaveNumbers names c u arguments → fit_arguments names other c u block arguments ≡ true → (row : List Interval) → IsRowOf names row
    → (m : NameMap Interval) → ((q : Text) → get m q ≡ get (variables_of names row) q) → (q : Text) → get (after_outputs (spot c u a p k) block arguments m) q ≡ get (variables_of names (outputs_row names c u block arguments row)) q
outputs_same names c u fine a p k other block [] n fits row fr m h q = h q
outputs_same names c u fine a p k other block (Input word o ∷ more) n fits row fr m h q = outputs_same names c u fine a p k other block more n (right_true _ _ fits) row fr m h q
outputs_same names c u fine a p k other block (Output word to ∷ more) n fits row fr m h q =
    let d = denotation c u (Variable to.name) in
    let form = entry_of (outputs_of (block_variables c block)) word.name in
    outputs_same names c u fine a p k other block more n.1 (right_true _ _ fits) (output_row names form d row) (output_row_fine names row d form (fine.outputs block word.name) fr) (after_output form d m)
    (output_same names row other d form fr n.0 (left_true _ _ fits) m h) q

outputs_grow : (c : Config) (u : ProgramUnit) (a : Annotation) (p : ℕ) (k l : Knowledge) (block : Text) (arguments : List Argument) (m n : NameMap Interval) → ((q : Text) → IsVariableWithin (get m q) (get n q))
    → (q : Text) → IsVariableWithin (get (after_outputs (spot c u a p k) block arguments m) q) (get (after_outputs (spot c u a p l) block arguments n) q)
outputs_grow c u a p k l block [] m n h q = h q
outputs_grow c u a p k l block (Input word o ∷ more) m n h q = outputs_grow c u a p k l block more m n h q
outputs_grow c u a p k l block (Output word to ∷ more) m n h q =
    let d = denotation c u (Variable to.name) in
    let form = entry_of (outputs_of (block_variables c block)) word.name in
    outputs_grow c u a p k l block more (after_output form d m) (after_output form d n) (output_grows d form m n h) q

-- the row after a call
passed_row_fine : (names : Names) (condition : Condition) (acted row : List Interval) → IsRowOf names acted → IsRowOf names row → IsRowOf names (passed_row condition acted row)
passed_row_fine names Always acted row f g = f
passed_row_fine names WhenTrue acted row f g = join_row_fine names acted row f g
passed_row_fine names WhenFalse acted row f g = join_row_fine names acted row f g

passed_first : (names : Names) (condition : Condition) (acted row : List Interval) → IsRowOf names acted → IsRowOf names row → (q : Text) → IsVariableWithin (row_at names acted q) (row_at names (passed_row condition acted row) q)
passed_first names Always acted row f g q = variable_itself (row_at names acted q)
passed_first names WhenTrue acted row f g q = row_first names acted row f g q
passed_first names WhenFalse acted row f g q = row_first names acted row f g q

-- WHAT A CALL HANDS ON

-- the pass does right by a call, by the form of the instance
record Calls (names : Names) (c : Config) (u : ProgramUnit) (f : Facts) (l : Knowledge) (condition : Condition) (arguments : List Argument) (form : Option Form) : Type 0 where
  fine : (m : Moves Facts) → moves_of_call names c u f condition arguments form ≡ Some m → AreFineMoves names m
  sound : (a : Annotation) (p : ℕ) (m : Moves Facts) → moves_of_call names c u f condition arguments form ≡ Some m → AllOver (Under names) a p m
      → IsCalled (spot c u a p (shown names f)) arguments form × MayPass (spot c u a p (shown names f)) condition None
  complete : (a : Annotation) (p : ℕ) → IsCalled (spot c u a p l) arguments form → MayPass (spot c u a p l) condition None
      → (m : Moves Facts) × (moves_of_call names c u f condition arguments form ≡ Some m) × AllOver (Under names) a p m

-- a call of no block
no_call : (names : Names) (c : Config) (u : ProgramUnit) (f : Facts) (l : Knowledge) (condition : Condition) (arguments : List Argument) (form : Option Form) → moves_of_call names c u f condition arguments form ≡ None
    → ((s : Spot) → IsCalled s arguments form → ⊥) → Calls names c u f l condition arguments form
no_call names c u f l condition arguments form none never = record {
  fine = λ m e. absurd (let bad : None ≡ Some m = sym none ∙ e in cc);
  sound = λ a p m e over. absurd (let bad : None ≡ Some m = sym none ∙ e in cc);
  complete = λ a p h pass. absurd (never (spot c u a p l) h);
}

calls_block : (names : Names) (c : Config) (u : ProgramUnit) (f : Facts) (l : Knowledge) → Stands names c u f l → (condition : Condition) (arguments : List Argument) → HaveNumbers names c u arguments → (block : Text) → Calls names c u f l condition arguments (Some (BlockForm block))
calls_block names c u f l s condition arguments n block = record {
  fine = λ m e. subst (AreFineMoves names) (gives_to m e) (record { next = fine; jump = tt });
  sound = λ a p m e over.
      let all = subst (AllOver (Under names) a p) (sym (gives_to m e)) over in
      let fit = (provided_is (fit_arguments names f.row c u block arguments) (Some (to_next there)) m e).test in
      ((((arguments_tests names c u f l s a p block arguments).holds fit, lead names a (p + 1) there _ (acted_part a p fit) all.next)), may_pass a p condition refl all.next);
  complete = λ a p h pass.
      let fit = (arguments_tests names c u f l s a p block arguments).follows h.0 in
      (to_next there, is_provided (fit_arguments names f.row c u block arguments) (Some (to_next there)) fit, record { next = over_both a p fit h.1 condition refl pass; jump = tt });
}
  where
    acted : List Interval
    acted = outputs_row names c u block arguments f.row

    there : Facts
    there = called names c u f condition block arguments

    acted_fine : IsRowOf names (outputs_row names c u block arguments f.row)
    acted_fine = outputs_row_fine names c u s.units block arguments f.row s.fine.row

    fine : IsFine names (called names c u f condition block arguments)
    fine = record { row = passed_row_fine names condition (outputs_row names c u block arguments f.row) f.row (outputs_row_fine names c u s.units block arguments f.row s.fine.row) s.fine.row; result = tt; deferred = s.fine.deferred }

    gives_to : (m : Moves Facts) → provided (fit_arguments names f.row c u block arguments) (Some (to_next (called names c u f condition block arguments))) ≡ Some m → to_next (called names c u f condition block arguments) ≡ m
    gives_to m e = same_some _ m (provided_is (fit_arguments names f.row c u block arguments) (Some (to_next (called names c u f condition block arguments))) m e).is

    -- what the acting call leaves, in rows
    acted_is : (a : Annotation) (p : ℕ) → fit_arguments names f.row c u block arguments ≡ true → (q : Text) → get (after_outputs (spot c u a p (shown names f)) block arguments (variables_of names f.row)) q ≡ row_at names (outputs_row names c u block arguments f.row) q
    acted_is a p fit q = outputs_same names c u s.units a p (shown names f) f.row block arguments n fit f.row s.fine.row (variables_of names f.row) (λ r. refl) q ∙ row_is names (outputs_row names c u block arguments f.row) q

    acted_part : (a : Annotation) (p : ℕ) → fit_arguments names f.row c u block arguments ≡ true
        → IsPart (knowledge (after_outputs (spot c u a p (shown names f)) block arguments (variables_of names f.row)) None f.deferred) (shown names (called names c u f condition block arguments))
    acted_part a p fit = record {
      variables = λ q. subst (λ o. IsVariableWithin o (get (variables_of names (passed_row condition (outputs_row names c u block arguments f.row) f.row)) q)) (sym (acted_is a p fit q))
          (subst (IsVariableWithin (row_at names (outputs_row names c u block arguments f.row) q)) (sym (row_is names (passed_row condition (outputs_row names c u block arguments f.row) f.row) q))
          (passed_first names condition (outputs_row names c u block arguments f.row) f.row acted_fine s.fine.row q));
      result = tt;
      deferred = deferred_itself f.deferred;
    }

    second_part : IsPart (knowledge (variables_of names f.row) None f.deferred) (shown names (facts (row_join (outputs_row names c u block arguments f.row) f.row) None f.deferred))
    second_part = record {
      variables = λ q. subst (λ o. IsVariableWithin o (get (variables_of names (row_join (outputs_row names c u block arguments f.row) f.row)) q)) (sym (row_is names f.row q))
          (subst (IsVariableWithin (row_at names f.row q)) (sym (row_is names (row_join (outputs_row names c u block arguments f.row) f.row) q)) (row_second names (outputs_row names c u block arguments f.row) f.row acted_fine s.fine.row q));
      result = tt;
      deferred = deferred_itself f.deferred;
    }

    may_pass : (a : Annotation) (p : ℕ) (k : Condition) → condition ≡ k → Over (Under names) a (p + 1) (called names c u f condition block arguments) → MayPass (spot c u a p (shown names f)) k None
    may_pass a p Always is o = tt
    may_pass a p WhenTrue is o = lead names a (p + 1) (called names c u f WhenTrue block arguments) (knowledge (variables_of names f.row) None f.deferred) second_part (subst (λ k. Over (Under names) a (p + 1) (called names c u f k block arguments)) is o)
    may_pass a p WhenFalse is o = lead names a (p + 1) (called names c u f WhenFalse block arguments) (knowledge (variables_of names f.row) None f.deferred) second_part (subst (λ k. Over (Under names) a (p + 1) (called names c u f k block arguments)) is o)

    -- what the acting call leaves lies below what an annotation has of it
    acted_under : (a : Annotation) (p : ℕ) → fit_arguments names f.row c u block arguments ≡ true → (k : Knowledge) → IsPart (knowledge (after_outputs (spot c u a p l) block arguments l.variables) None l.deferred) k → IsPart (shown names (facts (outputs_row names c u block arguments f.row) None f.deferred)) k
    acted_under a p fit k part = part_trans (shown names (facts (outputs_row names c u block arguments f.row) None f.deferred)) (knowledge (after_outputs (spot c u a p l) block arguments l.variables) None l.deferred) k (record {
      variables = λ q. subst (λ o. IsVariableWithin o (get (after_outputs (spot c u a p l) block arguments l.variables) q)) (acted_is a p fit q ∙ sym (row_is names (outputs_row names c u block arguments f.row) q))
          (outputs_grow c u a p (shown names f) l block arguments (variables_of names f.row) l.variables s.under.variables q);
      result = tt;
      deferred = s.under.deferred;
    }) part

    both_under : (k : Knowledge) → Under names (facts (outputs_row names c u block arguments f.row) None f.deferred) k → Under names (facts f.row None f.deferred) k → Under names (facts (row_join (outputs_row names c u block arguments f.row) f.row) None f.deferred) k
    both_under k x y =
        row_under names (facts (row_join (outputs_row names c u block arguments f.row) f.row) None f.deferred) k
        (λ q. row_least names (outputs_row names c u block arguments f.row) f.row acted_fine s.fine.row q (get k.variables q) (under_row names (facts (outputs_row names c u block arguments f.row) None f.deferred) k x q) (under_row names (facts f.row None f.deferred) k y q))
        x.result x.deferred

    passes_under : (k : Knowledge) → IsPart (knowledge l.variables None l.deferred) k → Under names (facts f.row None f.deferred) k
    passes_under k part = part_trans (shown names (facts f.row None f.deferred)) (knowledge l.variables None l.deferred) k (record { variables = s.under.variables; result = tt; deferred = s.under.deferred }) part

    over_join : (a : Annotation) (p : ℕ) → fit_arguments names f.row c u block arguments ≡ true → Leads a (p + 1) (knowledge (after_outputs (spot c u a p l) block arguments l.variables) None l.deferred) → Leads a (p + 1) (knowledge l.variables None l.deferred)
        → Over (Under names) a (p + 1) (facts (row_join (outputs_row names c u block arguments f.row) f.row) None f.deferred)
    over_join a p fit (k, stands, part) (j, also, other) =
        let same : Some k ≡ Some j = same_some (Some k) (Some j) (sym stands ∙ also) in
        record { wide = k; stands = stands; under = both_under k (acted_under a p fit k part) (passes_under k (subst (IsPart (knowledge l.variables None l.deferred)) (sym (same_some k j same)) other)) }

    over_both : (a : Annotation) (p : ℕ) → fit_arguments names f.row c u block arguments ≡ true → Leads a (p + 1) (knowledge (after_outputs (spot c u a p l) block arguments l.variables) None l.deferred) → (k : Condition) → condition ≡ k → MayPass (spot c u a p l) k None
        → Over (Under names) a (p + 1) (called names c u f condition block arguments)
    over_both a p fit (k, stands, part) Always is pass = subst (λ k. Over (Under names) a (p + 1) (called names c u f k block arguments)) (sym is) (record { wide = k; stands = stands; under = acted_under a p fit k part })
    over_both a p fit h WhenTrue is pass = subst (λ k. Over (Under names) a (p + 1) (called names c u f k block arguments)) (sym is) (over_join a p fit h pass)
    over_both a p fit h WhenFalse is pass = subst (λ k. Over (Under names) a (p + 1) (called names c u f k block arguments)) (sym is) (over_join a p fit h pass)

calls_form : (names : Names) (c : Config) (u : ProgramUnit) (f : Facts) (l : Knowledge) → Stands names c u f l → (condition : Condition) (arguments : List Argument) → HaveNumbers names c u arguments → (form : Option Form) → Calls names c u f l condition arguments form
calls_form names c u f l s condition arguments n (Some (BlockForm block)) = calls_block names c u f l s condition arguments n block
calls_form names c u f l s condition arguments n None = no_call names c u f l condition arguments None refl (λ t h. h)
calls_form names c u f l s condition arguments n (Some (ScalarForm t)) = no_call names c u f l condition arguments (Some (ScalarForm t)) refl (λ t h. h)
calls_form names c u f l s condition arguments n (Some (ArrayForm bounds element)) = no_call names c u f l condition arguments (Some (ArrayForm bounds element)) refl (λ t h. h)

-- CAL, CALC and CALCN
pub works_call : (names : Names) (c : Config) (u : ProgramUnit) (f : Facts) (l : Knowledge) → Stands names c u f l → (condition : Condition) (instance : Named) (arguments : List Argument) → HaveNumbers names c u arguments → Works names c u f l (Call condition instance arguments)
works_call names c u f l s condition instance arguments n =
    let g = calls_form names c u f l s condition arguments n (form_named c u instance.name) in
    let t = condition_tests condition f.result l.result s.under.result in
    let inner = moves_of_call names c u f condition arguments (form_named c u instance.name) in
    record {
      fine = λ m e. g.fine m (provided_is (has_condition condition f.result) inner m e).is;
      sound = λ a p m e over. let q = provided_is (has_condition condition f.result) inner m e in let r = g.sound a p m q.is over in (t.holds q.test, r.0, r.1);
      complete = λ a p h. let r = g.complete a p h.1 h.2 in (r.0, is_provided (has_condition condition f.result) inner (t.follows h.0) ∙ r.1, r.2);
    }
