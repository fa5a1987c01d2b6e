-- The laws of a unit: where the pass goes over all of its instructions there is an annotation, and where it is refused there is none.
use Rattle.std.proofs.Common.{◌≡◌, not, ℕ, suc, ◌+◌, ◌<◌, ◌≤◌, Bool, true, false, List, [], ◌∷◌, length, Option, Some, None, option_map, refl, sym, ap, ◌∙◌, subst, slice_get, arith, map, inl, inr}
use Rattle.std.specs.Prelude.{if◌then◌else◌}
use Rattle.std.proofs.lemmas.Option.{slice_get_cases}
use Rattle.ranges_interval.specs.declared.Interval.{Interval}
use Rattle.il_statics.proofs.Labels.{label_within}
use Rattle.il_syntax.specs.declared.tree.Config.{Config}
use Rattle.il_syntax.specs.declared.tree.Unit.{Unit as ProgramUnit}
use Rattle.il_syntax.specs.declared.tree.Body.{Body}
use Rattle.il_syntax.specs.declared.tree.Step.{Step}
use Rattle.il_syntax.specs.declared.tree.Named.{Named}
use Rattle.il_syntax.specs.declared.tree.Store.{Store as StoreKind}
use Rattle.il_syntax.specs.declared.tree.Store.TheVariants.{Plain, Negated, Set, Reset}
use Rattle.il_syntax.specs.declared.tree.Operator.{Operator}
use Rattle.il_syntax.specs.declared.tree.Operand.{Operand}
use Rattle.il_syntax.specs.declared.tree.Argument.{Argument}
use Rattle.il_syntax.specs.declared.tree.Form.{Form}
use Rattle.il_syntax.specs.declared.tree.Form.TheVariants.{Scalar as ScalarForm, Array as ArrayForm, Block as BlockForm}
use Rattle.il_syntax.specs.declared.tree.Condition.{Condition}
use Rattle.il_syntax.specs.declared.tree.Condition.TheVariants.{Always, WhenTrue, WhenFalse}
use Rattle.il_syntax.specs.declared.tree.Instruction.{Instruction}
use Rattle.il_syntax.specs.declared.tree.Instruction.TheVariants.{Load, Store, Not, Operate, Defer, Evaluate, Jump, Return, Call, Invoke}
use Rattle.il_statics.specs.declared.names.StandardFunction.{StandardFunction}
use Rattle.il_statics.specs.Names.{Spelling, is_one_of, standard_function, function_named, form_named}
use Rattle.il_statics.specs.Types.{label_from, label_place, StandsAt}
use Rattle.base_maps.specs.NameMap.{get}
use Rattle.il_semantics.specs.Meaning.{Denotation, denotation}
use Rattle.il_semantics.specs.Step.{instruction_at, instruction_or_return}
use Rattle.il_semantics.specs.declared.known.Known.{Known}
use Rattle.il_semantics.specs.declared.known.KnownDeferred.{KnownDeferred}
use Rattle.il_semantics.specs.Annotation.{acts_at, result_at_target, Knowledge, Annotation, Passes, IsVariableWithin, IsResultWithin, IsDeferredWithin, declared_range, IsEntry, IsAnnotatedBelow, IsAnnotated}
use Rattle.ranges_laws.specs.Pass.{Moves, Arrived, advance}
use Rattle.ranges_laws.specs.declared.facts.Facts.{Facts}
use Rattle.ranges_laws.specs.Facts.{Names, facts, facts_join, shown, IsFine}
use Rattle.ranges_laws.specs.Steps.{passing_side, landing, sided, testing_to, moves_of_test, moves_by, to_next, stored, aside, moves_of_store, moves_of_defer, moves_of_evaluate, has_condition, passing, jumping_to, is_bare, moves_of_invoke, fit_arguments, called, moves_of_call, moves_of, moves}
use Rattle.ranges_laws.specs.Prepared.{IsReady, IsPrepared, entry, went_over}
use Rattle.ranges_laws.specs.Refused.{IsRefusedWith}
use Rattle.ranges_laws.proofs.Least.{Over, IsInside, IsAhead, IsPass, Settled, settled, annotation, annotation_at, annotates, lies_below, refused, refused_with, same_some, mapped}
use Rattle.ranges_laws.proofs.Joins.{Under, part_itself, part_trans, facts_joined, facts_least}
use Rattle.ranges_laws.proofs.Rows.{row_is, variable_itself}
use Rattle.ranges_laws.proofs.Agree.{provided_is}
use Rattle.ranges_laws.proofs.Instructions.{spot, Works, Stands, works_load, works_store, works_not, works_operate, works_defer, works_evaluate, works_return}
use Rattle.ranges_laws.proofs.Sides.{WorksAt, works_jump, works_test}
use Rattle.il_semantics.proofs.Testing.{jumps_on}
use Rattle.il_semantics.specs.Tests.{Test, jump_on, test_at}
use Rattle.ranges_laws.proofs.Calls.{works_call, works_invoke}

-- EACH INSTRUCTION

abbrev IsNoJump : Instruction → Type 0
IsNoJump (Jump condition label) = ⊥
IsNoJump _ = Unit {0}

-- a test ends with a jump
no_jump_on : (i : Instruction) (s t : Test) → IsNoJump i → jump_on i s ≡ Some t → ⊥
no_jump_on (Load negated operand) s t n e = cc
no_jump_on (Store kind to) s t n e = cc
no_jump_on Not s t n e = cc
no_jump_on (Operate operator operand) s t n e = cc
no_jump_on (Defer operator first) s t n e = cc
no_jump_on Evaluate s t n e = cc
no_jump_on (Jump condition label) s t n e = absurd n
no_jump_on (Return condition) s t n e = cc
no_jump_on (Call condition instance arguments) s t n e = cc
no_jump_on (Invoke function operands) s t n e = cc

no_test_at : (c : Config) (u : ProgramUnit) (p : ℕ) (i : Instruction) → instruction_at u.body p ≡ i → IsNoJump i → test_at c u p ≡ None
no_test_at c u p i is none = by_test (test_at c u p) refl
  where
    by_test : (t : Option Test) → test_at c u p ≡ t → test_at c u p ≡ None
    by_test None e = e
    by_test (Some t) e = let h = jumps_on c u p t e in absurd (no_jump_on i h.before t none (ap (λ x. jump_on x h.before) (sym is) ∙ h.jumps))

works : (c : Config) (u : ProgramUnit) (names : Names) (declared : List Interval) → IsPrepared c u names declared → (f : Facts) (l : Knowledge) → IsFine names f → Under names f l → (p : ℕ) (i : Instruction) → instruction_at u.body p ≡ i → IsReady names c u i → WorksAt names c u f l (test_at c u p) i p
works c u names declared j f l fine under p i is allowed = by_kind i is allowed
  where
    s : Stands names c u f l
    s = record { fine = fine; under = under; denotes = j.denotes; units = j.units }

    -- an instruction that is no jump
    other : (i : Instruction) → instruction_at u.body p ≡ i → IsNoJump i → Works names c u f l i → WorksAt names c u f l (test_at c u p) i p
    other i is none w = subst (λ t. WorksAt names c u f l t i p) (sym (no_test_at c u p i is none)) (record { fine = w.fine; sound = λ a m e over. w.sound a p m e over; complete = λ a h. w.complete a p h })

    by_test : (condition : Condition) (label : Named) (t : Option Test) → test_at c u p ≡ t → WorksAt names c u f l (test_at c u p) (Jump condition label) p
    by_test condition label None e = subst (λ t. WorksAt names c u f l t (Jump condition label) p) (sym e) (works_jump names c u f l s p e condition label)
    by_test condition label (Some t) e = subst (λ o. WorksAt names c u f l o (Jump condition label) p) (sym e) (works_test names c u f l s t (j.tested p t e) p e condition label)

    by_kind : (i : Instruction) → instruction_at u.body p ≡ i → IsReady names c u i → WorksAt names c u f l (test_at c u p) i p
    by_kind (Load negated operand) is h = other (Load negated operand) is tt (works_load names c u f l s negated operand)
    by_kind (Store kind to) is h = other (Store kind to) is tt (works_store names c u f l s kind to h)
    by_kind Not is h = other Not is tt (works_not names c u f l s)
    by_kind (Operate operator operand) is h = other (Operate operator operand) is tt (works_operate names c u f l s operator operand)
    by_kind (Defer operator first) is h = other (Defer operator first) is tt (works_defer names c u f l s operator first)
    by_kind Evaluate is h = other Evaluate is tt (works_evaluate names c u f.row f.result f.deferred l.variables l.result l.deferred s)
    by_kind (Jump condition label) is h = by_test condition label (test_at c u p) refl
    by_kind (Return condition) is h = other (Return condition) is tt (works_return names c u f l s condition)
    by_kind (Call condition instance arguments) is h = other (Call condition instance arguments) is tt (works_call names c u f l s condition instance arguments h)
    by_kind (Invoke function operands) is h = other (Invoke function operands) is tt (works_invoke names c u f l s function operands)

-- WHERE MOVES LEAD

-- moves to the next place alone
pub record OnlyNext (m : Moves Facts) : Type 0 where
  pub f : Facts
  pub next : m.next ≡ Some f
  pub jump : m.jump ≡ None

only_next : {X : Type 0} (made : X → Facts) (o : Option X) (m : Moves Facts) → option_map (λ x. to_next (made x)) o ≡ Some m → OnlyNext m
only_next made o m e = let h = mapped (λ x. to_next (made x)) o m e in subst OnlyNext h.gives (record { f = made h.from; next = refl; jump = refl })

pub data Kind (names : Names) (c : Config) (u : ProgramUnit) (f : Facts) (m : Moves Facts) : Instruction → Type 0 where
  plain : (i : Instruction) → OnlyNext m → Kind names c u f m i
  returns : (condition : Condition) → m ≡ record { next = passing condition f; jump = None } → Kind names c u f m (Return condition)
  jumps : (condition : Condition) (label : Named) → ((target : ℕ × Facts) → m.jump ≡ Some target → label_place u.body label.name ≡ Some target.0) → Kind names c u f m (Jump condition label)

store_next : (names : Names) (f : Facts) (kind : StoreKind) (d : Denotation) (m : Moves Facts) → moves_of_store names f kind d ≡ Some m → OnlyNext m
store_next names f Plain d m e = only_next (stored names f d) _ m e
store_next names f Negated d m e = only_next (λ k. f) _ m e
store_next names f Set d m e = only_next (λ k. f) _ m e
store_next names f Reset d m e = only_next (λ k. f) _ m e

defer_next : (names : Names) (c : Config) (u : ProgramUnit) (f : Facts) (operator : Operator) (first : Option Operand) (m : Moves Facts) → moves_of_defer names c u f operator first ≡ Some m → OnlyNext m
defer_next names c u f operator None m e = only_next (λ left. aside f operator left None) _ m e
defer_next names c u f operator (Some o) m e = only_next {X = Known × Known} (λ p. aside f operator p.0 (Some p.1)) _ m e

evaluate_next : (f : Facts) (ds : List KnownDeferred) (m : Moves Facts) → moves_of_evaluate f ds ≡ Some m → OnlyNext m
evaluate_next f [] m e = absurd (let bad : None ≡ Some m = e in cc)
evaluate_next f (d ∷ ds) m e = only_next (λ k. facts f.row (Some k) ds) _ m e

invoke_next : (names : Names) (c : Config) (u : ProgramUnit) (f : Facts) (o : Option StandardFunction) (own : Option ProgramUnit) (operands : List Operand) (m : Moves Facts) → moves_of_invoke names c u f o own operands ≡ Some m → OnlyNext m
invoke_next names c u f (Some function) own operands m e = only_next (λ k. facts f.row (Some k) f.deferred) _ m e
invoke_next names c u f None (Some own) operands m e = only_next (λ k. facts f.row (Some k) f.deferred) _ m e
invoke_next names c u f None None operands m e = absurd (let bad : None ≡ Some m = e in cc)

call_next : (names : Names) (c : Config) (u : ProgramUnit) (f : Facts) (condition : Condition) (arguments : List Argument) (form : Option Form) (m : Moves Facts) → moves_of_call names c u f condition arguments form ≡ Some m → OnlyNext m
call_next names c u f condition arguments (Some (BlockForm block)) m e =
    subst OnlyNext (same_some _ m (provided_is (fit_arguments names f.row c u block arguments) (Some (to_next (called names c u f condition block arguments))) m e).is) (record { f = called names c u f condition block arguments; next = refl; jump = refl })
call_next names c u f condition arguments None m e = absurd (let bad : None ≡ Some m = e in cc)
call_next names c u f condition arguments (Some (ScalarForm s)) m e = absurd (let bad : None ≡ Some m = e in cc)
call_next names c u f condition arguments (Some (ArrayForm bounds element)) m e = absurd (let bad : None ≡ Some m = e in cc)

kind_of : (names : Names) (c : Config) (u : ProgramUnit) (f : Facts) (i : Instruction) (m : Moves Facts) → moves_of names c u f i ≡ Some m → Kind names c u f m i
kind_of names c u f (Load negated operand) m e = plain (Load negated operand) (only_next (λ k. facts f.row (Some k) f.deferred) _ m e)
kind_of names c u f (Store kind to) m e = plain (Store kind to) (store_next names f kind (denotation c u to.reference) m e)
kind_of names c u f Not m e = plain Not (only_next (λ k. facts f.row (Some k) f.deferred) _ m e)
kind_of names c u f (Operate operator operand) m e = plain (Operate operator operand) (only_next (λ k. facts f.row (Some k) f.deferred) _ m e)
kind_of names c u f (Defer operator first) m e = plain (Defer operator first) (defer_next names c u f operator first m e)
kind_of names c u f Evaluate m e = plain Evaluate (evaluate_next f f.deferred m e)
kind_of names c u f (Jump condition label) m e = by_place (label_place u.body label.name) refl (provided_is (has_condition condition f.result) (jumping_to condition f (label_place u.body label.name)) m (provided_is (is_bare f.deferred) _ m e).is).is
  where
    by_place : (o : Option ℕ) → label_place u.body label.name ≡ o → jumping_to condition f o ≡ Some m → Kind names c u f m (Jump condition label)
    by_place None is g = absurd (let bad : None ≡ Some m = g in cc)
    by_place (Some to) is g = jumps condition label (λ target e.
        let there : ℕ × Facts = (to, facts f.row (result_at_target condition f.result) f.deferred) in
        is ∙ ap (λ (x : ℕ × Facts). Some x.0) (same_some {A = ℕ × Facts} there target (ap (λ (x : Moves Facts). x.jump) (same_some (record { next = passing condition f; jump = Some there }) m g) ∙ e)))
kind_of names c u f (Return condition) m e = returns condition (sym (same_some _ m (provided_is (has_condition condition f.result) (Some (record { next = passing condition f; jump = None })) m e).is))
kind_of names c u f (Call condition instance arguments) m e = plain (Call condition instance arguments) (call_next names c u f condition arguments (form_named c u instance.name) m (provided_is (has_condition condition f.result) _ m e).is)
kind_of names c u f (Invoke function operands) m e = plain (Invoke function operands) (invoke_next names c u f (standard_function function.name) (function_named c function.name) operands m e)

-- the same of the jump of a test
test_lands : (names : Names) (c : Config) (u : ProgramUnit) (t : Test) (f : Facts) (condition : Condition) (label : Named) (m : Moves Facts) → moves_of_test names c u t f (Jump condition label) ≡ Some m → Kind names c u f m (Jump condition label)
test_lands names c u t f condition label m e =
    let q = provided_is (has_condition condition f.result) (testing_to names t condition f (label_place u.body label.name)) m (provided_is (is_bare f.deferred) _ m e).is in
    let h = mapped (λ jump. record { next = passing_side condition (sided names t (not (acts_at condition)) f); jump = jump }) (landing condition (label_place u.body label.name) (sided names t (acts_at condition) f)) m q.is in
    jumps condition label (λ target e. lands (label_place u.body label.name) (sided names t (acts_at condition) f) target (h.was ∙ ap Some (ap (λ (x : Moves Facts). x.jump) h.gives ∙ e)))
  where
    lands : (at : Option ℕ) (side : Option Facts) (target : ℕ × Facts) → landing condition at side ≡ Some (Some target) → at ≡ Some target.0
    lands at None target e = let bad : ◌≡◌ {A = Option (ℕ × Facts)} None (Some target) = same_some {A = Option (ℕ × Facts)} None (Some target) e in cc
    lands None (Some g) target e = let bad : ◌≡◌ {A = Option (Option (ℕ × Facts))} None (Some (Some target)) = e in cc
    lands (Some to) (Some g) target e =
        let there : ℕ × Facts = (to, facts g.row (result_at_target condition g.result) g.deferred) in
        ap (λ (x : ℕ × Facts). Some x.0) (same_some {A = ℕ × Facts} there target (same_some {A = Option (ℕ × Facts)} (Some there) (Some target) e))

-- the kind of the moves of an instruction, which may be the jump of a test
kind_by : (names : Names) (c : Config) (u : ProgramUnit) (t : Option Test) (f : Facts) (i : Instruction) (m : Moves Facts) → moves_by names c u t f i ≡ Some m → Kind names c u f m i
kind_by names c u None f i m e = kind_of names c u f i m e
kind_by names c u (Some t) f (Jump condition label) m e = test_lands names c u t f condition label m e
kind_by names c u (Some t) f (Load negated operand) m e = absurd (let bad : None ≡ Some m = e in cc)
kind_by names c u (Some t) f (Store kind to) m e = absurd (let bad : None ≡ Some m = e in cc)
kind_by names c u (Some t) f Not m e = absurd (let bad : None ≡ Some m = e in cc)
kind_by names c u (Some t) f (Operate operator operand) m e = absurd (let bad : None ≡ Some m = e in cc)
kind_by names c u (Some t) f (Defer operator first) m e = absurd (let bad : None ≡ Some m = e in cc)
kind_by names c u (Some t) f Evaluate m e = absurd (let bad : None ≡ Some m = e in cc)
kind_by names c u (Some t) f (Return condition) m e = absurd (let bad : None ≡ Some m = e in cc)
kind_by names c u (Some t) f (Call condition instance arguments) m e = absurd (let bad : None ≡ Some m = e in cc)
kind_by names c u (Some t) f (Invoke function operands) m e = absurd (let bad : None ≡ Some m = e in cc)

place_within : (body : Body) (name : Spelling) (to : ℕ) → label_place body name ≡ Some to → to < length body.steps + 1
unfolding label_place
place_within body name to e = let h = label_within 0 body.steps (map (λ l. l.name) body.last_labels) name to e in omega arith

-- AN INSTRUCTION AT A PLACE

pub record At (body : Body) (place : ℕ) : Type 0 where
  pub step : Step
  pub stands : StandsAt body place step
  pub is : instruction_at body place ≡ step.instruction

at : (body : Body) (place : ℕ) → place < length body.steps → At body place
at body place low = by_step (slice_get body.steps place) refl
  where
    by_step : (o : Option Step) → slice_get body.steps place ≡ o → At body place
    by_step None is = elim (slice_get_cases body.steps place).1 [
      | inl h ↦ absurd (let bad : None ≡ Some h.0 = sym is ∙ h.2 in cc)
      | inr h ↦ absurd (omega (arith, h.0))
    ]
    by_step (Some s) is = record { step = s; stands = is; is = ap instruction_or_return is }

-- THE PASS

inside_by : (condition : Condition) (f : Facts) (total place : ℕ) → place + 1 < total → IsInside total place (passing condition f)
inside_by Always f total place h = tt
inside_by WhenTrue f total place h = h
inside_by WhenFalse f total place h = h

next_inside : (o : Option Facts) (total place : ℕ) → place + 1 < total → IsInside total place o
next_inside None total place h = tt
next_inside (Some f) total place h = h

good_of : (c : Config) (u : ProgramUnit) (names : Names) (f : Facts) (i : Instruction) (m : Moves Facts) (place : ℕ) → place < length u.body.steps → ((label : Named) (condition : Condition) (to : ℕ) → i ≡ Jump condition label → label_place u.body label.name ≡ Some to → place < to) → Kind names c u f m i → IsAhead (length u.body.steps + 1) place m.jump
good_of c u names f i m place low ahead (plain _ only) = subst (IsAhead (length u.body.steps + 1) place) (sym only.jump) tt
good_of c u names f (Return condition) m place low ahead (returns _ is) = subst (λ x. IsAhead (length u.body.steps + 1) place x.jump) (sym is) tt
good_of c u names f (Jump condition label) m place low ahead (jumps _ _ there) = by_target m.jump refl
  where
    by_target : (o : Option (ℕ × Facts)) → m.jump ≡ o → IsAhead (length u.body.steps + 1) place o
    by_target None e = tt
    by_target (Some target) e = (ahead label condition target.0 refl (there target e), place_within u.body label.name target.0 (there target e))

abbrev pub PassesAt : Config → ProgramUnit → Annotation → ℕ → Knowledge → Type 0
PassesAt c u a p l = Passes (spot c u a p l) (instruction_at u.body p)

works_at : (c : Config) (u : ProgramUnit) (names : Names) (declared : List Interval) → IsPrepared c u names declared → (f : Facts) (l : Knowledge) → IsFine names f → Under names f l → (place : ℕ) → place < length u.body.steps → WorksAt names c u f l (test_at c u place) (instruction_at u.body place) place
works_at c u names declared j f l fine under place low =
    let a = at u.body place low in
    works c u names declared j f l fine under place (instruction_at u.body place) refl (subst (IsReady names c u) (sym a.is) (j.ready place a.step a.stands))

kind_at : (c : Config) (u : ProgramUnit) (names : Names) (declared : List Interval) → IsPrepared c u names declared → (f : Facts) (m : Moves Facts) (place : ℕ) → place < length u.body.steps → moves names c u place f ≡ Some m → Kind names c u f m (instruction_at u.body place)
kind_at c u names declared j f m place low e =
    kind_by names c u (test_at c u place) f (instruction_at u.body place) m e

ahead_at : (c : Config) (u : ProgramUnit) (names : Names) (declared : List Interval) → IsPrepared c u names declared → (place : ℕ) → place < length u.body.steps → (label : Named) (condition : Condition) (to : ℕ) → instruction_at u.body place ≡ Jump condition label → label_place u.body label.name ≡ Some to → place < to
ahead_at c u names declared j place low label condition to is there =
    let a = at u.body place low in j.forward place to a.step label (record { stands = a.stands; condition = condition; jumps = sym a.is ∙ is }) there

pub unit_pass : (c : Config) (u : ProgramUnit) (names : Names) (declared : List Interval) → IsPrepared c u names declared → IsPass facts_join (moves names c u) (shown names) (Under names) (IsFine names) (PassesAt c u) (length u.body.steps) (length u.body.steps + 1)
unit_pass c u names declared j = record {
  room = omega arith;
  itself = λ k. part_itself (shown names k);
  through = λ k l m p q. part_trans (shown names k) (shown names l) m p q;
  joined = facts_joined names;
  least = facts_least names;
  good = λ place k m low fine e.
      let w = works_at c u names declared j k (shown names k) fine (part_itself (shown names k)) place low in
      record {
        inside = next_inside m.next (length u.body.steps + 1) place (omega arith);
        ahead = good_of c u names k (instruction_at u.body place) m place low (ahead_at c u names declared j place low) (kind_at c u names declared j k m place low e);
        fine_next = (w.fine m e).next;
        fine_jump = (w.fine m e).jump;
      };
  sound = λ a place k m low fine e over. (works_at c u names declared j k (shown names k) fine (part_itself (shown names k)) place low).sound a m e over;
  complete = λ a place k l low fine under passes. (works_at c u names declared j k l fine under place low).complete a passes;
}

-- THE ENTRY

fine_entry : (c : Config) (u : ProgramUnit) (names : Names) (declared : List Interval) → IsPrepared c u names declared → IsFine names (entry declared)
fine_entry c u names declared j = record { row = j.row; result = tt; deferred = tt }

entry_is : (c : Config) (u : ProgramUnit) (names : Names) (declared : List Interval) → IsPrepared c u names declared → IsEntry c u (shown names (entry declared))
entry_is c u names declared j = record { variables = λ q. subst (IsVariableWithin (declared_range c u q)) (sym (row_is names declared q ∙ j.each q)) (variable_itself (declared_range c u q)); result = refl; deferred = refl }

entry_over : (c : Config) (u : ProgramUnit) (names : Names) (declared : List Interval) → IsPrepared c u names declared → (a : Annotation) → (first : Knowledge) × (slice_get a 0 ≡ Some (Some first)) × IsEntry c u first → Over (Under names) a 0 (entry declared)
entry_over c u names declared j a (first, stands, e) = record {
  wide = first;
  stands = stands;
  under = record {
    variables = λ q. subst (λ o. IsVariableWithin o (get first.variables q)) (sym (row_is names declared q ∙ j.each q)) (e.variables q);
    result = subst (IsResultWithin None) (sym e.result) tt;
    deferred = subst (IsDeferredWithin []) (sym e.deferred) tt;
  };
}

module _ (c : Config) (u : ProgramUnit) (names : Names) (declared : List Interval) (ready : IsPrepared c u names declared) where
  -- what arrived, after so many places
  settled_at : (n : ℕ) (arrived : Arrived Facts) → n ≤ length u.body.steps → went_over c u names declared n ≡ Some arrived
      → Settled facts_join (moves names c u) (shown names) (Under names) (IsFine names) (PassesAt c u) (length u.body.steps) (length u.body.steps + 1) (unit_pass c u names declared ready) (entry declared) n arrived
  settled_at = settled facts_join (moves names c u) (shown names) (Under names) (IsFine names) (PassesAt c u) (length u.body.steps) (length u.body.steps + 1) (unit_pass c u names declared ready) (entry declared) (fine_entry c u names declared ready)

  -- what it says as an annotation
  pub least : Arrived Facts → Annotation
  least arrived = annotation facts_join (moves names c u) (shown names) (Under names) (IsFine names) (PassesAt c u) (length u.body.steps) (length u.body.steps + 1) (unit_pass c u names declared ready) arrived

  pub least_at : (arrived : Arrived Facts) (p : ℕ) (k : Facts) → p ≤ length u.body.steps → arrived p ≡ Some k → slice_get (least arrived) p ≡ Some (Some (shown names k))
  unfolding least
  least_at arrived p k low is = annotation_at facts_join (moves names c u) (shown names) (Under names) (IsFine names) (PassesAt c u) (length u.body.steps) (length u.body.steps + 1) (unit_pass c u names declared ready) arrived p k (omega arith) is

  -- an annotation of the places that the pass went over
  pub before : (n : ℕ) (arrived : Arrived Facts) → n ≤ length u.body.steps → went_over c u names declared n ≡ Some arrived → IsAnnotatedBelow c u n (least arrived)
  unfolding least
  before n arrived low e =
      let s = settled_at n arrived low e in
      record {
        entry = (shown names (entry declared), least_at arrived 0 (entry declared) (omega arith) s.first, entry_is c u names declared ready);
        each = λ p l h is. annotates facts_join (moves names c u) (shown names) (Under names) (IsFine names) (PassesAt c u) (length u.body.steps) (length u.body.steps + 1) (unit_pass c u names declared ready) (entry declared) n arrived low s p l h is;
      }

  -- what arrived lies below each such annotation
  below_each : (n : ℕ) (arrived : Arrived Facts) → n ≤ length u.body.steps → went_over c u names declared n ≡ Some arrived → (a : Annotation) → IsAnnotatedBelow c u n a → (p : ℕ) (k : Facts) → arrived p ≡ Some k → Over (Under names) a p k
  below_each n arrived low e a h =
      lies_below facts_join (moves names c u) (shown names) (Under names) (IsFine names) (PassesAt c u) (length u.body.steps) (length u.body.steps + 1) (unit_pass c u names declared ready) a (entry declared) (fine_entry c u names declared ready)
      (entry_over c u names declared ready a h.entry) n arrived low e (λ p l b is. h.each p l b is)

  -- THE LAWS

  -- what arrives is what operations take
  pub arrives_fine : (n : ℕ) (arrived : Arrived Facts) → n ≤ length u.body.steps → went_over c u names declared n ≡ Some arrived → (p : ℕ) (k : Facts) → arrived p ≡ Some k → IsFine names k
  arrives_fine n arrived low e = (settled_at n arrived low e).fine

  -- jumps go forward, to places that are there
  pub goes_forward : (place : ℕ) (k : Facts) (m : Moves Facts) → place < length u.body.steps → moves names c u place k ≡ Some m → IsAhead (length u.body.steps + 1) place m.jump
  goes_forward place k m low e = good_of c u names k (instruction_at u.body place) m place low (ahead_at c u names declared ready place low) (kind_at c u names declared ready k m place low e)

  -- where the pass goes over each instruction, the unit has an annotation
  pub accepted : (arrived : Arrived Facts) → went_over c u names declared (length u.body.steps) ≡ Some arrived → (a : Annotation) × IsAnnotated c u a
  accepted arrived e =
      let b = before (length u.body.steps) arrived (omega arith) e in
      (least arrived, record { entry = b.entry; each = λ p k low is. by_place (least arrived) p k (b.each p k) is })
    where
      ret : (a : Annotation) (p : ℕ) (k : Knowledge) → instruction_at u.body p ≡ Return Always → Passes (spot c u a p k) (instruction_at u.body p)
      ret a p k is = subst (Passes (spot c u a p k)) (sym is) (tt, tt)

      by_place : (a : Annotation) (p : ℕ) (k : Knowledge) → (p < length u.body.steps → slice_get a p ≡ Some (Some k) → Passes (spot c u a p k) (instruction_at u.body p)) → slice_get a p ≡ Some (Some k) → Passes (spot c u a p k) (instruction_at u.body p)
      by_place a p k below is = elim (slice_get_cases u.body.steps p).1 [
        | inl h ↦ below h.1 is
        | inr h ↦ ret a p k (ap instruction_or_return h.1)
      ]

  -- where it is refused, no annotation holds up to and including the place, and what arrived there is the least that is known
  pub first_without : (n : ℕ) (arrived : Arrived Facts) → n < length u.body.steps → went_over c u names declared n ≡ Some arrived → advance facts_join (moves names c u) n arrived ≡ None → IsRefusedWith c u names n arrived
  first_without n arrived low e none =
      let k = refused_with facts_join (moves names c u) (shown names) (Under names) (IsFine names) (PassesAt c u) (length u.body.steps) (length u.body.steps + 1) (unit_pass c u names declared ready) n arrived none in
      record {
        facts = k.0;
        arrived_is = k.1;
        first = record {
          before = (least arrived, before n arrived (omega arith) e);
          none = λ a h.
              refused facts_join (moves names c u) (shown names) (Under names) (IsFine names) (PassesAt c u) (length u.body.steps) (length u.body.steps + 1) (unit_pass c u names declared ready) (entry declared) (fine_entry c u names declared ready) n arrived low e none
              a (entry_over c u names declared ready a h.entry) (λ p l b is. h.each p l (omega arith) is);
        };
        least = record {
          annotation = least arrived;
          holds = before n arrived (omega arith) e;
          stands = least_at arrived n k.0 (omega arith) k.1;
          below = λ a h. let o = below_each n arrived (omega arith) e a h n k.0 k.1 in (o.wide, o.stands, o.under);
        };
      }
