-- What the passes found, in the words of annotations.
use Rattle.std.proofs.Common.{◌≡◌, ℕ, zero, suc, ◌+◌, ◌<◌, ◌≤◌, ◌⊎◌, inl, inr, Bool, true, false, if◌then◌else◌, List, [], ◌∷◌, length, get_or, Option, Some, None, option_and_then, Result, Ok, Err, refl, sym, ap, ◌∙◌, subst, slice_get, arith}
use Rattle.std.specs.Prelude.{Contains, IfOk, is_some}
use Rattle.std.proofs.lemmas.Bool.{cases_lt}
use Rattle.std.proofs.lemmas.Bool.Decides.{eqb_tells}
use Rattle.std.proofs.lemmas.Option.{slice_get_read, slice_get_within, slice_get-get_or}
use Rattle.ranges_interval.specs.declared.Interval.{Interval}
use Rattle.il_syntax.specs.declared.tree.Config.{Config}
use Rattle.il_syntax.specs.declared.tree.Unit.{Unit as ProgramUnit}
use Rattle.il_syntax.specs.declared.tree.Step.{Step}
use Rattle.il_syntax.specs.declared.tree.Place.{Place}
use Rattle.il_syntax.specs.declared.tree.Form.{Form}
use Rattle.il_syntax.specs.declared.tree.Form.TheVariants.{Scalar as OfScalar, Array as OfArray, Block as OfBlock}
use Rattle.il_syntax.specs.declared.tree.Index.{Index}
use Rattle.il_syntax.specs.declared.tree.Index.TheVariants.{Number, Variable as ByVariable}
use Rattle.il_syntax.specs.declared.tree.Reference.{Reference}
use Rattle.il_syntax.specs.declared.tree.Reference.TheVariants.{Literal as OfLiteral, Variable as OfVariable, Element as OfElement, Member as OfMember}
use Rattle.il_syntax.specs.declared.tree.Argument.{Argument}
use Rattle.il_syntax.specs.declared.tree.Argument.TheVariants.{Input, Output}
use Rattle.il_syntax.specs.declared.tree.Instruction.{Instruction}
use Rattle.il_syntax.specs.declared.tree.Instruction.TheVariants.{Load, Store, Not, Operate, Defer, Evaluate, Jump, Return, Call, Invoke}
use Rattle.il_syntax.specs.declared.fault.Refusal.{Refusal}
use Rattle.il_syntax.specs.declared.fault.Refusal.TheVariants.{Fault}
use Rattle.il_statics.specs.Names.{form_named, or_else, entry_of, block_variables}
use Rattle.il_statics.specs.Types.{backward}
use Rattle.il_statics.specs.Faults.{BreaksDeclarations, HasNoFault, Broken, Typing, backward_jump, IsRefusedBy}
use Rattle.base_maps.specs.NameMap.{NameMap, Text, get}
use Rattle.il_semantics.specs.Meaning.{Denotation, Constant, Direct, Numbered as NumberedElement, Indexed as IndexedElement, Inside as InsideInstance, Unknown as Undeclared, denotation, direct, indexed_by, element_of, inside, member_of, inputs_of, outputs_of}
use Rattle.il_semantics.specs.Step.{instruction_at, instruction_or_return}
use Rattle.il_syntax.specs.declared.tree.Elementary.{Elementary}
use Rattle.il_syntax.specs.ElementaryTypes.{is_counted}
use Rattle.il_syntax.specs.declared.tree.Named.{Named}
use Rattle.il_syntax.specs.declared.tree.Condition.TheVariants.{Always, WhenTrue, WhenFalse}
use Rattle.il_semantics.specs.Tests.{Test, counted_variable, loaded_variable, compared_at, comparison_of, jump_on, if_unlabelled, unlabelled, test_at}
use Rattle.std.specs.Cmp.Derive.{both_true}
use Rattle.il_syntax.specs.declared.tree.Operator.TheVariants.{Logic as OfLogic, Arithmetic as OfArithmetic, Comparison as OfComparison}
use Rattle.il_semantics.proofs.Testing.{next, compares, loads_of, tested_of, variable_of_test, counted_range}
use Rattle.il_semantics.specs.declared.known.KnownDeferred.{KnownDeferred}
use Rattle.il_semantics.specs.Annotation.{form_range, declared_range, Annotation, IsAnnotated, Annotated}
use Rattle.il_statics.specs.Least.{NumberedFault, is_before, earlier_of, IsLeast, Below}
use Rattle.il_statics.proofs.Least.{least_same, least_none, least_next}
use Rattle.ranges_laws.specs.Pass.{Arrived, passed}
use Rattle.ranges_laws.specs.declared.facts.Facts.{Facts}
use Rattle.ranges_laws.specs.Facts.{Names, range_by, IsFine, facts, facts_join, shown}
use Rattle.ranges_laws.specs.Steps.{moves}
use Rattle.ranges_laws.specs.Prepared.{IsFineDenotation, IsPrepared, IsReady, HasNumber, HaveNumbers, entry, went_over}
use Rattle.ranges_laws.specs.Refused.{IsLeastAt as IsLeastArrived}
use Rattle.ranges_laws.proofs.Least.{IsAhead, same_some}
use Rattle.ranges_laws.proofs.Units.{accepted, first_without, arrives_fine, goes_forward}
use Rattle.ranges_transfer.specs.Tables.{IsAheadOf, IsAheadBelow, IsFineBelow, IsPassed, IsRefusedAt}
use Rattle.load_scope.specs.Units.{InUnit}
use Rattle.ranges_pass.specs.Units.{names_of}
use Rattle.ranges_pass.specs.Numbering.{AreNumbers, HaveRanges, is_conditional, is_conditional_step, is_comparison, is_comparison_step, may_test, HasNumberIn, IsTargetNumbered, IsArgumentNumbered, AreNumbered, IsStepNumbered, AreDeclaredOperands, IsNumberingOf}
use Rattle.ranges_pass.specs.Lacking.{IsRangeNumber, IsLeastAt, LacksRanges, BreaksRanges, lacks_ranges}
use Rattle.ranges_pass.specs.Judged.{Setting, IsPlaceOf, IsRefusalOf, IsJudged, AllBelow, AreJudged}
use Rattle.ranges_pass.proofs.Proper.{units_fine, declared_operand, denotes_fine}
use Rattle.ranges_pass.proofs.Reasoned.{fault_number}
use Rattle.ranges_pass.proofs.Lacked.{lacked_least, annotated_least}

-- THE SETTING

pub contains_at : (units : List ProgramUnit) (at : ℕ) (u : ProgramUnit) → slice_get units at ≡ Some u → Contains units u
contains_at [] at u e = let bad : None ≡ Some u = e in cc
contains_at (x ∷ units) zero u e = (0, omega arith, same_some x u e)
contains_at (x ∷ units) (suc at) u e = let m = contains_at units at u e in (suc m.0, omega (arith, m.1), m.2)

pub fine_in : (c : Config) (u : ProgramUnit) (at : ℕ) → slice_get c.units at ≡ Some u → HasNoFault (BreaksDeclarations c) → (v : InUnit) → v.config ≡ c → v.unit ≡ u → (r : Reference) → IsFineDenotation (denotation v.config v.unit r)
fine_in c u at stands unbroken v same also r =
    subst (λ x. IsFineDenotation (denotation v.config x r)) (sym also) (subst (λ d. IsFineDenotation (denotation d u r)) (sym same) (denotes_fine c unbroken u (contains_at c.units at u stands) r))

pub setting_of : (c : Config) (u : ProgramUnit) (at : ℕ) (v : InUnit) (n : Names) (numbers : NameMap ℕ) (declared : List Interval) → slice_get c.units at ≡ Some u → HasNoFault (BreaksDeclarations c) → HasNoFault (Broken Typing c) → v.config ≡ c → v.unit ≡ u → n ≡ names_of v numbers declared
    → (AreDeclaredOperands v → IsNumberingOf v numbers declared) → Setting n declared
setting_of c u at v n numbers declared stands unbroken typed same also is numbering =
    subst (λ m. Setting m declared) (sym is) (by_parts v.config v.unit same also numbering)
  where
    by_parts : (d : Config) (w : ProgramUnit) → d ≡ c → w ≡ u → (AreDeclaredOperands (record { config = d; unit = w }) → IsNumberingOf (record { config = d; unit = w }) numbers declared) → Setting (names_of (record { config = d; unit = w }) numbers declared) declared
    by_parts d w same also numbering =
        let stands_too : slice_get d.units at ≡ Some w = ap (λ (x : Config). slice_get x.units at) same ∙ stands ∙ ap Some (sym also) in
        let unbroken_too : HasNoFault (BreaksDeclarations d) = subst (λ x. HasNoFault (BreaksDeclarations x)) (sym same) unbroken in
        let among = contains_at d.units at w stands_too in
        let all = numbering (declared_operand d unbroken_too w among) in
        record {
          among = among;
          unbroken = unbroken_too;
          typed = subst (λ x. HasNoFault (Broken Typing x)) (sym same) typed;
          count = refl;
          are = all.are;
          stores = all.stores;
        }

in_list : {X : Type 0} (xs : List Interval) (n : ℕ) → n < length xs → slice_get xs n ≡ None → X
in_list [] n low none = absurd (omega (arith, low))
in_list (x ∷ xs) zero low none = absurd (let bad : ◌≡◌ {A = Option Interval} (Some x) None = none in cc)
in_list (x ∷ xs) (suc n) low none = in_list xs n (omega (arith, low)) none

have_ranges : (u : InUnit) (numbers : NameMap ℕ) (declared : List Interval) → AreNumbers u numbers declared → HaveRanges u numbers
have_ranges u numbers declared are q none = by_number (get numbers q) refl
  where
    by_number : (o : Option ℕ) → get numbers q ≡ o → get numbers q ≡ None
    by_number None is = is
    by_number (Some n) is = in_list declared n (are.inside q n is) (are.ranges q n is ∙ none)

pub ranges_in : (c : Config) (u : ProgramUnit) (at : ℕ) (v : InUnit) (numbers : NameMap ℕ) (declared : List Interval) → slice_get c.units at ≡ Some u → HasNoFault (BreaksDeclarations c) → v.config ≡ c → v.unit ≡ u
    → (AreDeclaredOperands v → IsNumberingOf v numbers declared) → HaveRanges v numbers
ranges_in c u at v numbers declared stands unbroken same also numbering =
    let stands_too : slice_get v.config.units at ≡ Some v.unit = ap (λ (x : Config). slice_get x.units at) same ∙ stands ∙ ap Some (sym also) in
    let unbroken_too : HasNoFault (BreaksDeclarations v.config) = subst (λ x. HasNoFault (BreaksDeclarations x)) (sym same) unbroken in
    let all = numbering (declared_operand v.config unbroken_too v.unit (contains_at v.config.units at v.unit stands_too)) in have_ranges v numbers declared all.are

-- READY FOR THE LAWS

named_number : (n : Names) (name : Text) (o : Option Form) → form_named n.config n.unit name ≡ o → HasNumberIn (record { config = n.config; unit = n.unit }) n.numbers name → HasNumber n (direct name o)
named_number n name None is h = tt
named_number n name (Some (OfScalar s)) is h = λ i e. h i (ap (option_and_then form_range) is ∙ e)
named_number n name (Some (OfArray bounds element)) is h = tt
named_number n name (Some (OfBlock block)) is h = tt

target_number : (n : Names) (r : Reference) → IsTargetNumbered (record { config = n.config; unit = n.unit }) n.numbers r → HasNumber n (denotation n.config n.unit r)
target_number n (OfVariable name) h = named_number n name (form_named n.config n.unit name) refl h
target_number n (OfLiteral l) h = tt
target_number n (OfElement name index) h = by_form (form_named n.config n.unit name) index
  where
    by_variable : (o : Option Form) (v : Text) (f : Option Form) → HasNumber n (element_of (form_named n.config n.unit) name (ByVariable v) o)
    by_variable None v f = tt
    by_variable (Some (OfScalar s)) v f = tt
    by_variable (Some (OfArray bounds element)) v f = by_index (form_named n.config n.unit v)
      where
        by_index : (f : Option Form) → HasNumber n (indexed_by name bounds element v f)
        by_index None = tt
        by_index (Some (OfScalar s)) = tt
        by_index (Some (OfArray b e)) = tt
        by_index (Some (OfBlock block)) = tt
    by_variable (Some (OfBlock block)) v f = tt

    by_form : (o : Option Form) (index : Index) → HasNumber n (element_of (form_named n.config n.unit) name index o)
    by_form None index = tt
    by_form (Some (OfScalar s)) index = tt
    by_form (Some (OfArray bounds element)) (Number z) = tt
    by_form (Some (OfArray bounds element)) (ByVariable v) = by_variable (Some (OfArray bounds element)) v None
    by_form (Some (OfBlock block)) index = tt
target_number n (OfMember instance word) h = by_form (form_named n.config n.unit instance)
  where
    by_word : (o : Option Form) → HasNumber n (inside instance word o)
    by_word None = tt
    by_word (Some (OfScalar s)) = tt
    by_word (Some (OfArray bounds element)) = tt
    by_word (Some (OfBlock block)) = tt

    by_form : (o : Option Form) → HasNumber n (member_of n.config instance word o)
    by_form None = tt
    by_form (Some (OfScalar s)) = tt
    by_form (Some (OfArray bounds element)) = tt
    by_form (Some (OfBlock block)) = by_word (or_else (entry_of (outputs_of (block_variables n.config block)) word) (entry_of (inputs_of (block_variables n.config block)) word))

have_numbers : (n : Names) (arguments : List Argument) → AreNumbered (IsArgumentNumbered (record { config = n.config; unit = n.unit }) n.numbers) arguments (length arguments) → HaveNumbers n n.config n.unit arguments
have_numbers n [] h = tt
have_numbers n (Input word o ∷ more) h = have_numbers n more (λ at a low is. h (suc at) a (omega arith) is)
have_numbers n (Output word to ∷ more) h = (named_number n to.name (form_named n.config n.unit to.name) refl (h 0 (Output word to) (omega arith) refl), have_numbers n more (λ at a low is. h (suc at) a (omega arith) is))

ready_for : (n : Names) (tests : Bool) (i : Instruction) → IsStepNumbered (record { config = n.config; unit = n.unit }) n.numbers tests i → IsReady n n.config n.unit i
ready_for n tests (Store kind to) h = target_number n to.reference h
ready_for n tests (Call condition instance arguments) h = have_numbers n arguments h
ready_for n tests (Load negated operand) h = tt
ready_for n tests Not h = tt
ready_for n tests (Operate operator operand) h = tt
ready_for n tests (Defer operator first) h = tt
ready_for n tests Evaluate h = tt
ready_for n tests (Jump condition label) h = tt
ready_for n tests (Return condition) h = tt
ready_for n tests (Invoke function operands) h = tt

-- a variable that LD loads
counted_number : (n : Names) (d : Denotation) (v : Text × Elementary) → counted_variable d ≡ Some v → HasNumber n d → (m : ℕ) × (get n.numbers v.0 ≡ Some m)
counted_number n (Direct name s) v e h = by_test (is_counted s.elementary) refl e
  where
    by_test : (b : Bool) → is_counted s.elementary ≡ b → (if b then Some (name, s.elementary) else None) ≡ Some v → (m : ℕ) × (get n.numbers v.0 ≡ Some m)
    by_test true counts e =
        let r = counted_range s counts in
        let k = h r.0 r.1 in
        let same : ◌≡◌ {A = Text × Elementary} (name, s.elementary) v = same_some {A = Text × Elementary} (name, s.elementary) v e in
        (k.0, ap (get n.numbers) (sym (ap (λ (x : Text × Elementary). x.0) same)) ∙ k.1)
    by_test false counts e = absurd (let bad : ◌≡◌ {A = Option (Text × Elementary)} None (Some v) = e in cc)
counted_number n (Constant l) v e h = absurd (let bad : ◌≡◌ {A = Option (Text × Elementary)} None (Some v) = e in cc)
counted_number n (NumberedElement name bounds element z) v e h = absurd (let bad : ◌≡◌ {A = Option (Text × Elementary)} None (Some v) = e in cc)
counted_number n (IndexedElement name bounds element variable s) v e h = absurd (let bad : ◌≡◌ {A = Option (Text × Elementary)} None (Some v) = e in cc)
counted_number n (InsideInstance instance word s) v e h = absurd (let bad : ◌≡◌ {A = Option (Text × Elementary)} None (Some v) = e in cc)
counted_number n Undeclared v e h = absurd (let bad : ◌≡◌ {A = Option (Text × Elementary)} None (Some v) = e in cc)

-- at the place of a test is a conditional jump
jump_tests : (i : Instruction) (x t : Test) → jump_on i x ≡ Some t → is_conditional i ≡ true
jump_tests (Jump WhenTrue label) x t e = refl
jump_tests (Jump WhenFalse label) x t e = refl
jump_tests (Jump Always label) x t e = cc
jump_tests (Load negated operand) x t e = cc
jump_tests (Store kind to) x t e = cc
jump_tests Not x t e = cc
jump_tests (Operate operator operand) x t e = cc
jump_tests (Defer operator first) x t e = cc
jump_tests Evaluate x t e = cc
jump_tests (Return condition) x t e = cc
jump_tests (Call condition instance arguments) x t e = cc
jump_tests (Invoke function operands) x t e = cc

has_test : (c : Config) (u : ProgramUnit) (at : ℕ) (t : Test) → test_at c u at ≡ Some t → is_conditional_step (slice_get u.body.steps at) ≡ true
has_test c u zero t e = cc
has_test c u (suc k) t e = by_step (slice_get u.body.steps (suc k)) refl e
  where
    by_compared : (i : Instruction) (o : Option Test) → option_and_then (jump_on i) o ≡ Some t → is_conditional i ≡ true
    by_compared i None e = cc
    by_compared i (Some x) e = jump_tests i x t e

    by_labels : (i : Instruction) (ls : List Named) → option_and_then (λ j. option_and_then (jump_on j) (compared_at c u k)) (if_unlabelled ls i) ≡ Some t → is_conditional i ≡ true
    by_labels i [] e = by_compared i (compared_at c u k) e
    by_labels i (l ∷ ls) e = cc

    by_step : (o : Option Step) → slice_get u.body.steps (suc k) ≡ o → option_and_then (λ i. option_and_then (jump_on i) (compared_at c u k)) (unlabelled o) ≡ Some t → is_conditional_step (slice_get u.body.steps (suc k)) ≡ true
    by_step None is e = cc
    by_step (Some s) is e = ap is_conditional_step is ∙ by_labels s.instruction s.labels e

compares_it : (i : Instruction) (v : Text × Elementary) (t : Test) → comparison_of i v ≡ Some t → is_comparison i ≡ true
compares_it (Operate (OfComparison kind) o) v t e = refl
compares_it (Operate (OfLogic kind negated) o) v t e = cc
compares_it (Operate (OfArithmetic kind) o) v t e = cc
compares_it (Load negated o) v t e = cc
compares_it (Store kind to) v t e = cc
compares_it Not v t e = cc
compares_it (Defer operator first) v t e = cc
compares_it Evaluate v t e = cc
compares_it (Jump condition label) v t e = cc
compares_it (Return condition) v t e = cc
compares_it (Call condition instance arguments) v t e = cc
compares_it (Invoke function operands) v t e = cc

compares_there : (o : Option Step) (v : Text × Elementary) (t : Test) → comparison_of (instruction_or_return o) v ≡ Some t → is_comparison_step o ≡ true
compares_there None v t e = cc
compares_there (Some s) v t e = compares_it s.instruction v t e

-- the variable of a test is the one that LD loads two places before
record LoadsTwoBefore (c : Config) (u : ProgramUnit) (at : ℕ) (t : Test) : Type 0 where
  place : ℕ
  behind : place + 2 ≡ at
  compares : is_comparison_step (slice_get u.body.steps (place + 1)) ≡ true
  variable : Text × Elementary
  loads : loaded_variable c u (instruction_at u.body place) ≡ Some variable
  name_is : t.name ≡ variable.0

loads_two_before : (c : Config) (u : ProgramUnit) (at : ℕ) (t : Test) → test_at c u at ≡ Some t → LoadsTwoBefore c u at t
loads_two_before c u zero t e = cc
loads_two_before c u (suc zero) t e = let bad : ◌≡◌ {A = Option Test} None (Some t) = tested_of c u 0 t (sym (ap (test_at c u) (next 0)) ∙ e) in cc
loads_two_before c u (suc (suc n)) t e =
    let compared = tested_of c u (suc n) t (ap (test_at c u) (next (suc n)) ∙ e) in
    let l = loads_of c u n t (ap (compared_at c u) (next n) ∙ compared) in
    let o = compares c u (suc n) t compared in
    record { place = n; behind = omega arith; compares = ap (λ k. is_comparison_step (slice_get u.body.steps k)) (next n) ∙ compares_there (slice_get u.body.steps (suc n)) o.variable t o.comparison; variable = l.variable; loads = l.loads; name_is = (variable_of_test l.from l.variable t l.comparison).0 }

loaded_number : (n : Names) (tests : Bool) (i : Instruction) (v : Text × Elementary) → tests ≡ true → IsStepNumbered (record { config = n.config; unit = n.unit }) n.numbers tests i → loaded_variable n.config n.unit i ≡ Some v → (m : ℕ) × (get n.numbers v.0 ≡ Some m)
loaded_number n tests (Load false operand) v so h e = counted_number n (denotation n.config n.unit operand.reference) v e (target_number n operand.reference (h so))
loaded_number n tests (Load true operand) v so h e = absurd (let bad : ◌≡◌ {A = Option (Text × Elementary)} None (Some v) = e in cc)
loaded_number n tests (Store kind to) v so h e = absurd (let bad : ◌≡◌ {A = Option (Text × Elementary)} None (Some v) = e in cc)
loaded_number n tests Not v so h e = absurd (let bad : ◌≡◌ {A = Option (Text × Elementary)} None (Some v) = e in cc)
loaded_number n tests (Operate operator operand) v so h e = absurd (let bad : ◌≡◌ {A = Option (Text × Elementary)} None (Some v) = e in cc)
loaded_number n tests (Defer operator first) v so h e = absurd (let bad : ◌≡◌ {A = Option (Text × Elementary)} None (Some v) = e in cc)
loaded_number n tests Evaluate v so h e = absurd (let bad : ◌≡◌ {A = Option (Text × Elementary)} None (Some v) = e in cc)
loaded_number n tests (Jump condition label) v so h e = absurd (let bad : ◌≡◌ {A = Option (Text × Elementary)} None (Some v) = e in cc)
loaded_number n tests (Return condition) v so h e = absurd (let bad : ◌≡◌ {A = Option (Text × Elementary)} None (Some v) = e in cc)
loaded_number n tests (Call condition instance arguments) v so h e = absurd (let bad : ◌≡◌ {A = Option (Text × Elementary)} None (Some v) = e in cc)
loaded_number n tests (Invoke function operands) v so h e = absurd (let bad : ◌≡◌ {A = Option (Text × Elementary)} None (Some v) = e in cc)

-- a variable that is tested
tested_number : (n : Names) (declared : List Interval) → Setting n declared → (at : ℕ) (t : Test) → test_at n.config n.unit at ≡ Some t → (m : ℕ) × (get n.numbers t.name ≡ Some m)
tested_number n declared s at t e = let k = by_step (slice_get n.unit.body.steps l.place) refl l.loads in (k.0, ap (get n.numbers) l.name_is ∙ k.1)
  where
    l : LoadsTwoBefore n.config n.unit at t
    l = loads_two_before n.config n.unit at t e

    by_step : (o : Option Step) → slice_get n.unit.body.steps l.place ≡ o → loaded_variable n.config n.unit (instruction_or_return (slice_get n.unit.body.steps l.place)) ≡ Some l.variable → (m : ℕ) × (get n.numbers l.variable.0 ≡ Some m)
    by_step None is loads = absurd (let bad : ◌≡◌ {A = Option (Text × Elementary)} None (Some l.variable) = sym (ap (λ o. loaded_variable n.config n.unit (instruction_or_return o)) is) ∙ loads in cc)
    by_step (Some x) is loads =
        loaded_number n (may_test n.unit.body.steps l.place) x.instruction l.variable (both_true l.compares (ap (λ k. is_conditional_step (slice_get n.unit.body.steps k)) l.behind ∙ has_test n.config n.unit at t e)) (s.stores l.place x (slice_get_within n.unit.body.steps l.place x is) is) (sym (ap (λ o. loaded_variable n.config n.unit (instruction_or_return o)) is) ∙ loads)

forward_of : {at to : ℕ} → (at < to) ⊎ (to ≤ at) → (to ≤ at → ⊥) → at < to
forward_of (inl high) never = high
forward_of (inr low) never = absurd (never low)

pub prepared : (n : Names) (declared : List Interval) → Setting n declared → IsPrepared n.config n.unit n declared
prepared n declared s = record {
  row = record {
    long = sym s.count;
    operands = s.are.operands;
    inside = λ q k e. subst (λ m. k < m) (sym s.count) (s.are.inside q k e);
    distinct = s.are.distinct;
    declared = declared_operand n.config s.unbroken n.unit s.among;
  };
  each = λ name. by_number name (get n.numbers name) refl;
  denotes = denotes_fine n.config s.unbroken n.unit s.among;
  units = units_fine n.config s.unbroken;
  ready = λ at x stands. ready_for n (may_test n.unit.body.steps at) x.instruction (s.stores at x (slice_get_within n.unit.body.steps at x stands) stands);
  tested = λ at t e. tested_number n declared s at t e;
  forward = λ at to x label jump there. forward_of (cases_lt at to) (λ low. s.typed 35 x.place (backward_jump refl (backward n.unit at to x label (record { written = s.among; jumps = jump }) there low refl)));
}
  where
    by_number : (name : Text) (o : Option ℕ) → get n.numbers name ≡ o → range_by (declared_range n.config n.unit name) declared o ≡ declared_range n.config n.unit name
    by_number name None e = refl
    by_number name (Some k) e = s.are.ranges name k e

-- INSTRUCTIONS BY THEIR PLACES

pub instruction_is : (n : Names) (steps : List Step) (place : ℕ) (d : Step) → IsPlaceOf n steps place → instruction_at n.unit.body place ≡ (get_or steps place d).instruction
instruction_is n steps place d h = ap instruction_or_return (ap (λ l. slice_get l place) (sym h.same) ∙ slice_get-get_or steps place d h.inside)

pub step_stands : (n : Names) (steps : List Step) (place : ℕ) (s : Step) → IsPlaceOf n steps place → s ≡ get_or steps place s → slice_get n.unit.body.steps place ≡ Some s
step_stands n steps place s h is = ap (λ l. slice_get l place) (sym h.same) ∙ slice_get_read steps (length steps) place s refl h.inside is

-- THE PASS OVER A UNIT

module _ (n : Names) (declared : List Interval) (s : Setting n declared) (first : Facts) (first_is : first ≡ entry declared) (count : ℕ) (count_is : count ≡ length n.unit.body.steps) where
  ahead_of : (total place : ℕ) (o : Option (ℕ × Facts)) → IsAhead total place o → IsAheadOf total place o
  ahead_of total place None h = tt
  ahead_of total place (Some target) h = h

  pub ahead : IsAheadBelow (moves n n.config n.unit) count
  ahead place k m low e =
      ahead_of (count + 1) place m.jump (subst (λ t. IsAhead (t + 1) place m.jump) (sym count_is) (goes_forward n.config n.unit n declared (prepared n declared s) place k m (subst (λ t. place < t) count_is low) e))

  pub from_entry : (t : ℕ) (arrived : Arrived Facts) → passed facts_join (moves n n.config n.unit) first t ≡ Some arrived → went_over n.config n.unit n declared t ≡ Some arrived
  from_entry t arrived e = ap (λ f. passed facts_join (moves n n.config n.unit) f t) (sym first_is) ∙ e

  pub fine : IsFineBelow facts_join (moves n n.config n.unit) (IsFine n) first count
  fine place arrived k low e is =
      let below : place < length n.unit.body.steps = subst (λ t. place < t) count_is low in
      arrives_fine n.config n.unit n declared (prepared n declared s) place arrived (omega arith) (from_entry place arrived e) place k is

  pub judged : (o : Option NumberedFault) → IsPassed facts_join (moves n n.config n.unit) (λ place f r. IsRefusalOf n place f r) first count o → IsJudged n.config n.unit o
  judged None (arrived, e) = accepted n.config n.unit n declared (prepared n declared s) arrived (subst (λ t. went_over n.config n.unit n declared t ≡ Some arrived) count_is (from_entry count arrived e))
  judged (Some r) p =
      let w = first_without n.config n.unit n declared (prepared n declared s) p.place p.arrived (subst (λ t. p.place < t) count_is p.inside) (from_entry p.place p.arrived p.before) p.none in
      let same : w.facts ≡ p.facts = same_some w.facts p.facts (sym w.arrived_is ∙ p.arrived_is) in
      let number = fault_number n p.facts (fine p.place p.arrived p.facts p.inside p.before p.arrived_is) (prepared n declared s).denotes p.reason.step.instruction in
      record {
        at = p.place;
        first = w.first;
        step = p.reason.step;
        stands = p.reason.stands;
        known = shown n p.facts;
        least = least_is (subst (λ f. IsLeastArrived n.config n.unit p.place (shown n f)) same w.least);
        number_is = subst (IsRangeNumber n.config n.unit (shown n p.facts) p.reason.step.instruction) (sym p.reason.number_is) number;
        place_is = p.reason.place_is;
      }
    where
      least_is : IsLeastArrived n.config n.unit p.place (shown n p.facts) → IsLeastAt n.config n.unit p.place (shown n p.facts)
      least_is l = record { annotation = l.annotation; holds = l.holds; stands = l.stands; below = l.below }

  -- the instruction that it answers is the one at which the pass stopped
  pub lacks_at : (r : NumberedFault) (p : IsRefusedAt facts_join (moves n n.config n.unit) (λ place f r. IsRefusalOf n place f r) first count r) → (lacks : LacksRanges n.config n.unit r.number r.place) × (lacks.at ≡ p.place)
  unfolding judged
  lacks_at r p = (judged (Some r) p, refl)

  -- a pass that went over all places, whatever it would say of a refusal
  pub has_ranges : {R : Type 0} (refuses : ℕ → Facts → R → Type 0) (o : Option R) → IsPassed facts_join (moves n n.config n.unit) refuses first count o → is_some o ≡ false → IsJudged n.config n.unit None
  has_ranges refuses None (arrived, e) is = judged None (arrived, e)
  has_ranges refuses (Some r) p is = let bad : true ≡ false = is in cc

pub entry_is : (row declared : List Interval) (ds : List KnownDeferred) → row ≡ declared → ds ≡ [] → facts row None ds ≡ entry declared
entry_is row declared ds e g = ap (λ r. facts r None ds) e ∙ ap (facts declared None) g

pub judged_in : (c : Config) (u : ProgramUnit) (v : InUnit) (n : Names) (numbers : NameMap ℕ) (declared : List Interval) (o : Option NumberedFault) → v.config ≡ c → v.unit ≡ u → n ≡ names_of v numbers declared → IsJudged n.config n.unit o → IsJudged c u o
judged_in c u v n numbers declared o same also is j =
    subst (λ x. IsJudged c x o) also (subst (λ d. IsJudged d v.unit o) same (subst (λ (m : Names). IsJudged m.config m.unit o) is j))

-- ALL UNITS

pub judged_first : (c : Config) → AreJudged c 0 None
judged_first c = record {
  annotated = λ none at u low e. absurd (omega arith);
  least = least_none _ None refl (λ n p h. omega (arith, h.2));
}

-- one unit more
below_next : (c : Config) (bound : ℕ) (u : ProgramUnit) (P : ProgramUnit → Type 0) → slice_get c.units bound ≡ Some u → AllBelow c bound P → P u → AllBelow c (bound + 1) P
below_next c bound u P stands below here at x low e = elim (eqb_tells at bound) [
  | inl same ↦ subst P (same_some u x (sym stands ∙ ap (slice_get c.units) (sym same.1) ∙ e)) here
  | inr other ↦ below at x (omega (arith, other.1)) e
]

both_none : (a b : Option NumberedFault) → earlier_of a b ≡ None → (a ≡ None) × (b ≡ None)
both_none None b e = (refl, e)
both_none (Some x) None e = absurd (let bad : ◌≡◌ {A = Option NumberedFault} (Some x) None = e in cc)
both_none (Some x) (Some y) e = absurd (by_test (is_before y x) e)
  where
    by_test : (t : Bool) → ◌≡◌ {A = Option NumberedFault} (if t then Some y else Some x) None → ⊥
    by_test true e = cc
    by_test false e = cc

judged_least : (c : Config) (u : ProgramUnit) (o : Option NumberedFault) → IsJudged c u o → IsLeast o (LacksRanges c u)
judged_least c u None has = annotated_least c u has
judged_least c u (Some f) lacks = lacked_least c u f lacks

pub judged_next : (c : Config) (at : ℕ) (u : ProgramUnit) (found one new : Option NumberedFault) → slice_get c.units at ≡ Some u → AreJudged c at found → IsJudged c u one → new ≡ earlier_of found one → AreJudged c (at + 1) new
judged_next c at u found one new stands before here is = record {
  annotated = λ none.
      let both = both_none found one (sym is ∙ none) in
      below_next c at u (λ x. (a : Annotation) × IsAnnotated c x a) stands (before.annotated both.0) (subst (IsJudged c u) both.1 here);
  least = least_next (λ at x. LacksRanges c x) c.units at u found one new stands is before.least (judged_least c u one here);
}

-- an item of a list has a number
number_of : (units : List ProgramUnit) (u : ProgramUnit) → Contains units u → (at : ℕ) × (at < length units) × (slice_get units at ≡ Some u)
number_of [] u (k, low, e) = absurd (omega arith)
number_of (x ∷ units) u (zero, low, e) = (0, omega arith, ap Some e)
number_of (x ∷ units) u (suc k, low, e) = let m = number_of units u (k, omega arith, e) in (suc m.0, omega (arith, m.1), m.2)

pub all_annotated : (c : Config) → AreJudged c (length c.units) None → Annotated c
all_annotated c all u among = let k = number_of c.units u among in all.annotated refl k.0 u k.1 k.2

breaks : (c : Config) (n : ℕ) (p : Place) → Below (λ at x. LacksRanges c x) c.units (length c.units) n p → BreaksRanges c n p
breaks c n p (at, u, low, stands, lacks) = lacks_ranges u (contains_at c.units at u stands) lacks

broken : (c : Config) (n : ℕ) (p : Place) → BreaksRanges c n p → Below (λ at x. LacksRanges c x) c.units (length c.units) n p
broken c n p (lacks_ranges u among lacks) = let k = number_of c.units u among in (k.0, u, k.1, k.2, lacks)

-- the earliest fault is the one that is named
pub refused : (c : Config) (f : NumberedFault) (r : Refusal) → AreJudged c (length c.units) (Some f) → r ≡ Fault f.number f.place → IsRefusedBy (BreaksRanges c) r
refused c f r all is =
    let l = least_same (Below (λ at x. LacksRanges c x) c.units (length c.units)) (BreaksRanges c) (Some f) all.least (breaks c) (broken c) in
    subst (IsRefusedBy (BreaksRanges c)) (sym is) (record { broken = l.holds f refl; first = l.first f refl })

pub if_ok : {X E : Type 0} (r : Result X E) (P Q : X → Type 0) → ((x : X) → P x → Q x) → IfOk r P → IfOk r Q
if_ok (Ok x) P Q f p = f x p
if_ok (Err e) P Q f p = tt
