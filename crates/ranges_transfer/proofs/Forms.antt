-- Tests as the code has them are those of the definitions.
use Rattle.std.proofs.Common.{◌≡◌, ℕ, suc, Bool, true, false, ◌&&◌, if◌then◌else◌, List, [], ◌∷◌, Option, Some, None, option_map, option_and_then, refl, sym, ap, ◌∙◌, subst, slice_get, ℤ, pos, negsuc, ◌≤ℤ◌, arith}
use Rattle.std.proofs.lemmas.Int.{ints}
use Rattle.std.specs.Prelude.{int_le}
use Rattle.ranges_interval.specs.declared.Interval.{Interval}
use Rattle.ranges_interval.specs.Interval.{IsEnd}
use Rattle.ranges_interval.specs.Compared.{interval_narrow}
use Rattle.il_syntax.specs.declared.tree.Elementary.{Elementary}
use Rattle.il_syntax.specs.declared.tree.Elementary.TheVariants.{Bool as BoolType, Sint, Int, Dint, Usint, Uint, Udint, Time}
use Rattle.il_syntax.specs.declared.tree.Literal.TheVariants.{Truth, Bare, Whole, Time as Duration}
use Rattle.il_syntax.specs.declared.tree.Reference.{Reference}
use Rattle.il_syntax.specs.declared.tree.Reference.TheVariants.{Literal as OfLiteral, Variable as OfVariable, Element as OfElement, Member as OfMember}
use Rattle.il_syntax.specs.declared.tree.Scalar.{Scalar}
use Rattle.il_syntax.specs.declared.tree.Named.{Named}
use Rattle.il_syntax.specs.declared.tree.Operator.TheVariants.{Logic, Arithmetic, Comparison}
use Rattle.il_syntax.specs.declared.tree.Condition.TheVariants.{Always, WhenTrue, WhenFalse}
use Rattle.il_syntax.specs.declared.tree.Instruction.{Instruction}
use Rattle.il_syntax.specs.declared.tree.Instruction.TheVariants.{Load, Store, Not, Operate, Defer, Evaluate, Jump, Return, Call, Invoke}
use Rattle.il_syntax.specs.declared.tree.Step.{Step}
use Rattle.il_syntax.specs.ElementaryTypes.{limits, is_whole, is_counted, is_same_type}
use Rattle.il_statics.specs.Declarations.{is_within_any}
use Rattle.il_statics.specs.Types.{label_place}
use Rattle.base_maps.specs.NameMap.{Text, get}
use Rattle.il_semantics.specs.Meaning.{Denotation, Constant, Direct, Numbered, Indexed, Inside, Unknown}
use Rattle.il_semantics.specs.Step.{instruction_at, instruction_or_return}
use Rattle.il_semantics.specs.Tests.{Test, operand_number, counted_variable, loaded_variable, comparison_of, jump_on, if_unlabelled, unlabelled, compared_at, test_at}
use Rattle.il_semantics.proofs.Testing.{jumps_on}
use Rattle.il_semantics.specs.Annotation.{range, declared_range}
use Rattle.ranges_laws.specs.declared.facts.Facts.{Facts}
use Rattle.ranges_laws.specs.Facts.{Names, range_by, row_at, put_by, facts, IsFine}
use Rattle.ranges_laws.specs.Found.{provided}
use Rattle.ranges_laws.specs.Pass.{Moves}
use Rattle.ranges_laws.specs.Steps.{has_condition, is_bare, narrowed_row_by, narrowed_row, sided, landing, testing_to, moves_of_test, moves_of, moves_by, moves}
use Rattle.ranges_laws.proofs.Rows.{row_operand}
use Rattle.ranges_transfer.specs.declared.testing.VariableTest.{VariableTest}
use Rattle.ranges_transfer.specs.Meant.{resolved, range_in}
use Rattle.ranges_transfer.specs.Scopes.{denoted}
use Rattle.ranges_transfer.specs.Testing.{counted_in, loaded_in, comparison_in, is_free, is_conditional_jump, variable_test, test_in, IsFormOf, AreForms, IsFineTest, narrowed_in_by, narrowed_in, sided_in, landing_in, testing_in, test_jump_in}
use Rattle.ranges_transfer.proofs.Resolved.{IsTyped, typed}

-- NUMBERS

both : (a b : Bool) → (a && b) ≡ true → (a ≡ true) × (b ≡ true)
both true b e = (refl, e)
both false b e = cc

within_is : (low high z : ℤ) → (int_le low z && int_le z high) ≡ true → (low ≤ℤ z) × (z ≤ℤ high)
within_is low high z e = let b = both (int_le low z) (int_le z high) e in let p = b.0 in let q = b.1 in (omega (arith, ints), omega (arith, ints))

-- a value of a type is a DINT or a UDINT
value_ends : (e : Elementary) (z : ℤ) → is_within_any (limits e) z ≡ true → IsEnd z
value_ends BoolType z h = cc
value_ends Sint z h = let b = within_is (negsuc 127) (pos 127) z h in let p = b.0 in let q = b.1 in (omega (arith, ints), omega (arith, ints))
value_ends Int z h = let b = within_is (negsuc 32767) (pos 32767) z h in let p = b.0 in let q = b.1 in (omega (arith, ints), omega (arith, ints))
value_ends Dint z h = let b = within_is (negsuc 2147483647) (pos 2147483647) z h in let p = b.0 in let q = b.1 in (omega (arith, ints), omega (arith, ints))
value_ends Usint z h = let b = within_is (pos 0) (pos 255) z h in let p = b.0 in let q = b.1 in (omega (arith, ints), omega (arith, ints))
value_ends Uint z h = let b = within_is (pos 0) (pos 65535) z h in let p = b.0 in let q = b.1 in (omega (arith, ints), omega (arith, ints))
value_ends Udint z h = let b = within_is (pos 0) (pos 4294967295) z h in let p = b.0 in let q = b.1 in (omega (arith, ints), omega (arith, ints))
value_ends Time z h = let b = within_is (pos 0) (pos 2147483647) z h in let p = b.0 in let q = b.1 in (omega (arith, ints), omega (arith, ints))

if_value_ends : (b c : Bool) (e : Elementary) (z n : ℤ) → is_within_any (limits e) z ≡ c → (if b then if c then Some z else None else None) ≡ Some n → IsEnd n
if_value_ends true true e z n t h = subst IsEnd (let same : z ≡ n = cc in same) (value_ends e z t)
if_value_ends true false e z n t h = cc
if_value_ends false c e z n t h = cc

number_ends : (e : Elementary) (r : Reference) (n : ℤ) → operand_number e r ≡ Some n → IsEnd n
number_ends e (OfLiteral (Truth b)) n h = cc
number_ends e (OfLiteral (Bare z)) n h = if_value_ends (is_whole e) (is_within_any (limits e) z) e z n refl h
number_ends e (OfLiteral (Whole written z)) n h = if_value_ends (is_same_type written e) (is_within_any (limits e) z) e z n refl h
number_ends e (OfLiteral (Duration z)) n h = if_value_ends (is_same_type Time e) (is_within_any (limits e) z) e z n refl h
number_ends e (OfVariable name) n h = cc
number_ends e (OfElement name index) n h = cc
number_ends e (OfMember name word) n h = cc

-- THREE STEPS

-- a comparison of a variable
compared_form : (n : Names) (name : Text) (s : Scalar) → declared_range n.config n.unit name ≡ range s → (i : Instruction) → AreForms n (comparison_of i (name, s.elementary)) (option_map (variable_test (s, get n.numbers name)) (comparison_in s.elementary i))
compared_form n name s typed_as (Operate (Comparison kind) o) = by_number (operand_number s.elementary o.reference) refl
  where
    by_number : (z : Option ℤ) → operand_number s.elementary o.reference ≡ z
        → AreForms n (option_map (λ z. record { name = name; elementary = s.elementary; comparison = kind; number = z }) z) (option_map (variable_test (s, get n.numbers name)) (option_map (λ z. (kind, z)) z))
    by_number None e = tt
    by_number (Some z) e = record { range_is = typed_as; number_is = refl; comparison_is = refl; limit_is = refl; ends = number_ends s.elementary o.reference z e }
compared_form n name s typed_as (Operate (Logic kind negated) o) = tt
compared_form n name s typed_as (Operate (Arithmetic kind) o) = tt
compared_form n name s typed_as (Load negated o) = tt
compared_form n name s typed_as (Store kind to) = tt
compared_form n name s typed_as Not = tt
compared_form n name s typed_as (Defer operator first) = tt
compared_form n name s typed_as Evaluate = tt
compared_form n name s typed_as (Jump condition label) = tt
compared_form n name s typed_as (Return condition) = tt
compared_form n name s typed_as (Call condition instance arguments) = tt
compared_form n name s typed_as (Invoke function operands) = tt

-- a comparison after what is denoted
denoted_form : (n : Names) (d : Denotation) → IsTyped n d → (i : Instruction) → AreForms n (option_and_then (comparison_of i) (counted_variable d)) (option_and_then (λ (v : Scalar × Option ℕ). option_map (variable_test v) (comparison_in v.0.elementary i)) (counted_in (resolved n d)))
denoted_form n (Constant l) t i = tt
denoted_form n (Direct name s) t i = by_test (is_counted s.elementary)
  where
    by_test : (b : Bool) → AreForms n (option_and_then (comparison_of i) (if b then Some (name, s.elementary) else None)) (option_and_then (λ (v : Scalar × Option ℕ). option_map (variable_test v) (comparison_in v.0.elementary i)) (if b then Some (s, get n.numbers name) else None))
    by_test true = compared_form n name s t i
    by_test false = tt
denoted_form n (Numbered name bounds element z) t i = tt
denoted_form n (Indexed name bounds element variable s) t i = tt
denoted_form n (Inside instance word s) t i = tt
denoted_form n Unknown t i = tt

-- a comparison after an instruction
loaded_form : (n : Names) (load i : Instruction) → AreForms n (option_and_then (comparison_of i) (loaded_variable n.config n.unit load)) (option_and_then (λ (v : Scalar × Option ℕ). option_map (variable_test v) (comparison_in v.0.elementary i)) (loaded_in n load))
loaded_form n (Load false o) i = denoted_form n (denoted n o.reference) (typed n o.reference) i
loaded_form n (Load true o) i = tt
loaded_form n (Store kind to) i = tt
loaded_form n Not i = tt
loaded_form n (Operate operator o) i = tt
loaded_form n (Defer operator first) i = tt
loaded_form n Evaluate i = tt
loaded_form n (Jump condition label) i = tt
loaded_form n (Return condition) i = tt
loaded_form n (Call condition instance arguments) i = tt
loaded_form n (Invoke function operands) i = tt

-- a jump after it, and the labels
no_jump : (o : Option Test) (i : Instruction) → is_conditional_jump i ≡ false → option_and_then (jump_on i) o ≡ None
no_jump None i e = refl
no_jump (Some t) (Jump WhenTrue label) e = cc
no_jump (Some t) (Jump WhenFalse label) e = cc
no_jump (Some t) (Jump Always label) e = refl
no_jump (Some t) (Load negated o) e = refl
no_jump (Some t) (Store kind to) e = refl
no_jump (Some t) Not e = refl
no_jump (Some t) (Operate operator o) e = refl
no_jump (Some t) (Defer operator first) e = refl
no_jump (Some t) Evaluate e = refl
no_jump (Some t) (Return condition) e = refl
no_jump (Some t) (Call condition instance arguments) e = refl
no_jump (Some t) (Invoke function operands) e = refl

a_jump : (o : Option Test) (i : Instruction) → is_conditional_jump i ≡ true → option_and_then (jump_on i) o ≡ o
a_jump None i e = refl
a_jump (Some t) (Jump WhenTrue label) e = refl
a_jump (Some t) (Jump WhenFalse label) e = refl
a_jump (Some t) (Jump Always label) e = cc
a_jump (Some t) (Load negated o) e = cc
a_jump (Some t) (Store kind to) e = cc
a_jump (Some t) Not e = cc
a_jump (Some t) (Operate operator o) e = cc
a_jump (Some t) (Defer operator first) e = cc
a_jump (Some t) Evaluate e = cc
a_jump (Some t) (Return condition) e = cc
a_jump (Some t) (Call condition instance arguments) e = cc
a_jump (Some t) (Invoke function operands) e = cc

free_is : (labels : List Named) (i : Instruction) → is_free labels ≡ true → if_unlabelled labels i ≡ Some i
free_is [] i e = refl
free_is (l ∷ ls) i e = cc

not_free : (labels : List Named) (i : Instruction) → is_free labels ≡ false → if_unlabelled labels i ≡ None
not_free [] i e = cc
not_free (l ∷ ls) i e = refl

none_on : {A B : Type 0} (o : Option A) → option_and_then {U = B} (λ x. None) o ≡ None
none_on None = refl
none_on (Some x) = refl

-- the test of three steps
abbrev test_of : Names → (load comparison jump : Step) → Option Test
test_of n load comparison jump =
    option_and_then (λ i. option_and_then (jump_on i) (option_and_then (λ j. option_and_then (comparison_of j) (loaded_variable n.config n.unit load.instruction)) (if_unlabelled comparison.labels comparison.instruction))) (if_unlabelled jump.labels jump.instruction)

no_form : (n : Names) (o : Option Test) (k : Option VariableTest) → o ≡ None → k ≡ None → AreForms n o k
no_form n o k p q = subst (λ x. AreForms n x k) (sym p) (subst (AreForms n None) (sym q) tt)

steps_form : (n : Names) (load comparison jump : Step) → AreForms n (test_of n load comparison jump) (test_in n load comparison jump)
steps_form n load comparison jump = by_tests (is_conditional_jump jump.instruction) (is_free jump.labels) (is_free comparison.labels) refl refl refl
  where
    compared : Option VariableTest
    compared = option_and_then (λ (v : Scalar × Option ℕ). option_map (variable_test v) (comparison_in v.0.elementary comparison.instruction)) (loaded_in n load.instruction)

    inner : Option Test
    inner = option_and_then (λ j. option_and_then (comparison_of j) (loaded_variable n.config n.unit load.instruction)) (if_unlabelled comparison.labels comparison.instruction)

    by_tests : (a b c : Bool) → is_conditional_jump jump.instruction ≡ a → is_free jump.labels ≡ b → is_free comparison.labels ≡ c → AreForms n (test_of n load comparison jump) (if (a && b) && c then compared else None)
    by_tests true true true p q r =
        subst (λ o. AreForms n (option_and_then (λ i. option_and_then (jump_on i) inner) o) compared) (sym (free_is jump.labels jump.instruction q))
        (subst (λ o. AreForms n o compared) (sym (a_jump inner jump.instruction p))
        (subst (λ o. AreForms n (option_and_then (λ j. option_and_then (comparison_of j) (loaded_variable n.config n.unit load.instruction)) o) compared) (sym (free_is comparison.labels comparison.instruction r))
        (loaded_form n load.instruction comparison.instruction)))
    by_tests true true false p q r =
        no_form n (test_of n load comparison jump) None (
        ap (λ o. option_and_then (λ i. option_and_then (jump_on i) inner) o) (free_is jump.labels jump.instruction q)
        ∙ a_jump inner jump.instruction p
        ∙ ap (λ o. option_and_then (λ j. option_and_then (comparison_of j) (loaded_variable n.config n.unit load.instruction)) o) (not_free comparison.labels comparison.instruction r)
        ) refl
    by_tests true false c p q r = no_form n (test_of n load comparison jump) None (ap (λ o. option_and_then (λ i. option_and_then (jump_on i) inner) o) (not_free jump.labels jump.instruction q)) refl
    by_tests false b c p q r = no_form n (test_of n load comparison jump) None (by_label (is_free jump.labels) refl) refl
      where
        by_label : (b : Bool) → is_free jump.labels ≡ b → test_of n load comparison jump ≡ None
        by_label true q = ap (λ o. option_and_then (λ i. option_and_then (jump_on i) inner) o) (free_is jump.labels jump.instruction q) ∙ no_jump inner jump.instruction p
        by_label false q = ap (λ o. option_and_then (λ i. option_and_then (jump_on i) inner) o) (not_free jump.labels jump.instruction q)

-- the test at a place, by its step and the two before it
pub place_form : (n : Names) (place : ℕ) (load comparison jump : Step) → slice_get n.unit.body.steps place ≡ Some load → slice_get n.unit.body.steps (suc place) ≡ Some comparison → slice_get n.unit.body.steps (suc (suc place)) ≡ Some jump
    → AreForms n (test_at n.config n.unit (suc (suc place))) (test_in n load comparison jump)
place_form n place load comparison jump a b c =
    subst (λ o. AreForms n o (test_in n load comparison jump)) (sym (
    ap (λ o. option_and_then (λ i. option_and_then (jump_on i) (compared_at n.config n.unit (suc place))) (unlabelled o)) c
    ∙ ap (λ o. option_and_then (λ i. option_and_then (jump_on i) (option_and_then (λ j. option_and_then (comparison_of j) (loaded_variable n.config n.unit (instruction_at n.unit.body place))) (unlabelled o))) (if_unlabelled jump.labels jump.instruction)) b
    ∙ ap (λ o. option_and_then (λ i. option_and_then (jump_on i) (option_and_then (λ j. option_and_then (comparison_of j) (loaded_variable n.config n.unit (instruction_or_return o))) (if_unlabelled comparison.labels comparison.instruction))) (if_unlabelled jump.labels jump.instruction)) a
    )) (steps_form n load comparison jump)

-- SIDES

module _ (n : Names) (t : Test) (k : VariableTest) (form : IsFormOf n t k) where
  same_range : (row : List Interval) → range_in row k.scalar k.number ≡ row_at n row t.name
  same_range row = ap (range_by (range k.scalar) row) form.number_is ∙ ap (λ o. range_by o row (get n.numbers t.name)) (sym form.range_is)

  -- its range is what Interval::narrow takes
  pub fine_test : (f : Facts) → IsFine n f → IsFineTest f.row k
  fine_test f fine = record { ends = form.ends; operand = λ i e. row_operand n f.row t.name i fine.row (sym (same_range f.row) ∙ e) }

  narrowed_by_same : (row : List Interval) (holds : Bool) (o : Option Interval) → narrowed_in_by k holds o row ≡ narrowed_row_by n t holds o row
  narrowed_by_same row holds None = refl
  narrowed_by_same row holds (Some i) =
      ap (λ m. option_map (put_by row m) (interval_narrow k.comparison holds i k.limit)) form.number_is
      ∙ ap (λ q. option_map (put_by row (get n.numbers t.name)) (interval_narrow q holds i k.limit)) form.comparison_is
      ∙ ap (λ z. option_map (put_by row (get n.numbers t.name)) (interval_narrow t.comparison holds i z)) form.limit_is

  narrowed_same : (row : List Interval) (holds : Bool) → narrowed_in k holds row ≡ narrowed_row n t holds row
  narrowed_same row holds = ap (λ o. narrowed_in_by k holds o row) (same_range row) ∙ narrowed_by_same row holds (row_at n row t.name)

  sided_same : (f : Facts) (holds : Bool) → sided_in k holds f ≡ sided n t holds f
  sided_same f holds = ap (option_map (λ row. facts row f.result f.deferred)) (narrowed_same f.row holds)

  landing_true : (at : Option ℕ) (o : Option Facts) → landing_in at o ≡ landing WhenTrue at o
  landing_true at None = refl
  landing_true None (Some f) = refl
  landing_true (Some to) (Some f) = refl

  landing_false : (at : Option ℕ) (o : Option Facts) → landing_in at o ≡ landing WhenFalse at o
  landing_false at None = refl
  landing_false None (Some f) = refl
  landing_false (Some to) (Some f) = refl

  made : Option Facts → Option (ℕ × Facts) → Moves Facts
  made next jump = record { next = next; jump = jump }

  testing_true : (f : Facts) (at : Option ℕ) → testing_in k true f at ≡ testing_to n t WhenTrue f at
  unfolding made
  testing_true f at =
      ap (λ o. option_map (made (sided_in k false f)) o) (landing_true at (sided_in k true f) ∙ ap (landing WhenTrue at) (sided_same f true))
      ∙ ap (λ o. option_map (made o) (landing WhenTrue at (sided n t true f))) (sided_same f false)

  testing_false : (f : Facts) (at : Option ℕ) → testing_in k false f at ≡ testing_to n t WhenFalse f at
  unfolding made
  testing_false f at =
      ap (λ o. option_map (made (sided_in k true f)) o) (landing_false at (sided_in k false f) ∙ ap (landing WhenFalse at) (sided_same f false))
      ∙ ap (λ o. option_map (made o) (landing WhenFalse at (sided n t false f))) (sided_same f true)

  -- what the jump of the test hands on
  jump_same : (f : Facts) (before : Test) (i : Instruction) → jump_on i before ≡ Some t → test_jump_in n k f i ≡ moves_of_test n n.config n.unit t f i
  jump_same f before (Jump WhenTrue label) e = ap (λ o. provided (is_bare f.deferred) (provided (has_condition WhenTrue f.result) o)) (testing_true f (label_place n.unit.body label.name))
  jump_same f before (Jump WhenFalse label) e = ap (λ o. provided (is_bare f.deferred) (provided (has_condition WhenFalse f.result) o)) (testing_false f (label_place n.unit.body label.name))
  jump_same f before (Jump Always label) e = cc
  jump_same f before (Load negated o) e = cc
  jump_same f before (Store kind to) e = cc
  jump_same f before Not e = cc
  jump_same f before (Operate operator o) e = cc
  jump_same f before (Defer operator first) e = cc
  jump_same f before Evaluate e = cc
  jump_same f before (Return condition) e = cc
  jump_same f before (Call condition instance arguments) e = cc
  jump_same f before (Invoke function operands) e = cc

-- PLACES

-- a place with a test
pub record Tested (n : Names) (place : ℕ) (k : VariableTest) : Type 0 where
  pub test : Test
  pub is : test_at n.config n.unit place ≡ Some test
  pub form : IsFormOf n test k

pub tested_form : (n : Names) (place : ℕ) (k : VariableTest) (o : Option VariableTest) → AreForms n (test_at n.config n.unit place) o → o ≡ Some k → Tested n place k
tested_form n place k o forms e = by_test (test_at n.config n.unit place) refl (subst (AreForms n (test_at n.config n.unit place)) e forms)
  where
    by_test : (t : Option Test) → test_at n.config n.unit place ≡ t → AreForms n t (Some k) → Tested n place k
    by_test None e f = absurd f
    by_test (Some t) e f = record { test = t; is = e; form = f }

pub untested_form : (n : Names) (place : ℕ) (o : Option VariableTest) → AreForms n (test_at n.config n.unit place) o → o ≡ None → test_at n.config n.unit place ≡ None
untested_form n place o forms e = by_test (test_at n.config n.unit place) refl (subst (AreForms n (test_at n.config n.unit place)) e forms)
  where
    by_test : (t : Option Test) → test_at n.config n.unit place ≡ t → AreForms n t None → test_at n.config n.unit place ≡ None
    by_test None e f = e
    by_test (Some t) e f = absurd f

pub tested_moves : (n : Names) (place : ℕ) (k : VariableTest) (f : Facts) (i : Instruction) → instruction_at n.unit.body place ≡ i → Tested n place k → test_jump_in n k f i ≡ moves n n.config n.unit place f
tested_moves n place k f i is t =
    let h = jumps_on n.config n.unit place t.test t.is in
    jump_same n t.test k t.form f h.before i (ap (λ x. jump_on x h.before) (sym is) ∙ h.jumps)
    ∙ ap (λ x. moves_by n n.config n.unit x f i) (sym t.is) ∙ ap (λ x. moves_by n n.config n.unit (test_at n.config n.unit place) f x) (sym is)

pub untested_moves : (n : Names) (place : ℕ) (f : Facts) (i : Instruction) → instruction_at n.unit.body place ≡ i → test_at n.config n.unit place ≡ None → moves_of n n.config n.unit f i ≡ moves n n.config n.unit place f
untested_moves n place f i is e = ap (λ x. moves_by n n.config n.unit x f i) (sym e) ∙ ap (λ x. moves_by n n.config n.unit (test_at n.config n.unit place) f x) (sym is)
