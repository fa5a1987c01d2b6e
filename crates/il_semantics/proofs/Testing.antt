-- Where tests are, and what they are.
use Rattle.std.proofs.Common.{◌≡◌, ℕ, zero, suc, ◌+◌, List, [], ◌∷◌, refl, sym, ap, ◌∙◌, Some, None, Option, subst, ℤ, arith, slice_get, true}
use Rattle.std.specs.Prelude.{option_map, option_and_then}
use Rattle.il_syntax.specs.declared.tree.Config.{Config}
use Rattle.il_syntax.specs.declared.tree.Unit.{Unit as ProgramUnit}
use Rattle.il_syntax.specs.declared.tree.Elementary.{Elementary}
use Rattle.il_syntax.specs.declared.tree.Body.{Body}
use Rattle.il_syntax.specs.declared.tree.Step.{Step}
use Rattle.il_syntax.specs.declared.tree.Named.{Named}
use Rattle.il_syntax.specs.declared.tree.Operand.{Operand}
use Rattle.il_syntax.specs.declared.tree.Operator.{Operator}
use Rattle.il_syntax.specs.declared.tree.Operator.TheVariants.{Logic, Arithmetic, Comparison}
use Rattle.il_syntax.specs.declared.tree.Condition.TheVariants.{Always, WhenTrue, WhenFalse}
use Rattle.il_syntax.specs.declared.tree.Instruction.{Instruction}
use Rattle.il_syntax.specs.declared.tree.Instruction.TheVariants.{Load, Store, Not, Operate, Defer, Evaluate, Jump, Return, Call, Invoke}
use Rattle.il_syntax.specs.declared.tree.Literal.{Literal}
use Rattle.il_syntax.specs.declared.tree.Reference.{Reference}
use Rattle.il_syntax.specs.declared.tree.Reference.TheVariants.{Literal as LiteralReference, Variable as VariableReference, Element, Member}
use Rattle.il_syntax.specs.declared.tree.Comparison.{Comparison as ComparisonKind}
use Rattle.il_syntax.specs.declared.tree.Subrange.{Subrange}
use Rattle.il_syntax.specs.declared.tree.Scalar.{Scalar}
use Rattle.ranges_interval.specs.declared.Interval.{Interval}
use Rattle.il_syntax.specs.declared.tree.Elementary.TheVariants.{Bool as BoolType, Sint, Int, Dint, Usint, Uint, Udint, Time}
use Rattle.il_syntax.specs.ElementaryTypes.{limits, is_counted}
use Rattle.il_statics.specs.Names.{or_else}
use Rattle.il_semantics.specs.Annotation.{interval, range}
use Rattle.base_maps.specs.NameMap.{Text}
use Rattle.il_semantics.specs.Step.{instruction_at, instruction_or_return}
use Rattle.il_semantics.specs.Tests.{Test, literal_number, operand_number, loaded_variable, comparison_of, jump_on, if_unlabelled, unlabelled, compared_at, test_at}

-- PLACES

-- what an option has, where a step on it succeeded
pub record Had {A B : Type 0} (f : A → Option B) (o : Option A) (y : B) : Type 0 where
  pub from : A
  pub was : o ≡ Some from
  pub gives : f from ≡ Some y

pub had : {A B : Type 0} (f : A → Option B) (o : Option A) (y : B) → option_and_then f o ≡ Some y → Had f o y
had f None y e = cc
had f (Some x) y e = record { from = x; was = refl; gives = e }

pub nothing_on : {A B : Type 0} (f : A → Option B) (o : Option A) → ((x : A) → f x ≡ None) → option_and_then f o ≡ None
nothing_on f None h = refl
nothing_on f (Some x) h = h x

pub on_none : {A B : Type 0} (f : A → Option B) (o : Option A) → o ≡ None → option_and_then f o ≡ None
on_none f None e = refl
on_none f (Some x) e = cc

-- an instruction without a label is that of its place
pub unlabelled_is : (body : Body) (place : ℕ) (i : Instruction) → unlabelled (slice_get body.steps place) ≡ Some i → instruction_at body place ≡ i
unlabelled_is body place i e = by_step (slice_get body.steps place) e
  where
    by_labels : (labels : List Named) (j : Instruction) → if_unlabelled labels j ≡ Some i → j ≡ i
    by_labels [] j e = cc
    by_labels (l ∷ ls) j e = cc

    by_step : (o : Option Step) → unlabelled o ≡ Some i → instruction_or_return o ≡ i
    by_step None e = cc
    by_step (Some s) e = by_labels s.labels s.instruction e

pub next : (place : ℕ) → place + 1 ≡ suc place
next place = omega arith

-- no test after what is no LD of a variable
pub compared_behind : (c : Config) (u : ProgramUnit) (place : ℕ) → loaded_variable c u (instruction_at u.body place) ≡ None → compared_at c u (place + 1) ≡ None
compared_behind c u place e = ap (compared_at c u) (next place) ∙ nothing_on (λ i. option_and_then (comparison_of i) (loaded_variable c u (instruction_at u.body place))) (unlabelled (slice_get u.body.steps (suc place))) (λ i. on_none (comparison_of i) (loaded_variable c u (instruction_at u.body place)) e)

-- nor after what is none of its comparisons
pub tested_behind : (c : Config) (u : ProgramUnit) (place : ℕ) → compared_at c u place ≡ None → test_at c u (place + 1) ≡ None
tested_behind c u place e = ap (test_at c u) (next place) ∙ nothing_on (λ i. option_and_then (jump_on i) (compared_at c u place)) (unlabelled (slice_get u.body.steps (suc place))) (λ i. on_none (jump_on i) (compared_at c u place) e)

-- a comparison that is at a place, after the LD of its variable
pub record Compares (c : Config) (u : ProgramUnit) (place : ℕ) (t : Test) : Type 0 where
  pub variable : Text × Elementary
  pub comparison : comparison_of (instruction_at u.body place) variable ≡ Some t

pub compares : (c : Config) (u : ProgramUnit) (place : ℕ) (t : Test) → compared_at c u place ≡ Some t → Compares c u place t
compares c u zero t e = cc
compares c u (suc n) t e =
    let a = had (λ i. option_and_then (comparison_of i) (loaded_variable c u (instruction_at u.body n))) (unlabelled (slice_get u.body.steps (suc n))) t e in
    let b = had (comparison_of a.from) (loaded_variable c u (instruction_at u.body n)) t a.gives in
    record { variable = b.from; comparison = ap (λ i. comparison_of i b.from) (unlabelled_is u.body (suc n) a.from a.was) ∙ b.gives }

-- the test after an LD is one of its variable
pub record Loads (c : Config) (u : ProgramUnit) (place : ℕ) (t : Test) : Type 0 where
  pub from : Instruction
  pub variable : Text × Elementary
  pub loads : loaded_variable c u (instruction_at u.body place) ≡ Some variable
  pub comparison : comparison_of from variable ≡ Some t

pub loads_of : (c : Config) (u : ProgramUnit) (place : ℕ) (t : Test) → compared_at c u (place + 1) ≡ Some t → Loads c u place t
loads_of c u place t e =
    let a = had (λ i. option_and_then (comparison_of i) (loaded_variable c u (instruction_at u.body place))) (unlabelled (slice_get u.body.steps (suc place))) t (sym (ap (compared_at c u) (next place)) ∙ e) in
    let b = had (comparison_of a.from) (loaded_variable c u (instruction_at u.body place)) t a.gives in
    record { from = a.from; variable = b.from; loads = b.was; comparison = b.gives }

-- the jump of a test that is at a place
pub record JumpsOn (c : Config) (u : ProgramUnit) (place : ℕ) (t : Test) : Type 0 where
  pub before : Test
  pub jumps : jump_on (instruction_at u.body place) before ≡ Some t

pub jumps_on : (c : Config) (u : ProgramUnit) (place : ℕ) (t : Test) → test_at c u place ≡ Some t → JumpsOn c u place t
jumps_on c u zero t e = cc
jumps_on c u (suc n) t e =
    let a = had (λ i. option_and_then (jump_on i) (compared_at c u n)) (unlabelled (slice_get u.body.steps (suc n))) t e in
    let b = had (jump_on a.from) (compared_at c u n) t a.gives in
    record { before = b.from; jumps = ap (λ i. jump_on i b.from) (unlabelled_is u.body (suc n) a.from a.was) ∙ b.gives }

-- a jump keeps the test
pub same_jump : (i : Instruction) (s t : Test) → jump_on i s ≡ Some t → s ≡ t
same_jump (Jump WhenTrue label) s t e = cc
same_jump (Jump WhenFalse label) s t e = cc
same_jump (Jump Always label) s t e = cc
same_jump (Load negated o) s t e = cc
same_jump (Store kind to) s t e = cc
same_jump Not s t e = cc
same_jump (Operate operator o) s t e = cc
same_jump (Defer operator first) s t e = cc
same_jump Evaluate s t e = cc
same_jump (Return condition) s t e = cc
same_jump (Call condition instance arguments) s t e = cc
same_jump (Invoke function operands) s t e = cc

-- the test after a comparison is that comparison's
pub tested_of : (c : Config) (u : ProgramUnit) (place : ℕ) (t : Test) → test_at c u (place + 1) ≡ Some t → compared_at c u place ≡ Some t
tested_of c u place t e =
    let a = had (λ i. option_and_then (jump_on i) (compared_at c u place)) (unlabelled (slice_get u.body.steps (suc place))) t (sym (ap (test_at c u) (next place)) ∙ e) in
    let b = had (jump_on a.from) (compared_at c u place) t a.gives in
    b.was ∙ ap Some (same_jump a.from b.from t b.gives)

-- a jump without a condition ends no test
pub tests_conditional : (c : Config) (u : ProgramUnit) (place : ℕ) (label : Named) (t : Test) → instruction_at u.body place ≡ Jump Always label → test_at c u place ≡ Some t → ⊥
tests_conditional c u place label t is e = let h = jumps_on c u place t e in let bad : jump_on (Jump Always label) h.before ≡ Some t = ap (λ j. jump_on j h.before) (sym is) ∙ h.jumps in cc

-- WHAT A TEST IS

-- a test's comparison
pub record IsComparison (t : Test) (v : Text × Elementary) (operator : Operator) (o : Operand) : Type 0 where
  pub literal : Literal
  pub operator_is : operator ≡ Comparison t.comparison
  pub reference_is : o.reference ≡ LiteralReference literal
  pub number_is : literal_number t.elementary literal ≡ Some t.number
  pub name_is : t.name ≡ v.0
  pub elementary_is : t.elementary ≡ v.1

abbrev pub test_by : Text × Elementary → ComparisonKind → ℤ → Test
test_by v kind z = record { name = v.0; elementary = v.1; comparison = kind; number = z }

pub is_comparison : (t : Test) (v : Text × Elementary) (operator : Operator) (o : Operand) → comparison_of (Operate operator o) v ≡ Some t → IsComparison t v operator o
is_comparison t v (Logic kind negated) o e = cc
is_comparison t v (Arithmetic kind) o e = cc
is_comparison t v (Comparison kind) o e = by_reference o.reference refl e
  where
    by_number : (l : Literal) → o.reference ≡ LiteralReference l → (n : Option ℤ) → literal_number v.1 l ≡ n → option_map (test_by v kind) n ≡ Some t → IsComparison t v (Comparison kind) o
    by_number l r None is e = cc
    by_number l r (Some z) is e =
        let same : test_by v kind z ≡ t = cc in
        record {
          literal = l;
          operator_is = ap (λ (x : Test). Comparison x.comparison) same;
          reference_is = r;
          number_is = subst (λ (x : Test). literal_number x.elementary l ≡ Some x.number) same is;
          name_is = ap (λ (x : Test). x.name) (sym same);
          elementary_is = ap (λ (x : Test). x.elementary) (sym same);
        }

    by_reference : (r : Reference) → o.reference ≡ r → option_map (test_by v kind) (operand_number v.1 r) ≡ Some t → IsComparison t v (Comparison kind) o
    by_reference (LiteralReference l) is e = by_number l is (literal_number v.1 l) refl e
    by_reference (VariableReference name) is e = cc
    by_reference (Element name index) is e = cc
    by_reference (Member name word) is e = cc

-- a comparison is an operator's
pub variable_of_test : (i : Instruction) (v : Text × Elementary) (t : Test) → comparison_of i v ≡ Some t → (t.name ≡ v.0) × (t.elementary ≡ v.1)
variable_of_test (Operate operator o) v t e = let h = is_comparison t v operator o e in (h.name_is, h.elementary_is)
variable_of_test (Load negated o) v t e = cc
variable_of_test (Store kind to) v t e = cc
variable_of_test Not v t e = cc
variable_of_test (Defer operator first) v t e = cc
variable_of_test Evaluate v t e = cc
variable_of_test (Jump condition label) v t e = cc
variable_of_test (Return condition) v t e = cc
variable_of_test (Call condition instance arguments) v t e = cc
variable_of_test (Invoke function operands) v t e = cc

-- WHAT IS TESTED

-- a scalar of an integer type or of TIME has a range
pub counted_range : (s : Scalar) → is_counted s.elementary ≡ true → (j : Interval) × (range s ≡ Some j)
counted_range s e = by_subrange s.subrange refl
  where
    by_type : (t : Elementary) → is_counted t ≡ true → (j : Interval) × (option_map interval (limits t) ≡ Some j)
    by_type BoolType e = cc
    by_type Sint e = (_, refl)
    by_type Int e = (_, refl)
    by_type Dint e = (_, refl)
    by_type Usint e = (_, refl)
    by_type Uint e = (_, refl)
    by_type Udint e = (_, refl)
    by_type Time e = (_, refl)

    by_subrange : (o : Option Subrange) → s.subrange ≡ o → (j : Interval) × (range s ≡ Some j)
    by_subrange None g = let h = by_type s.elementary e in (h.0, ap (λ o. option_map interval (or_else o (limits s.elementary))) g ∙ h.1)
    by_subrange (Some r) g = (interval r, ap (λ o. option_map interval (or_else o (limits s.elementary))) g)

-- the variable of a test is the one that LD loads two places before
pub record LoadsBefore (c : Config) (u : ProgramUnit) (at : ℕ) (t : Test) : Type 0 where
  pub place : ℕ
  pub variable : Text × Elementary
  pub loads : loaded_variable c u (instruction_at u.body place) ≡ Some variable
  pub name_is : t.name ≡ variable.0

pub loads_before : (c : Config) (u : ProgramUnit) (at : ℕ) (t : Test) → test_at c u at ≡ Some t → LoadsBefore c u at t
loads_before c u zero t e = cc
loads_before c u (suc zero) t e = let bad : None ≡ Some t = tested_of c u 0 t (sym (ap (test_at c u) (next 0)) ∙ e) in cc
loads_before c u (suc (suc n)) t e =
    let l = loads_of c u n t (ap (compared_at c u) (next n) ∙ tested_of c u (suc n) t (ap (test_at c u) (next (suc n)) ∙ e)) in
    record { place = n; variable = l.variable; loads = l.loads; name_is = (variable_of_test l.from l.variable t l.comparison).0 }
