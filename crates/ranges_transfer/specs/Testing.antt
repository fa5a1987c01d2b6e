-- Tests, as the code asks for them (own rules).
use Rattle.std.specs.Prelude.{◌≡◌, ℕ, Bool, true, false, not, if◌then◌else◌, ◌&&◌, List, [], ◌∷◌, Option, Some, None, option_map, option_and_then, ℤ}
use Rattle.ranges_interval.specs.declared.Interval.{Interval}
use Rattle.ranges_interval.specs.Interval.{IsEnd, IsOperand}
use Rattle.ranges_interval.specs.Compared.{interval_narrow}
use Rattle.il_syntax.specs.declared.tree.Elementary.{Elementary}
use Rattle.il_syntax.specs.declared.tree.Scalar.{Scalar}
use Rattle.il_syntax.specs.declared.tree.Named.{Named}
use Rattle.il_syntax.specs.declared.tree.Comparison.{Comparison as ComparisonKind}
use Rattle.il_syntax.specs.declared.tree.Operator.TheVariants.{Comparison}
use Rattle.il_syntax.specs.declared.tree.Condition.TheVariants.{WhenTrue, WhenFalse}
use Rattle.il_syntax.specs.declared.tree.Instruction.{Instruction}
use Rattle.il_syntax.specs.declared.tree.Instruction.TheVariants.{Load, Operate, Jump}
use Rattle.il_syntax.specs.declared.tree.Step.{Step}
use Rattle.il_syntax.specs.ElementaryTypes.{is_counted}
use Rattle.base_maps.specs.NameMap.{get}
use Rattle.il_semantics.specs.Tests.{Test, operand_number}
use Rattle.il_statics.specs.Types.{label_place}
use Rattle.il_semantics.specs.Annotation.{acts_at, range, declared_range}
use Rattle.ranges_laws.specs.Found.{provided}
use Rattle.ranges_laws.specs.Steps.{has_condition, is_bare}
use Rattle.ranges_laws.specs.declared.facts.Facts.{Facts}
use Rattle.ranges_laws.specs.Facts.{Names, facts, put_by}
use Rattle.ranges_laws.specs.Pass.{Moves}
use Rattle.ranges_transfer.specs.declared.meant.Meant.{Meant}
use Rattle.ranges_transfer.specs.declared.meant.Meant.TheVariants.{Variable}
use Rattle.ranges_transfer.specs.declared.testing.VariableTest.{VariableTest}
use Rattle.ranges_transfer.specs.Meant.{resolved, range_in}
use Rattle.ranges_transfer.specs.Scopes.{denoted}

-- A TEST

-- a scalar variable with a number, if its type is whole or TIME
abbrev pub counted_in : Meant → Option (Scalar × Option ℕ)
counted_in (Variable s number) = if is_counted s.elementary then Some (s, number) else None
counted_in _ = None

-- the variable that LD loads
abbrev pub loaded_in : Names → Instruction → Option (Scalar × Option ℕ)
loaded_in n (Load false operand) = counted_in (resolved n (denoted n operand.reference))
loaded_in n _ = None

-- a comparison with a literal of a type
abbrev pub comparison_in : Elementary → Instruction → Option (ComparisonKind × ℤ)
comparison_in e (Operate (Comparison kind) operand) = option_map (λ z. (kind, z)) (operand_number e operand.reference)
comparison_in e _ = None

abbrev pub is_free : List Named → Bool
is_free [] = true
is_free (label ∷ labels) = false

-- JMPC and JMPCN
abbrev pub is_conditional_jump : Instruction → Bool
is_conditional_jump (Jump WhenTrue label) = true
is_conditional_jump (Jump WhenFalse label) = true
is_conditional_jump _ = false

abbrev pub variable_test : Scalar × Option ℕ → ComparisonKind × ℤ → VariableTest
variable_test v p = record { scalar = v.0; number = v.1; comparison = p.0; limit = p.1 }

-- the test of three steps in a row
abbrev pub test_in : Names → (load comparison jump : Step) → Option VariableTest
test_in n load comparison jump =
    if (is_conditional_jump jump.instruction && is_free jump.labels) && is_free comparison.labels then option_and_then (λ v. option_map (variable_test v) (comparison_in v.0.elementary comparison.instruction)) (loaded_in n load.instruction) else None

-- the code has a test, with the number of its variable
pub record IsFormOf (n : Names) (t : Test) (k : VariableTest) : Type 0 where
  pub range_is : declared_range n.config n.unit t.name ≡ range k.scalar
  pub number_is : k.number ≡ get n.numbers t.name
  pub comparison_is : k.comparison ≡ t.comparison
  pub limit_is : k.limit ≡ t.number
  pub ends : IsEnd k.limit

abbrev pub AreForms : Names → Option Test → Option VariableTest → Type 0
AreForms n None None = Unit {0}
AreForms n (Some t) (Some k) = IsFormOf n t k
AreForms n None (Some k) = ⊥
AreForms n (Some t) None = ⊥

-- what Interval::narrow takes
pub record IsFineTest (row : List Interval) (k : VariableTest) : Type 0 where
  pub ends : IsEnd k.limit
  pub operand : (i : Interval) → range_in row k.scalar k.number ≡ Some i → IsOperand i

-- ITS SIDES

abbrev pub narrowed_in_by : VariableTest → Bool → Option Interval → List Interval → Option (List Interval)
narrowed_in_by k holds None row = Some row
narrowed_in_by k holds (Some i) row = option_map (put_by row k.number) (interval_narrow k.comparison holds i k.limit)

-- the row where a test has an outcome
abbrev pub narrowed_in : VariableTest → Bool → List Interval → Option (List Interval)
narrowed_in k holds row = narrowed_in_by k holds (range_in row k.scalar k.number) row

abbrev pub sided_in : VariableTest → Bool → Facts → Option Facts
sided_in k holds f = option_map (λ row. facts row f.result f.deferred) (narrowed_in k holds f.row)

-- what a jump brings to a label
abbrev pub landing_in : Option ℕ → Option Facts → Option (Option (ℕ × Facts))
landing_in at None = Some None
landing_in None (Some f) = None
landing_in (Some to) (Some f) = Some (Some (to, f))

-- what a test's jump hands on, that acts where the comparison has this outcome
abbrev pub testing_in : VariableTest → Bool → Facts → Option ℕ → Option (Moves Facts)
testing_in k holds f at = option_map (λ jump. record { next = sided_in k (not holds) f; jump = jump }) (landing_in at (sided_in k holds f))

-- what the jump of a test hands on
abbrev pub test_jump_in : Names → VariableTest → Facts → Instruction → Option (Moves Facts)
test_jump_in n k f (Jump condition label) = provided (is_bare f.deferred) (provided (has_condition condition f.result) (testing_in k (acts_at condition) f (label_place n.unit.body label.name)))
test_jump_in n k f _ = None
