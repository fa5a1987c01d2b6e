-- The numbers of the variables that a unit stores, and of those that it loads before a comparison and a conditional jump, which may test them (own rules).
use Rattle.std.specs.Prelude.{◌≡◌, Bool, true, false, ◌&&◌, ℕ, ◌+◌, ◌<◌, List, length, slice_get, Option, Some, None}
use Rattle.ranges_interval.specs.declared.Interval.{Interval}
use Rattle.ranges_interval.specs.Interval.{IsOperand}
use Rattle.il_syntax.specs.declared.tree.Reference.{Reference}
use Rattle.il_syntax.specs.declared.tree.Reference.TheVariants.{Variable as OfVariable}
use Rattle.il_syntax.specs.declared.tree.Argument.{Argument}
use Rattle.il_syntax.specs.declared.tree.Argument.TheVariants.{Input, Output}
use Rattle.il_syntax.specs.declared.tree.Instruction.{Instruction}
use Rattle.il_syntax.specs.declared.tree.Instruction.TheVariants.{Load, Store, Operate, Jump, Call}
use Rattle.il_syntax.specs.declared.tree.Operator.TheVariants.{Comparison as OfComparison}
use Rattle.il_syntax.specs.declared.tree.Condition.TheVariants.{WhenTrue, WhenFalse}
use Rattle.il_syntax.specs.declared.tree.Step.{Step}
use Rattle.base_maps.specs.NameMap.{NameMap, Text, get}
use Rattle.il_semantics.specs.Annotation.{declared_range}
use Rattle.ranges_laws.specs.Facts.{AreOperands}
use Rattle.load_scope.specs.Units.{InUnit}

-- the declared range of a name
abbrev pub range_of : InUnit → Text → Option Interval
range_of u name = declared_range u.config u.unit name

-- each number is that of one name, and its range the declared one
pub record AreNumbers (u : InUnit) (numbers : NameMap ℕ) (declared : List Interval) : Type 0 where
  pub operands : AreOperands declared
  pub inside : (q : Text) (n : ℕ) → get numbers q ≡ Some n → n < length declared
  pub distinct : (q r : Text) (n : ℕ) → get numbers q ≡ Some n → get numbers r ≡ Some n → q ≡ r
  pub ranges : (q : Text) (n : ℕ) → get numbers q ≡ Some n → slice_get declared n ≡ range_of u q

-- a name without a declared range has no number
abbrev pub HaveRanges : InUnit → NameMap ℕ → Type 0
HaveRanges u numbers = (q : Text) → range_of u q ≡ None → get numbers q ≡ None

-- no number is lost
abbrev pub KeepNumbers : NameMap ℕ → NameMap ℕ → Type 0
KeepNumbers old new = (q : Text) (n : ℕ) → get old q ≡ Some n → get new q ≡ Some n

-- a name with a declared range has a number
abbrev pub HasNumberIn : InUnit → NameMap ℕ → Text → Type 0
HasNumberIn u numbers name = (i : Interval) → range_of u name ≡ Some i → (n : ℕ) × (get numbers name ≡ Some n)

-- the same of the variable that an instruction stores or loads, if it is one by its name alone
abbrev pub IsTargetNumbered : InUnit → NameMap ℕ → Reference → Type 0
IsTargetNumbered u numbers (OfVariable name) = HasNumberIn u numbers name
IsTargetNumbered u numbers _ = Unit {0}

-- the same of an output's target
abbrev pub IsArgumentNumbered : InUnit → NameMap ℕ → Argument → Type 0
IsArgumentNumbered u numbers (Input word o) = Unit {0}
IsArgumentNumbered u numbers (Output word to) = HasNumberIn u numbers to.name

-- each of so many items is numbered
abbrev pub AreNumbered : {X : Type 0} → (X → Type 0) → List X → ℕ → Type 0
AreNumbered {X} made items bound = (at : ℕ) (x : X) → at < bound → slice_get items at ≡ Some x → made x

-- the same of items at their places
abbrev pub AreNumberedAt : {X : Type 0} → (ℕ → X → Type 0) → List X → ℕ → Type 0
AreNumberedAt {X} made items bound = (at : ℕ) (x : X) → at < bound → slice_get items at ≡ Some x → made at x

-- whether an instruction is a jump with a condition
abbrev pub is_conditional : Instruction → Bool
is_conditional (Jump WhenTrue label) = true
is_conditional (Jump WhenFalse label) = true
is_conditional _ = false

abbrev pub is_conditional_step : Option Step → Bool
is_conditional_step None = false
is_conditional_step (Some s) = is_conditional s.instruction

-- whether an instruction compares
abbrev pub is_comparison : Instruction → Bool
is_comparison (Operate (OfComparison kind) operand) = true
is_comparison _ = false

abbrev pub is_comparison_step : Option Step → Bool
is_comparison_step None = false
is_comparison_step (Some s) = is_comparison s.instruction

-- whether a comparison and a conditional jump follows a place: they may test what the place loads
abbrev pub may_test : List Step → ℕ → Bool
may_test steps place = is_comparison_step (slice_get steps (place + 1)) && is_conditional_step (slice_get steps (place + 2))

-- the same of all variables that an instruction stores, or loads for a test
abbrev pub IsStepNumbered : InUnit → NameMap ℕ → Bool → Instruction → Type 0
IsStepNumbered u numbers tests (Store kind to) = IsTargetNumbered u numbers to.reference
IsStepNumbered u numbers tests (Load negated operand) = tests ≡ true → IsTargetNumbered u numbers operand.reference
IsStepNumbered u numbers tests (Call condition instance arguments) = AreNumbered (IsArgumentNumbered u numbers) arguments (length arguments)
IsStepNumbered u numbers tests _ = Unit {0}

-- the same of the step of a place
abbrev pub IsPlaceNumbered : InUnit → NameMap ℕ → List Step → ℕ → Step → Type 0
IsPlaceNumbered u numbers steps place s = IsStepNumbered u numbers (may_test steps place) s.instruction

-- the declared ranges of a unit are what operations take
abbrev pub AreDeclaredOperands : InUnit → Type 0
AreDeclaredOperands u = (q : Text) (i : Interval) → range_of u q ≡ Some i → IsOperand i

-- more numbers, with something that they make
pub record Added (u : InUnit) (made : NameMap ℕ → Type 0) (old new : NameMap ℕ) (declared : List Interval) : Type 0 where
  pub are : AreNumbers u new declared
  pub kept : KeepNumbers old new
  pub made_is : made new

-- where the numbers were right, they are
abbrev pub Adds : InUnit → (NameMap ℕ → Type 0) → NameMap ℕ → List Interval → NameMap ℕ → List Interval → Type 0
Adds u made old declared new more = AreDeclaredOperands u → AreNumbers u old declared → Added u made old new more

-- the numbers of all variables that a unit stores, or loads for a test
pub record IsNumberingOf (u : InUnit) (numbers : NameMap ℕ) (declared : List Interval) : Type 0 where
  pub are : AreNumbers u numbers declared
  pub stores : AreNumberedAt (IsPlaceNumbered u numbers u.unit.body.steps) u.unit.body.steps (length u.unit.body.steps)
