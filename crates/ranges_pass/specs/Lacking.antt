-- Which units have no annotation, where, and what is wrong there (own rules).
use Rattle.std.specs.Prelude.{◌≡◌, ℕ, pos, List, [], ◌∷◌, flat_map, Option, Some, None, option_to_list, slice_get, Contains, Any}
use Rattle.ranges_interval.specs.Interval.{IsIn, IsWithin}
use Rattle.il_syntax.specs.declared.tree.Elementary.{Elementary}
use Rattle.il_syntax.specs.declared.tree.Operand.{Operand}
use Rattle.il_syntax.specs.declared.tree.Operator.{Operator}
use Rattle.il_syntax.specs.declared.tree.Operator.TheVariants.{Arithmetic}
use Rattle.il_syntax.specs.declared.tree.Arithmetic.TheVariants.{Div, Mod}
use Rattle.il_syntax.specs.declared.tree.Argument.{Argument}
use Rattle.il_syntax.specs.declared.tree.Argument.TheVariants.{Input, Output}
use Rattle.il_syntax.specs.declared.tree.Instruction.{Instruction}
use Rattle.il_syntax.specs.declared.tree.Instruction.TheVariants.{Load, Store, Operate, Defer, Evaluate, Call, Invoke}
use Rattle.il_syntax.specs.declared.tree.Place.{Place}
use Rattle.il_syntax.specs.declared.tree.Step.{Step}
use Rattle.il_syntax.specs.declared.tree.Unit.{Unit as ProgramUnit}
use Rattle.il_syntax.specs.declared.tree.Config.{Config}
use Rattle.il_statics.specs.declared.names.StandardFunction.{StandardFunction}
use Rattle.il_statics.specs.Names.{standard_function}
use Rattle.base_maps.specs.NameMap.{NameMap, get}
use Rattle.ranges_interval.specs.declared.Interval.{Interval}
use Rattle.il_semantics.specs.Meaning.{Denotation, Numbered, Indexed, denotation, natural}
use Rattle.il_semantics.specs.declared.known.Known.{Known}
use Rattle.il_semantics.specs.declared.known.Known.TheVariants.{Flag, Ranged}
use Rattle.il_semantics.specs.declared.known.KnownDeferred.{KnownDeferred}
use Rattle.il_semantics.specs.Annotation.{Knowledge, Annotation, Leads, IsAnnotatedBelow, IsFirstWithout, interval, declared_known, WithInterval, WithKnownResult, WithOperand, WithOperated}

-- WHAT MAY GO WRONG AT AN INSTRUCTION, by what is known before it

-- An index may lie outside of its array.
abbrev pub MayLeaveArray : NameMap Interval → Denotation → Type 0
MayLeaveArray variables (Numbered name bounds element z) = ¬ IsIn (interval bounds) z
MayLeaveArray variables (Indexed name bounds element variable s) = ¬ WithInterval (get variables variable) (λ i. IsWithin i (interval bounds))
MayLeaveArray variables _ = ⊥

-- The operand of an input.
abbrev pub input_operand : Argument → List Operand
input_operand (Input word operand) = operand ∷ []
input_operand (Output word to) = []

-- The operands of an instruction, and the target of a store.
abbrev pub operands_of : Instruction → List Operand
operands_of (Load negated operand) = operand ∷ []
operands_of (Store kind to) = to ∷ []
operands_of (Operate operator operand) = operand ∷ []
operands_of (Defer operator first) = option_to_list first
operands_of (Call condition instance arguments) = flat_map input_operand arguments
operands_of (Invoke function operands) = operands
operands_of _ = []

-- One of them may lie outside of its array.
abbrev pub MayMissIndex : Config → ProgramUnit → Knowledge → Instruction → Type 0
MayMissIndex c u k i = Any (λ (o : Operand). MayLeaveArray k.variables (denotation c u o.reference)) (operands_of i)

-- What is known of an operand, its index taken to lie in its array: an element has its declared range.
abbrev pub WithValue : NameMap Interval → Elementary → Denotation → (Known → Type 0) → Type 0
WithValue variables e (Numbered name bounds element z) go = go (declared_known element)
WithValue variables e (Indexed name bounds element variable s) go = go (declared_known element)
WithValue variables e d go = WithOperand variables e d go

-- The type of a bare literal after an operator: that of the current result.
abbrev pub type_behind : Known → Denotation → Elementary
type_behind Flag d = natural d
type_behind (Ranged e i) d = e

-- What is known of both sides of an operator: of the current result and of the operand.
abbrev pub WithSides : Config → ProgramUnit → Knowledge → Operand → (Known → Known → Type 0) → Type 0
WithSides c u k o go = WithKnownResult k.result (λ left. WithValue k.variables (type_behind left (denotation c u o.reference)) (denotation c u o.reference) (λ right. go left right))

-- 0 lies in the range of a divisor.
abbrev pub DividesByZero : Operator → Known → Type 0
DividesByZero (Arithmetic Div) (Ranged e j) = IsIn j (pos 0)
DividesByZero (Arithmetic Mod) (Ranged e j) = IsIn j (pos 0)
DividesByZero _ _ = ⊥

-- The same of what `)` evaluates.
abbrev pub EvaluatesByZero : List KnownDeferred → Known → Type 0
EvaluatesByZero [] right = ⊥
EvaluatesByZero (d ∷ ds) right = DividesByZero d.operator right

-- A divisor may be 0.
abbrev pub MayDivideByZero : Config → ProgramUnit → Knowledge → Instruction → Type 0
MayDivideByZero c u k (Operate operator operand) = WithSides c u k operand (λ left right. DividesByZero operator right)
MayDivideByZero c u k Evaluate = WithKnownResult k.result (EvaluatesByZero k.deferred)
MayDivideByZero c u k _ = ⊥

-- The result of an operator may leave its type: not all values of its sides have one.
abbrev pub MayLeaveType : Config → ProgramUnit → Knowledge → Instruction → Type 0
MayLeaveType c u k (Operate operator operand) = ¬ WithSides c u k operand (λ left right. WithOperated operator left right (λ result. Unit {0}))
MayLeaveType c u k _ = ⊥

-- THE NUMBER

-- A function's arguments: an own function's may leave its inputs' ranges, a standard function's result its type.
abbrev pub function_number : Option StandardFunction → ℕ
function_number None = 44
function_number (Some f) = 40

-- What else an instruction may break: 43 of a stored value, 44 of an argument, and 40 of any other.
abbrev pub other_number : Instruction → ℕ
other_number (Store kind to) = 43
other_number (Call condition instance arguments) = 44
other_number (Invoke function operands) = function_number (standard_function function.name)
other_number _ = 40

-- The number of what is wrong at an instruction: 41 wherever a divisor may be 0, then 40 of an operator's result, then 42 of an index, and otherwise by the instruction.
pub data IsRangeNumber (c : Config) (u : ProgramUnit) (k : Knowledge) (i : Instruction) (number : ℕ) : Type 0 where
  zero_divisor : number ≡ 41 → MayDivideByZero c u k i → IsRangeNumber c u k i number
  out_of_type : number ≡ 40 → ¬ MayDivideByZero c u k i → MayLeaveType c u k i → IsRangeNumber c u k i number
  out_of_array : number ≡ 42 → ¬ MayDivideByZero c u k i → ¬ MayLeaveType c u k i → MayMissIndex c u k i → IsRangeNumber c u k i number
  otherwise : number ≡ other_number i → ¬ MayDivideByZero c u k i → ¬ MayLeaveType c u k i → ¬ MayMissIndex c u k i → IsRangeNumber c u k i number

-- THE PLACE

-- The least that is known at a place: an annotation that holds before the place says so, and each that does says no less there.
pub record IsLeastAt (c : Config) (u : ProgramUnit) (place : ℕ) (k : Knowledge) : Type 0 where
  pub annotation : Annotation
  pub holds : IsAnnotatedBelow c u place annotation
  pub stands : slice_get annotation place ≡ Some (Some k)
  pub below : (a : Annotation) → IsAnnotatedBelow c u place a → Leads a place k

-- The first instruction up to and including which a unit has no annotation, and its number by the least that is known there.
pub record LacksRanges (c : Config) (u : ProgramUnit) (number : ℕ) (place : Place) : Type 0 where
  pub at : ℕ
  pub first : IsFirstWithout c u at
  pub step : Step
  pub stands : slice_get u.body.steps at ≡ Some step
  pub known : Knowledge
  pub least : IsLeastAt c u at known
  pub number_is : IsRangeNumber c u known step.instruction number
  pub place_is : place ≡ step.place

-- 40 to 44: a unit's first instruction without ranges.
pub data BreaksRanges (config : Config) (number : ℕ) (place : Place) : Type 0 where
  lacks_ranges : (unit : ProgramUnit) → Contains config.units unit → LacksRanges config unit number place → BreaksRanges config number place
