-- Straight lines: bodies of a few instructions, without labels, and the types of the current result on them (own rule).
use Rattle.std.specs.Prelude.{◌≡◌, ℕ, false, List, [], ◌∷◌, take, Option, Some, None, Contains, slice_get, codes}
use Rattle.il_syntax.specs.declared.tree.Config.{Config}
use Rattle.il_syntax.specs.declared.tree.Unit.{Unit as ProgramUnit}
use Rattle.il_syntax.specs.declared.tree.Step.{Step}
use Rattle.il_syntax.specs.declared.tree.Elementary.{Elementary}
use Rattle.il_syntax.specs.declared.tree.Literal.{Literal}
use Rattle.il_syntax.specs.declared.tree.Literal.TheVariants.{Truth, Bare, Whole}
use Rattle.il_syntax.specs.declared.tree.Reference.{Reference}
use Rattle.il_syntax.specs.declared.tree.Reference.TheVariants.{Literal as OfLiteral, Variable as OfVariable}
use Rattle.il_syntax.specs.declared.tree.Operand.{Operand}
use Rattle.il_syntax.specs.declared.tree.Logic.TheVariants.{Conjunction, Disjunction}
use Rattle.il_syntax.specs.declared.tree.Arithmetic.TheVariants.{Add, Sub}
use Rattle.il_syntax.specs.declared.tree.Operator.{Operator}
use Rattle.il_syntax.specs.declared.tree.Operator.TheVariants.{Logic, Arithmetic}
use Rattle.il_syntax.specs.declared.tree.Store.{Store as StoreKind}
use Rattle.il_syntax.specs.declared.tree.Store.TheVariants.{Plain, Negated}
use Rattle.il_syntax.specs.declared.tree.Instruction.{Instruction}
use Rattle.il_syntax.specs.declared.tree.Instruction.TheVariants.{Load, Store, Not, Operate, Invoke}
use Rattle.il_syntax.specs.ElementaryTypes.{IsValueOf}
use Rattle.il_statics.specs.Types.{type_after, typing_numbers}

-- TRUE, FALSE, or a whole number; one with a type written before it is a value of that type
abbrev pub IsStraightLiteral : Literal → Type 0
IsStraightLiteral (Truth b) = Unit {0}
IsStraightLiteral (Bare z) = Unit {0}
IsStraightLiteral (Whole e z) = IsValueOf e z
IsStraightLiteral _ = ⊥

-- a literal of these or a name
abbrev pub IsStraightOperand : Reference → Type 0
IsStraightOperand (OfLiteral l) = IsStraightLiteral l
IsStraightOperand (OfVariable name) = Unit {0}
IsStraightOperand _ = ⊥

-- each is one or a name
abbrev pub AreStraightOperands : List Operand → Type 0
AreStraightOperands [] = Unit {0}
AreStraightOperands (o ∷ os) = IsStraightOperand o.reference × AreStraightOperands os

-- the place is a name
abbrev pub IsStraightPlace : Reference → Type 0
IsStraightPlace (OfVariable name) = Unit {0}
IsStraightPlace _ = ⊥

-- AND, OR, ADD and SUB
abbrev pub IsStraightOperator : Operator → Type 0
IsStraightOperator (Logic Conjunction false) = Unit {0}
IsStraightOperator (Logic Disjunction false) = Unit {0}
IsStraightOperator (Arithmetic Add) = Unit {0}
IsStraightOperator (Arithmetic Sub) = Unit {0}
IsStraightOperator _ = ⊥

-- ST and STN
abbrev pub IsStraightStore : StoreKind → Type 0
IsStraightStore Plain = Unit {0}
IsStraightStore Negated = Unit {0}
IsStraightStore _ = ⊥

-- the instruction is LD, LDN, ST, STN, NOT, AND, OR, ADD, SUB or LIMIT of such operands
abbrev pub IsStraightInstruction : Instruction → Type 0
IsStraightInstruction (Load negated operand) = IsStraightOperand operand.reference
IsStraightInstruction (Store kind to) = IsStraightStore kind × IsStraightPlace to.reference
IsStraightInstruction Not = Unit {0}
IsStraightInstruction (Operate operator operand) = IsStraightOperator operator × IsStraightOperand operand.reference
IsStraightInstruction (Invoke function operands) = (function.name ≡ codes "LIMIT") × AreStraightOperands operands
IsStraightInstruction _ = ⊥

-- each instruction is one of these, and has no label
abbrev pub AreStraightSteps : List Step → Type 0
AreStraightSteps [] = Unit {0}
AreStraightSteps (s ∷ ss) = (s.labels ≡ []) × IsStraightInstruction s.instruction × AreStraightSteps ss

-- the type that instructions leave, one after another (3.2.2)
abbrev pub type_line : Config → ProgramUnit → List Step → Option Elementary → Option Elementary
type_line config unit [] before = before
type_line config unit (s ∷ steps) before = type_line config unit steps (type_after config unit None s.instruction before)

-- the type of the current result before the instruction at a place (3.2.2)
abbrev pub line_type : Config → ProgramUnit → ℕ → Option Elementary
line_type config unit at = type_line config unit (take at unit.body.steps) None

-- no instruction of a straight line breaks a rule of types (3.2.2, 3.2.3)
abbrev pub AreTyped : Config → ProgramUnit → Type 0
AreTyped config unit = (at : ℕ) (s : Step) → slice_get unit.body.steps at ≡ Some s → (number : ℕ) → ¬ Contains (typing_numbers config unit s.instruction (line_type config unit at) None) number
