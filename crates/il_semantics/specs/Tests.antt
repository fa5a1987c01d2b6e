-- Tests: LD of a variable, a comparison with a literal and a conditional jump, three instructions in a row of one body, without a label on the second or third (own rule).
use Rattle.std.specs.Prelude.{ℕ, zero, suc, false, if◌then◌else◌, List, [], ◌∷◌, slice_get, Option, Some, None, option_map, option_and_then, ℤ}
use Rattle.il_syntax.specs.declared.tree.Elementary.{Elementary}
use Rattle.il_syntax.specs.declared.tree.Elementary.TheVariants.{Time}
use Rattle.il_syntax.specs.declared.tree.Literal.{Literal}
use Rattle.il_syntax.specs.declared.tree.Literal.TheVariants.{Truth, Bare, Whole, Time as Duration}
use Rattle.il_syntax.specs.declared.tree.Reference.{Reference}
use Rattle.il_syntax.specs.declared.tree.Reference.TheVariants.{Literal as LiteralReference}
use Rattle.il_syntax.specs.declared.tree.Named.{Named}
use Rattle.il_syntax.specs.declared.tree.Comparison.{Comparison as ComparisonKind}
use Rattle.il_syntax.specs.declared.tree.Operator.TheVariants.{Comparison}
use Rattle.il_syntax.specs.declared.tree.Condition.TheVariants.{WhenTrue, WhenFalse}
use Rattle.il_syntax.specs.declared.tree.Instruction.{Instruction}
use Rattle.il_syntax.specs.declared.tree.Instruction.TheVariants.{Load, Operate, Jump}
use Rattle.il_syntax.specs.declared.tree.Step.{Step}
use Rattle.il_syntax.specs.declared.tree.Unit.{Unit as ProgramUnit}
use Rattle.il_syntax.specs.declared.tree.Config.{Config}
use Rattle.il_syntax.specs.ElementaryTypes.{limits, is_same_type, is_whole, is_counted}
use Rattle.il_statics.specs.Declarations.{is_within_any}
use Rattle.base_maps.specs.NameMap.{Text}
use Rattle.il_semantics.specs.Meaning.{Denotation, Direct, denotation}
use Rattle.il_semantics.specs.Step.{instruction_at}

-- the variable of a name, whose type is whole or TIME, is compared with a number (own rule)
pub record Test : Type 0 where
  pub name : Text
  pub elementary : Elementary
  pub comparison : ComparisonKind
  pub number : ℤ

-- A number that is a value of a type (2.3.1).
abbrev pub if_value : Elementary → ℤ → Option ℤ
if_value e z = if is_within_any (limits e) z then Some z else None

-- The number of a literal of a type; a bare one has any integer type (2.2).
abbrev pub literal_number : Elementary → Literal → Option ℤ
literal_number e (Truth b) = None
literal_number e (Bare z) = if is_whole e then if_value e z else None
literal_number e (Whole written z) = if is_same_type written e then if_value e z else None
literal_number e (Duration z) = if is_same_type Time e then if_value e z else None

-- The same of an operand that is a literal.
abbrev pub operand_number : Elementary → Reference → Option ℤ
operand_number e (LiteralReference l) = literal_number e l
operand_number e _ = None

-- A scalar variable by its name alone, with its integer type or TIME.
abbrev pub counted_variable : Denotation → Option (Text × Elementary)
counted_variable (Direct name s) = if is_counted s.elementary then Some (name, s.elementary) else None
counted_variable _ = None

-- The variable that LD loads.
abbrev pub loaded_variable : Config → ProgramUnit → Instruction → Option (Text × Elementary)
loaded_variable c u (Load false operand) = counted_variable (denotation c u operand.reference)
loaded_variable c u _ = None

-- A comparison of a variable's value with a literal.
abbrev pub comparison_of : Instruction → (Text × Elementary) → Option Test
comparison_of (Operate (Comparison kind) operand) v =
    option_map (λ z. record { name = v.0; elementary = v.1; comparison = kind; number = z }) (operand_number v.1 operand.reference)
comparison_of _ v = None

-- A conditional jump on what was compared.
abbrev pub jump_on : Instruction → Test → Option Test
jump_on (Jump WhenTrue label) t = Some t
jump_on (Jump WhenFalse label) t = Some t
jump_on _ t = None

-- The instruction, if no label comes before it.
abbrev pub if_unlabelled : List Named → Instruction → Option Instruction
if_unlabelled [] i = Some i
if_unlabelled (label ∷ labels) i = None

-- An instruction without a label: only the one before it leads there.
abbrev pub unlabelled : Option Step → Option Instruction
unlabelled None = None
unlabelled (Some s) = if_unlabelled s.labels s.instruction

-- The comparison that is at a place, after the LD of its variable.
abbrev pub compared_at : Config → ProgramUnit → ℕ → Option Test
compared_at c u zero = None
compared_at c u (suc n) =
    option_and_then (λ i. option_and_then (comparison_of i) (loaded_variable c u (instruction_at u.body n))) (unlabelled (slice_get u.body.steps (suc n)))

-- The test whose jump is at a place, after its comparison.
abbrev pub test_at : Config → ProgramUnit → ℕ → Option Test
test_at c u zero = None
test_at c u (suc n) = option_and_then (λ i. option_and_then (jump_on i) (compared_at c u n)) (unlabelled (slice_get u.body.steps (suc n)))
