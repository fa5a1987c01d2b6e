-- The number of a refusal as the code finds it, by what is known at the place (own rules).
use Rattle.std.specs.Prelude.{ℕ, is_some, if◌then◌else◌, Option, Some, None}
use Rattle.il_syntax.specs.declared.tree.Operator.{Operator}
use Rattle.il_syntax.specs.declared.tree.Instruction.{Instruction}
use Rattle.il_syntax.specs.declared.tree.Instruction.TheVariants.{Load, Store, Operate, Defer, Evaluate, Call, Invoke}
use Rattle.il_syntax.specs.declared.tree.Unit.{Unit as ProgramUnit}
use Rattle.il_syntax.specs.declared.tree.Config.{Config}
use Rattle.il_statics.specs.Names.{standard_function}
use Rattle.base_maps.specs.NameMap.{get}
use Rattle.il_semantics.specs.Meaning.{Denotation, denotation}
use Rattle.il_semantics.specs.declared.known.Known.{Known}
use Rattle.il_semantics.specs.Annotation.{Knowledge}
use Rattle.ranges_laws.specs.Found.{found_operated}
use Rattle.ranges_laws.specs.Numbers.{Lookup, unless_outside, divisor_fault, operand_inside, defer_fault, evaluate_fault, arguments_fault, invoke_fault}
use Rattle.ranges_laws.specs.Steps.{context}

-- of an operation: its divisor or its result; where nothing is wrong with them, the given number
abbrev pub operated_fault : Operator → Known → Option Known → ℕ → ℕ
operated_fault operator left None number = 40
operated_fault operator left (Some right) number = if is_some (found_operated operator left right) then number else divisor_fault operator (Some right)

-- of an operator: by its operand, as if the index lay in the array, and then by the index
abbrev pub operate_fault : Lookup → Operator → Denotation → Option Known → ℕ
operate_fault at operator d None = 40
operate_fault at operator d (Some left) = operated_fault operator left (operand_inside at (context d left) d) (unless_outside at d 40)

-- of an instruction
abbrev pub fault_of : Config → ProgramUnit → Knowledge → Instruction → ℕ
fault_of c u k (Load negated operand) = unless_outside (get k.variables) (denotation c u operand.reference) 40
fault_of c u k (Store kind to) = unless_outside (get k.variables) (denotation c u to.reference) 43
fault_of c u k (Operate operator operand) = operate_fault (get k.variables) operator (denotation c u operand.reference) k.result
fault_of c u k (Defer operator first) = defer_fault c u (get k.variables) first
fault_of c u k Evaluate = evaluate_fault k.deferred k.result
fault_of c u k (Call condition instance arguments) = arguments_fault c u (get k.variables) arguments
fault_of c u k (Invoke function operands) = invoke_fault c u (get k.variables) (standard_function function.name) operands
fault_of c u k _ = 40
