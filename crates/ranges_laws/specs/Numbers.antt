-- The number of a refusal, by what is known at the place (own rules).
use Rattle.std.specs.Prelude.{ℕ, Bool, true, is_some, if◌then◌else◌, List, [], ◌∷◌, Option, Some, None, pos}
use Rattle.ranges_interval.specs.declared.Interval.{Interval}
use Rattle.il_syntax.specs.declared.tree.Elementary.{Elementary}
use Rattle.il_syntax.specs.declared.tree.Operand.{Operand}
use Rattle.il_syntax.specs.declared.tree.Operator.{Operator}
use Rattle.il_syntax.specs.declared.tree.Operator.TheVariants.{Arithmetic}
use Rattle.il_syntax.specs.declared.tree.Arithmetic.TheVariants.{Div, Mod}
use Rattle.il_syntax.specs.declared.tree.Argument.{Argument}
use Rattle.il_syntax.specs.declared.tree.Argument.TheVariants.{Input, Output}
use Rattle.il_syntax.specs.declared.tree.Instruction.{Instruction}
use Rattle.il_syntax.specs.declared.tree.Instruction.TheVariants.{Load, Store, Operate, Defer, Evaluate, Call, Invoke}
use Rattle.il_syntax.specs.declared.tree.Unit.{Unit as ProgramUnit}
use Rattle.il_syntax.specs.declared.tree.Config.{Config}
use Rattle.il_statics.specs.declared.names.StandardFunction.{StandardFunction}
use Rattle.il_statics.specs.Names.{standard_function}
use Rattle.base_maps.specs.NameMap.{Text, get}
use Rattle.il_semantics.specs.Meaning.{Denotation, Constant, Direct, Numbered, Indexed, Inside, Unknown, denotation}
use Rattle.il_semantics.specs.declared.known.Known.{Known}
use Rattle.il_semantics.specs.declared.known.Known.TheVariants.{Ranged}
use Rattle.il_semantics.specs.declared.known.KnownDeferred.{KnownDeferred}
use Rattle.il_semantics.specs.Annotation.{Knowledge, interval, only, declared_known}
use Rattle.ranges_laws.specs.Found.{is_part, there_fits, found_operand, found_operated}
use Rattle.ranges_laws.specs.Steps.{context}

-- the ranges of variables
abbrev pub Lookup : Type 0
Lookup = Text → Option Interval

-- whether an index lies in its array for all of its values
abbrev pub is_inside : Lookup → Denotation → Bool
is_inside at (Numbered name bounds element z) = is_part (only z) (interval bounds)
is_inside at (Indexed name bounds element variable s) = there_fits (at variable) (interval bounds)
is_inside at _ = true

-- 42 where an index may lie outside of its array, otherwise the given number
abbrev pub unless_outside : Lookup → Denotation → ℕ → ℕ
unless_outside at d number = if is_inside at d then number else 42

-- 41 where the divisor may be 0, otherwise 40
abbrev pub divisor_fault : Operator → Option Known → ℕ
divisor_fault (Arithmetic Div) (Some (Ranged e j)) = if is_part (only (pos 0)) j then 41 else 40
divisor_fault (Arithmetic Mod) (Some (Ranged e j)) = if is_part (only (pos 0)) j then 41 else 40
divisor_fault _ _ = 40

-- what is known of an operand whose index lies in its array
abbrev pub operand_inside : Lookup → Elementary → Denotation → Option Known
operand_inside at e (Numbered name bounds element z) = Some (declared_known element)
operand_inside at e (Indexed name bounds element variable s) = Some (declared_known element)
operand_inside at e (Constant l) = found_operand at e (Constant l)
operand_inside at e (Direct name s) = found_operand at e (Direct name s)
operand_inside at e (Inside instance word s) = found_operand at e (Inside instance word s)
operand_inside at e Unknown = found_operand at e Unknown

-- of an operation: its divisor or its result; where nothing is wrong with them, its operand's index
abbrev pub operated_fault : Operator → Known → Option Known → ℕ
operated_fault operator left None = 40
operated_fault operator left (Some right) = if is_some (found_operated operator left right) then 42 else divisor_fault operator (Some right)

-- of an operator: by its operand, as if the index lay in the array
abbrev pub operate_fault : Lookup → Operator → Denotation → Option Known → ℕ
operate_fault at operator d None = 40
operate_fault at operator d (Some left) = operated_fault operator left (operand_inside at (context d left) d)

-- of a short form: its operand's index
abbrev pub defer_fault : Config → ProgramUnit → Lookup → Option Operand → ℕ
defer_fault c u at None = 40
defer_fault c u at (Some o) = unless_outside at (denotation c u o.reference) 40

-- of a `)`: the divisor of what was set aside
abbrev pub evaluate_fault : List KnownDeferred → Option Known → ℕ
evaluate_fault [] right = 40
evaluate_fault (d ∷ ds) right = divisor_fault d.operator right

-- of a function's arguments: an index, otherwise the given number
abbrev pub operands_fault : Config → ProgramUnit → Lookup → List Operand → ℕ → ℕ
operands_fault c u at [] number = number
operands_fault c u at (o ∷ os) number = unless_outside at (denotation c u o.reference) (operands_fault c u at os number)

-- of a block's arguments: an index, otherwise 44
abbrev pub arguments_fault : Config → ProgramUnit → Lookup → List Argument → ℕ
arguments_fault c u at [] = 44
arguments_fault c u at (Input word o ∷ more) = unless_outside at (denotation c u o.reference) (arguments_fault c u at more)
arguments_fault c u at (Output word to ∷ more) = arguments_fault c u at more

-- of a function: its arguments', which of an own function may lie outside of its inputs
abbrev pub invoke_fault : Config → ProgramUnit → Lookup → Option StandardFunction → List Operand → ℕ
invoke_fault c u at (Some f) operands = operands_fault c u at operands 40
invoke_fault c u at None operands = operands_fault c u at operands 44

-- The number of an instruction that is refused: of several the lowest, but 41 before 40 where a divisor may be 0. 40 where a result may leave
-- its type, 42 where an index may lie outside of its array, 43 of a store and 44 of an argument that may lie outside of the declared range.
abbrev pub fault_of : Config → ProgramUnit → Knowledge → Instruction → ℕ
fault_of c u k (Load negated operand) = unless_outside (get k.variables) (denotation c u operand.reference) 40
fault_of c u k (Store kind to) = unless_outside (get k.variables) (denotation c u to.reference) 43
fault_of c u k (Operate operator operand) = operate_fault (get k.variables) operator (denotation c u operand.reference) k.result
fault_of c u k (Defer operator first) = defer_fault c u (get k.variables) first
fault_of c u k Evaluate = evaluate_fault k.deferred k.result
fault_of c u k (Call condition instance arguments) = arguments_fault c u (get k.variables) arguments
fault_of c u k (Invoke function operands) = invoke_fault c u (get k.variables) (standard_function function.name) operands
fault_of c u k _ = 40
