use Rattle.std.proofs.Common.{◌≡◌, ◌++◌, map, take}
use Rattle.show_names.specs.RangeLines.{operands_variables, variable_shown}
use Rattle.show_names.proofs.range_variables.add_operands.Given as goal

-- the operands so far
abbrev pub invariant-operands : goal.invariant-operands
invariant-operands l = map variable_shown l.variables ≡ map variable_shown l.initial.variables ++ operands_variables l.known (take l.operand-index l.operands)
