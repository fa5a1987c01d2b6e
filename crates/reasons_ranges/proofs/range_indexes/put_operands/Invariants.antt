use Rattle.std.proofs.Common.{◌≡◌, ◌++◌, take, string_bytes}
use Rattle.reasons_ranges.specs.RangeReasons.{operands_index_text}
use Rattle.reasons_ranges.proofs.range_indexes.put_operands.Given as goal

-- the operands so far
abbrev pub invariant-operands : goal.invariant-operands
invariant-operands l = string_bytes l.text ≡ string_bytes l.initial.text ++ operands_index_text l.unit l.known (take l.operand-index l.operands)
