use Rattle.std.proofs.Common.{◌≡◌, ◌++◌, take, string_bytes}
use Rattle.reasons_types.specs.KindReasons.{operand_kinds}
use Rattle.reasons_types.proofs.types_kinds.put_operands.Given as goal

-- the operands so far
abbrev pub invariant-operands : goal.invariant-operands
invariant-operands l = string_bytes l.text ≡ string_bytes l.initial.text ++ operand_kinds l.scope.config l.scope.unit (take l.operand-index l.operands)
