use Rattle.std.proofs.Common.{◌≡◌, ◌++◌, take, string_bytes}
use Rattle.reasons_types.specs.TypeReasons.{operands_lines}
use Rattle.reasons_types.proofs.types_operands.put_operands.Given as goal

-- the operands so far
abbrev pub invariant-operands : goal.invariant-operands
invariant-operands g l = string_bytes l.text ≡ string_bytes l.initial.text ++ operands_lines (g.S.Scope.config l.scope) (g.S.Scope.unit l.scope) (take l.operand-index l.operands)
