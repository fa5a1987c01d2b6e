use Rattle.std.proofs.Common.{◌≡◌, ◌++◌, take, string_bytes}
use Rattle.reasons_types.specs.TypeReasons.{arguments_lines}
use Rattle.reasons_types.proofs.types_operands.put_arguments.Given as goal

-- the arguments so far
abbrev pub invariant-arguments : goal.invariant-arguments
invariant-arguments g l = string_bytes l.text ≡ string_bytes l.initial.text ++ arguments_lines (g.S.Scope.config l.scope) (g.S.Scope.unit l.scope) l.instance (take l.argument-index l.arguments)
