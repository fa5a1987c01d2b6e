use Rattle.std.proofs.Common.{◌≡◌, ◌++◌, take, string_bytes}
use Rattle.reasons_types.specs.KindReasons.{argument_kinds}
use Rattle.reasons_types.proofs.types_kinds.put_arguments.Given as goal

-- the arguments so far
abbrev pub invariant-arguments : goal.invariant-arguments
invariant-arguments l = string_bytes l.text ≡ string_bytes l.initial.text ++ argument_kinds l.scope.config l.scope.unit (take l.argument-index l.arguments)
