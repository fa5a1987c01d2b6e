use Rattle.std.proofs.Common.{◌≡◌, ◌++◌, [], take, string_bytes}
use Rattle.il_statics.specs.Types.{instance_block}
use Rattle.reasons_types.specs.ArgumentReasons.{arguments_lines}
use Rattle.reasons_types.proofs.types_arguments.put_arguments.Given as goal

-- the arguments so far
abbrev pub invariant-arguments : goal.invariant-arguments
invariant-arguments l = string_bytes l.text ≡ string_bytes l.initial.text ++ arguments_lines (instance_block l.scope.config l.scope.unit l.instance) l.instance [] (take l.at l.arguments)
