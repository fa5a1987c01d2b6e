use Rattle.std.proofs.Common.{◌≡◌, false, take}
use Rattle.reasons_types.specs.ArgumentReasons.{is_given}
use Rattle.reasons_types.proofs.types_arguments.is_given.Given as goal

-- none so far
abbrev pub invariant-arguments : goal.invariant-arguments
invariant-arguments l = is_given (take l.argument-index l.arguments) l.word ≡ false
