use Rattle.std.proofs.Common.{◌≡◌, ◌++◌, drop}
use Rattle.load_code.specs.Resolving.{inputs_at}
use Rattle.load_code.proofs.calls.inputs_at.Given as goal

-- the inputs so far, with those that are left, are all
abbrev pub invariant-loop-argument : goal.invariant-loop-argument
invariant-loop-argument l = l.inputs ++ inputs_at l.here.scope.config l.here.scope.unit l.block l.base (drop l.argument-index l.arguments) ≡ inputs_at l.here.scope.config l.here.scope.unit l.block l.base l.arguments
