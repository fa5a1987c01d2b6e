use Rattle.std.proofs.Common.{◌≡◌, ◌++◌, drop}
use Rattle.load_code.specs.Resolving.{outputs_at}
use Rattle.load_code.proofs.calls.outputs_at.Given as goal

-- the outputs so far, with those that are left, are all
abbrev pub invariant-loop-argument : goal.invariant-loop-argument
invariant-loop-argument l = l.outputs ++ outputs_at l.here.scope.config l.here.scope.unit l.block l.base (drop l.argument-index l.arguments) ≡ outputs_at l.here.scope.config l.here.scope.unit l.block l.base l.arguments
