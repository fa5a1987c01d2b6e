use Rattle.std.proofs.Common.{◌≡◌, ◌++◌, drop}
use Rattle.load_code.specs.Resolving.{arguments_at}
use Rattle.load_code.proofs.invokes.arguments.Given as goal

-- the arguments so far, with those that are left, are all
abbrev pub invariant-loop-at : goal.invariant-loop-at
invariant-loop-at l =
    l.all ++ arguments_at l.here.scope.config l.here.scope.unit l.unit (drop l.at l.inputs) (drop l.at l.from) ≡ arguments_at l.here.scope.config l.here.scope.unit l.unit l.inputs l.from
