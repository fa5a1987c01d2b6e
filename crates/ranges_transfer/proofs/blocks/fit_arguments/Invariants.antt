use Rattle.ranges_transfer.proofs.Outputs.{FitOn}
use Rattle.ranges_transfer.proofs.blocks.fit_arguments.Given as goal

abbrev pub invariant-loop-argument : goal.invariant-loop-argument
invariant-loop-argument g l = FitOn (g.S.Scope.names l.scope) l.row l.instance l.arguments l.argument-index
