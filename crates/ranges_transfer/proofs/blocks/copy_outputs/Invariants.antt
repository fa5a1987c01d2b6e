use Rattle.ranges_transfer.proofs.Outputs.{RowOn}
use Rattle.ranges_transfer.proofs.blocks.copy_outputs.Given as goal

abbrev pub invariant-loop-argument : goal.invariant-loop-argument
invariant-loop-argument g l = RowOn (g.S.Scope.names l.scope) l.instance l.arguments l.argument-index l.initial.row l.row
