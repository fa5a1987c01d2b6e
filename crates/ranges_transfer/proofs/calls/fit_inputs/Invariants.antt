use Rattle.ranges_transfer.proofs.Inputs.{IsLeft}
use Rattle.ranges_transfer.proofs.calls.fit_inputs.Given as goal

abbrev pub invariant-loop-at : goal.invariant-loop-at
invariant-loop-at g l = IsLeft (g.S.Scope.names l.scope) l.row l.inputs l.operands l.at
