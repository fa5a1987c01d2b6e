use Rattle.ranges_pass.specs.RangeFaults.{range_fault_number}
use Rattle.ranges_pass.proofs.Numbered.{OperandsOn}
use Rattle.ranges_pass.proofs.refusals.operands_fault.Given as goal

abbrev pub invariant-loop-operand : goal.invariant-loop-operand
invariant-loop-operand g l = OperandsOn (g.S.Scope.names l.scope) l.row l.operands l.operand-index (range_fault_number l.fault)
