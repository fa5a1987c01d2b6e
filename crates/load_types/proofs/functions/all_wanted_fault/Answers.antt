use Rattle.std.proofs.Common.{arith}
use Rattle.il_statics.specs.Types.{wanted_numbers}
use Rattle.load_types.proofs.Lists.{lowest_next}
use Rattle.load_types.proofs.functions.all_wanted_fault.Goals as goal

pub loop-operand-preserved : goal.loop-operand-preserved
loop-operand-preserved g c =
    lowest_next (λ o. wanted_numbers (g.S.Scope.config c.args.scope.now) (g.S.Scope.unit c.args.scope.now) o.reference c.args.wanted) c.args.operands.now c.loop-operand.operand-index c.operand-item.result c.loop-operand.fault c.wanted_fault.result c.lower-fault.result (omega arith) c.operand-item.is c.loop-operand.invariant c.wanted_fault.ensures c.lower-fault.ensures
