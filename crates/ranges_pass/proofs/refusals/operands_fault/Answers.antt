use Rattle.std.proofs.Common.{length, refl, arith}
use Rattle.std.proofs.lemmas.Option.{slice_get_read}
use Rattle.ranges_pass.specs.RangeFaults.{range_fault_number}
use Rattle.ranges_pass.proofs.Numbered.{operand_outside, operand_goes_on, operands_end}
use Rattle.ranges_pass.proofs.refusals.operands_fault.Goals as goal

pub returns-then-not-is_inside : goal.returns-then-not-is_inside
returns-then-not-is_inside g c =
    operand_outside (g.S.Scope.names c.args.scope.now) c.args.row.now c.args.operands.now c.loop-operand.operand-index c.operand-item.result c.is_inside.result (range_fault_number c.args.fault) c.loop-operand.invariant
    (slice_get_read c.args.operands.now (length c.args.operands.now) c.loop-operand.operand-index c.operand-item.result refl c.loop-operand-test.true c.operand-item.is) c.is_inside.ensures c.if-not-is_inside.true

pub loop-operand-preserved : goal.loop-operand-preserved
loop-operand-preserved g c =
    operand_goes_on (g.S.Scope.names c.args.scope.now) c.args.row.now c.args.operands.now c.loop-operand.operand-index c.operand-item.result c.is_inside.result (range_fault_number c.args.fault) c.loop-operand.invariant
    (slice_get_read c.args.operands.now (length c.args.operands.now) c.loop-operand.operand-index c.operand-item.result refl c.loop-operand-test.true c.operand-item.is) c.is_inside.ensures c.if-not-is_inside.false

pub returns : goal.returns
returns g c = operands_end (g.S.Scope.names c.args.scope.now) c.args.row.now c.args.operands.now c.loop-operand.operand-index (range_fault_number c.args.fault) c.loop-operand.invariant (omega (arith, c.loop-operand-test.false, c.loop-operand.auto.operand-index-end))
