use Rattle.std.proofs.Common.{arith}
use Rattle.load_code.specs.Resolving.{outputs_at}
use Rattle.load_code.proofs.Resolve.{next_output}
use Rattle.load_code.proofs.calls.outputs_at.Goals as goal

pub loop-argument-preserved : goal.loop-argument-preserved
loop-argument-preserved c =
    let h = c.args.here.now.scope in
    next_output h.config h.unit c.args.block c.args.base c.args.arguments.now c.loop-argument.argument-index c.argument-item.result c.loop-argument.outputs c.add_output.new.outputs (outputs_at h.config h.unit c.args.block c.args.base c.args.arguments.now)
    (omega arith) c.argument-item.is c.in_ok-add_output.ensures c.loop-argument.invariant
