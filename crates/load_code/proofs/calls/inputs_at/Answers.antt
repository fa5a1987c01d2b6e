use Rattle.std.proofs.Common.{arith}
use Rattle.load_code.specs.Resolving.{inputs_at}
use Rattle.load_code.proofs.Resolve.{next_input}
use Rattle.load_code.proofs.calls.inputs_at.Goals as goal

pub loop-argument-preserved : goal.loop-argument-preserved
loop-argument-preserved c =
    let h = c.args.here.now.scope in
    next_input h.config h.unit c.args.block c.args.base c.args.arguments.now c.loop-argument.argument-index c.argument-item.result c.loop-argument.inputs c.add_input.new.inputs (inputs_at h.config h.unit c.args.block c.args.base c.args.arguments.now)
    (omega arith) c.argument-item.is c.in_ok-add_input.ensures c.loop-argument.invariant
