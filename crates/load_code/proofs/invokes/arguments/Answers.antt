use Rattle.std.proofs.Common.{◌≡◌, length, arith}
use Rattle.std.specs.Prelude.{min}
use Rattle.load_code.specs.Resolving.{arguments_at}
use Rattle.load_code.proofs.Invoking.{arguments_end}
use Rattle.load_code.proofs.invokes.arguments.Goals as goal

pub returns : goal.returns
returns c =
    let h = c.args.here.now in
    let count : c.min-count.result ≡ min (length c.args.inputs.now) (length c.args.from.now) = c.min-count.ensures in
    arguments_end h.scope.config h.scope.unit c.args.unit c.args.inputs.now c.args.from.now c.loop-at.all (arguments_at h.scope.config h.scope.unit c.args.unit c.args.inputs.now c.args.from.now) c.loop-at.at (omega (arith, count, c.loop-at-test.false)) c.loop-at.invariant
