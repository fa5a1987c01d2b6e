use Rattle.std.proofs.Common.{length, refl}
use Rattle.std.proofs.lemmas.Option.{slice_get_read}
use Rattle.ranges_transfer.proofs.Outputs.{copied_next}
use Rattle.ranges_transfer.proofs.blocks.copy_outputs.Goals as goal

pub loop-argument-preserved : goal.loop-argument-preserved
loop-argument-preserved g c =
    copied_next (g.S.Scope.names c.args.scope.now) c.args.instance.now c.args.arguments.now c.loop-argument.argument-index c.argument-item.result c.args.row.now c.loop-argument.row c.copy_argument.new.row c.loop-argument.invariant
    (slice_get_read c.args.arguments.now (length c.args.arguments.now) c.loop-argument.argument-index c.argument-item.result refl c.loop-argument-test.true c.argument-item.is) c.copy_argument.ensures
