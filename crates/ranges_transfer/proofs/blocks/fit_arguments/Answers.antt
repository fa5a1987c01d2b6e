use Rattle.std.proofs.Common.{length, refl}
use Rattle.std.proofs.lemmas.Option.{slice_get_read}
use Rattle.ranges_transfer.proofs.Outputs.{misfits, fits_next}
use Rattle.ranges_transfer.proofs.blocks.fit_arguments.Goals as goal

pub returns-then-not-fits_argument : goal.returns-then-not-fits_argument
returns-then-not-fits_argument g c =
    misfits (g.S.Scope.names c.args.scope.now) c.args.row.now c.args.instance.now c.args.arguments.now c.loop-argument.argument-index c.argument-item.result c.fits_argument.result c.loop-argument.invariant
    (slice_get_read c.args.arguments.now (length c.args.arguments.now) c.loop-argument.argument-index c.argument-item.result refl c.loop-argument-test.true c.argument-item.is) c.fits_argument.ensures c.if-not-fits_argument.true

pub loop-argument-preserved : goal.loop-argument-preserved
loop-argument-preserved g c =
    fits_next (g.S.Scope.names c.args.scope.now) c.args.row.now c.args.instance.now c.args.arguments.now c.loop-argument.argument-index c.argument-item.result c.fits_argument.result c.loop-argument.invariant
    (slice_get_read c.args.arguments.now (length c.args.arguments.now) c.loop-argument.argument-index c.argument-item.result refl c.loop-argument-test.true c.argument-item.is) c.fits_argument.ensures c.if-not-fits_argument.false
