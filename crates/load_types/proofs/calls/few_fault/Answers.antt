use Rattle.std.proofs.Common.{length, refl, take}
use Rattle.std.proofs.lemmas.Option.{slice_get_read}
use Rattle.load_types.proofs.Arguments.{one_argument}
use Rattle.load_types.proofs.calls.few_fault.Goals as goal

pub loop-at-preserved : goal.loop-at-preserved
loop-at-preserved g c block is =
    one_argument (g.S.Scope.config c.args.scope.now) (g.S.Scope.unit c.args.scope.now) block c.args.arguments.now c.loop-at.at c.index-arguments-at.result (take c.loop-at.at c.args.arguments.now) c.argument_word.result.now c.is_given-given.result c.unless.result c.argument_fault.result c.lower-here.result c.loop-at.fault c.lower-fault.result
    (slice_get_read c.args.arguments.now (length c.args.arguments.now) c.loop-at.at c.index-arguments-at.result refl c.loop-at-test.true c.index-arguments-at.is) refl c.argument_word.ensures c.is_given-given.ensures c.unless.ensures (c.argument_fault.ensures block is) c.lower-here.ensures c.lower-fault.ensures (c.loop-at.invariant block is)
