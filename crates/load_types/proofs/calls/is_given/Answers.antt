use Rattle.std.proofs.Common.{length, refl}
use Rattle.std.proofs.lemmas.Option.{slice_get_read}
use Rattle.load_types.proofs.Arguments.{given_next}
use Rattle.load_types.proofs.calls.is_given.Goals as goal

pub loop-argument-preserved : goal.loop-argument-preserved
loop-argument-preserved c =
    given_next c.args.arguments.now c.loop-argument.argument-index c.argument-item.result c.args.word.now c.argument_word.result.now c.eq.result c.loop-argument.given c.either-given.result
    (slice_get_read c.args.arguments.now (length c.args.arguments.now) c.loop-argument.argument-index c.argument-item.result refl c.loop-argument-test.true c.argument-item.is) c.argument_word.ensures c.eq.ensures c.loop-argument.invariant c.either-given.ensures
