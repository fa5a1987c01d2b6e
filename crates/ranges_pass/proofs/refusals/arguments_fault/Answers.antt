use Rattle.std.proofs.Common.{length, refl, arith}
use Rattle.std.proofs.lemmas.Option.{slice_get_read}
use Rattle.ranges_pass.proofs.Numbered.{argument_outside, argument_inside, arguments_end}
use Rattle.ranges_pass.proofs.refusals.arguments_fault.Goals as goal

pub returns-then-not-is_argument_inside : goal.returns-then-not-is_argument_inside
returns-then-not-is_argument_inside g c =
    argument_outside (g.S.Scope.names c.args.scope.now) c.args.row.now c.args.arguments.now c.loop-argument.argument-index c.argument-item.result c.is_argument_inside.result c.loop-argument.invariant
    (slice_get_read c.args.arguments.now (length c.args.arguments.now) c.loop-argument.argument-index c.argument-item.result refl c.loop-argument-test.true c.argument-item.is) c.is_argument_inside.ensures c.if-not-is_argument_inside.true

pub loop-argument-preserved : goal.loop-argument-preserved
loop-argument-preserved g c =
    argument_inside (g.S.Scope.names c.args.scope.now) c.args.row.now c.args.arguments.now c.loop-argument.argument-index c.argument-item.result c.is_argument_inside.result c.loop-argument.invariant
    (slice_get_read c.args.arguments.now (length c.args.arguments.now) c.loop-argument.argument-index c.argument-item.result refl c.loop-argument-test.true c.argument-item.is) c.is_argument_inside.ensures c.if-not-is_argument_inside.false

pub returns : goal.returns
returns g c = arguments_end (g.S.Scope.names c.args.scope.now) c.args.row.now c.args.arguments.now c.loop-argument.argument-index c.loop-argument.invariant (omega (arith, c.loop-argument-test.false, c.loop-argument.auto.argument-index-end))
