use Rattle.std.proofs.Common.{ℕ, length, refl, arith}
use Rattle.std.proofs.lemmas.Option.{slice_get_read}
use Rattle.ranges_pass.specs.Numbering.{IsArgumentNumbered}
use Rattle.ranges_pass.proofs.Numbers.{adds_first, adds_next, adds_all, kept_argument}
use Rattle.ranges_pass.proofs.numbering.add_arguments.Goals as goal

pub loop-argument-init : goal.loop-argument-init
loop-argument-init c = adds_first c.args.unit.now (λ ns (at : ℕ) a. IsArgumentNumbered c.args.unit.now ns a) c.args.arguments.now c.args.numbering.now.numbers c.args.numbering.now.declared

pub loop-argument-preserved : goal.loop-argument-preserved
loop-argument-preserved c =
    adds_next c.args.unit.now (λ ns (at : ℕ) a. IsArgumentNumbered c.args.unit.now ns a) c.args.arguments.now c.loop-argument.argument-index c.argument-item.result c.args.numbering.now.numbers c.loop-argument.numbering.numbers c.add_argument.new.numbering.numbers c.args.numbering.now.declared c.loop-argument.numbering.declared c.add_argument.new.numbering.declared
    (λ old new at a kept h. kept_argument c.args.unit.now old new a kept h)
    (slice_get_read c.args.arguments.now (length c.args.arguments.now) c.loop-argument.argument-index c.argument-item.result refl c.loop-argument-test.true c.argument-item.is) c.loop-argument.invariant c.in_ok-add_argument.ensures

pub returns : goal.returns
returns c =
    adds_all c.args.unit.now (λ ns (at : ℕ) a. IsArgumentNumbered c.args.unit.now ns a) c.args.arguments.now c.loop-argument.argument-index (length c.args.arguments.now) c.args.numbering.now.numbers c.loop-argument.numbering.numbers c.args.numbering.now.declared c.loop-argument.numbering.declared
    (omega (arith, c.loop-argument-test.false, c.loop-argument.auto.argument-index-end)) c.loop-argument.invariant
