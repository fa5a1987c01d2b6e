use Rattle.std.proofs.Common.{get_or, refl, sym, arith}
use Rattle.std.proofs.lemmas.Option.{slice_get-get_or}
use Rattle.ranges_transfer.proofs.Inputs.{other_length, misfit, fits_on, all_are}
use Rattle.ranges_transfer.proofs.calls.fit_inputs.Goals as goal

pub returns-then-inputs-operands : goal.returns-then-inputs-operands
returns-then-inputs-operands g c = λ forms same. sym (other_length (g.S.Scope.names c.args.scope.now) c.args.row.now forms c.args.operands.now (λ e. c.if-inputs-operands.true (rw same e)))

pub loop-at-init : goal.loop-at-init
loop-at-init g c = (c.if-inputs-operands.false, λ forms same. refl)

pub returns-then-not-fits_input : goal.returns-then-not-fits_input
returns-then-not-fits_input g c =
    misfit (g.S.Scope.names c.args.scope.now) c.args.row.now c.args.inputs.now c.args.operands.now c.loop-at.at (get_or c.args.operands.now c.loop-at.at c.index-operands-at.result) c.fits_input.result c.loop-at.invariant c.loop-at-test.true (slice_get-get_or c.args.operands.now c.loop-at.at c.index-operands-at.result c.loop-at-test.true) c.fits_input.ensures c.if-not-fits_input.true

pub loop-at-preserved : goal.loop-at-preserved
loop-at-preserved g c =
    fits_on (g.S.Scope.names c.args.scope.now) c.args.row.now c.args.inputs.now c.args.operands.now c.loop-at.at (get_or c.args.operands.now c.loop-at.at c.index-operands-at.result) c.fits_input.result c.loop-at.invariant c.loop-at-test.true (slice_get-get_or c.args.operands.now c.loop-at.at c.index-operands-at.result c.loop-at-test.true) c.fits_input.ensures c.if-not-fits_input.false

pub returns : goal.returns
returns g c = all_are (g.S.Scope.names c.args.scope.now) c.args.row.now c.args.inputs.now c.args.operands.now c.loop-at.at c.loop-at.invariant (omega (arith, c.loop-at-test.false, c.loop-at.auto.at-end))
