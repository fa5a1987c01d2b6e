use Rattle.ranges_transfer.proofs.Inputs.{all_then, all_else}
use Rattle.ranges_transfer.proofs.calls.fit_all.Goals as goal

pub returns-then-fits_form : goal.returns-then-fits_form
returns-then-fits_form g c =
    all_then (g.S.Scope.names c.args.scope.now) c.args.row.now c.args.inputs.now c.args.operands.now c.args.first c.fits_form.result c.fit_inputs.result c.in-len1-up.len_at_least c.fits_form.ensures c.if-fits_form.true c.fit_inputs.ensures

pub returns-else-fits_form : goal.returns-else-fits_form
returns-else-fits_form g c =
    all_else (g.S.Scope.names c.args.scope.now) c.args.row.now c.args.inputs.now c.args.operands.now c.args.first c.fits_form.result c.fits_form.ensures c.if-fits_form.false c.in-len1-up.len_at_least
