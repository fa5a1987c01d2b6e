use Rattle.il_statics.proofs.Least.{least_both}
use Rattle.load_declarations.proofs.units.again_fault.Goals as goal

pub returns : goal.returns
returns c = least_both _ _ c.in_ok-variable.variable c.in_ok-label.label c.earlier.result c.earlier.ensures c.in_ok-variable.ensures c.in_ok-label.ensures
