use Rattle.std.proofs.Common.{subst}
use Rattle.il_statics.specs.Least.{IsLeast}
use Rattle.il_statics.proofs.Least.{least_both}
use Rattle.load_declarations.specs.Units.{BreaksChecked, DeclaresAgain}
use Rattle.load_declarations.proofs.units.unit_fault.Goals as goal

pub returns : goal.returns
returns c =
    least_both (BreaksChecked c.args.here.now.config c.args.here.now.unit) (DeclaresAgain c.args.here.now.unit) c.checked_fault.result c.in_ok-again.again c.earlier.result c.earlier.ensures c.checked_fault.ensures
    (subst (λ u. IsLeast c.in_ok-again.again (DeclaresAgain u)) c.tree.ensures c.in_ok-again.ensures)
