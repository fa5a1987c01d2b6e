use Rattle.il_statics.proofs.Least.{least_both, least_wider}
use Rattle.il_statics.specs.Faults.{BreaksDeclarations}
use Rattle.load_declarations.specs.Whole.{AllBreak}
use Rattle.load_declarations.proofs.AllBroken.{is_broken, broken_is}
use Rattle.load_declarations.proofs.whole.declared_fault.Goals as goal

pub returns : goal.returns
returns c =
    least_wider (AllBreak c.args.names.now) (BreaksDeclarations c.args.names.now) c.earlier.result (least_both _ _ c.in_ok-units.units c.in_ok-others.others c.earlier.result c.earlier.ensures c.in_ok-units.ensures c.in_ok-others.ensures)
    (is_broken c.args.names.now) (broken_is c.args.names.now)
