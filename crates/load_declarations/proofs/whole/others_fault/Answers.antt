use Rattle.std.proofs.Common.{subst}
use Rattle.il_statics.specs.Least.{IsLeast}
use Rattle.il_statics.proofs.Least.{least_both}
use Rattle.load_declarations.specs.Whole.{SecondNames}
use Rattle.load_declarations.proofs.whole.others_fault.Goals as goal

pub returns : goal.returns
returns c =
    least_both _ _ c.in_ok-globals.globals c.earlier.result c.earlier-2.result c.earlier-2.ensures c.in_ok-globals.ensures
    (least_both _ _ c.in_ok-second.second c.in_ok-tasks.tasks c.earlier.result c.earlier.ensures (subst (λ k. IsLeast c.in_ok-second.second (SecondNames k)) c.config.ensures c.in_ok-second.ensures) c.in_ok-tasks.ensures)
