use Rattle.std.proofs.Common.{sym, subst}
use Rattle.il_syntax.specs.declared.tree.Config.{Config}
use Rattle.il_statics.specs.Faults.{Broken, Declaring, HasNoFault}
use Rattle.scan_task.proofs.verified.Verified.sizes.Goals as goal

pub sizes_of-requires : goal.sizes_of-requires
sizes_of-requires c = subst (λ (k : Config). HasNoFault (Broken Declaring k)) (sym c.config.ensures.same) c.config.ensures.runnable.declared
