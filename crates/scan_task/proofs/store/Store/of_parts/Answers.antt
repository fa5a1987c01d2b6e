use Rattle.std.proofs.Common.{sym, subst}
use Rattle.scan_task.specs.Scanning.{Program, IsRunnable, IsScanOf}
use Rattle.scan_task.specs.Starting.{FitsTask}
use Rattle.scan_task.proofs.store.Store.of_parts.Goals as goal

pub invariant_of-result : goal.invariant_of-result
invariant_of-result c =
    subst (λ (p : Program). IsRunnable p.config × IsScanOf p.config c.args.task c.args.scan.value × FitsTask p.config c.args.task c.args.first) (sym c.of.ensures)
    (c.requires.runs, c.requires.scan, c.requires.room)
