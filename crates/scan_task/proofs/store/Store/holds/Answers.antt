use Rattle.std.proofs.Common.{subst}
use Rattle.il_syntax.specs.declared.tree.Unit.{Unit as ProgramUnit}
use Rattle.group_laws.specs.Scans.{ScanHolds}
use Rattle.group_laws.specs.Tasks.{IsTaskOf}
use Rattle.scan_task.specs.Standing.{Standing}
use Rattle.scan_task.proofs.Standing.{holds_of}
use Rattle.scan_task.proofs.store.Store.holds.Goals as goal

pub returns : goal.returns
returns c =
    subst (λ (s : Standing). (u : ProgramUnit) → IsTaskOf s.config s.task u → ScanHolds s.config s.task u 0 s.state) c.self.view_is
    (holds_of c.self.inside.program.value.config c.self.invariant.0 c.self.inside.task c.self.inside.scan.value c.self.invariant.1)
