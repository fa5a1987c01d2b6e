use Rattle.std.proofs.Common.{subst}
use Rattle.scan_task.specs.Standing.{IsScan}
use Rattle.scan_task.proofs.Standing.{ran_is_scan}
use Rattle.scan_task.proofs.scanned.Scanned.is_scan.Goals as goal

pub returns : goal.returns
returns c = subst IsScan c.self.view_is (ran_is_scan _ c.self.invariant.1)
