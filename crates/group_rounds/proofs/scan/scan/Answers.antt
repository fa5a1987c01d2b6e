use Rattle.std.proofs.Common.{subst}
use Rattle.scan_task.specs.Scanning.{Program, IsRunnable}
use Rattle.group_rounds.proofs.Taking.{none_open, scans, closes}
use Rattle.group_rounds.proofs.scan.scan.Goals as goal

pub scan_whole-requires-clause-closed : goal.scan_whole-requires-clause-closed
scan_whole-requires-clause-closed c = none_open c.args.world.now.world c.args.task c.requires.closed

pub returns-clause-scan : goal.returns-clause-scan
returns-clause-scan c = scans c.args.world.now.program c.args.world.now.world c.scan_whole.new.self.world c.args.task c.scan_whole.new.report c.scan_whole.ensures.scan

pub returns-clause-closed : goal.returns-clause-closed
returns-clause-closed c =
    closes c.args.world.now.program c.args.world.now.world c.scan_whole.new.self.world c.args.task c.scan_whole.new.report c.scan_whole.ensures.scan
    (subst (λ (p : Program). IsRunnable p.config) c.verified.ensures c.config-config.ensures.runnable) c.scan_whole.ensures.reached c.requires.closed
