use Rattle.std.proofs.Common.{subst}
use Rattle.scan_task.specs.Scanning.{Program, IsRunnable}
use Rattle.scan_task.proofs.Scans.{sound_of}
use Rattle.group_laws.proofs.Accepted.{accepted_runs_well}
use Rattle.group_laws.proofs.Histories.{from_base}
use Rattle.liftplc_c.proofs.history.led.Goals as goal

pub returns : goal.returns
returns c =
    let w = c.args.world.now in
    let runs = subst (λ (p : Program). IsRunnable p.config) c.verified.ensures c.config-config.ensures.runnable in
    record {
      reached = c.image-image.ensures.reached;
      well = λ base begins events replies is. (from_base w.program.config (accepted_runs_well w.program.config (sound_of w.program.config runs)) base begins).well events w.world replies is;
      ranges = c.image-image.ensures.ranges;
      obeys = c.image-image.ensures.obeys;
    }
