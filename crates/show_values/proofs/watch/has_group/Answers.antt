use Rattle.std.proofs.Common.{ap, subst, ◌∙◌}
use Rattle.scan_task.specs.Scanning.{Program, IsRunnable}
use Rattle.scan_task.proofs.Scans.{sound_of}
use Rattle.group_spec.specs.Snapshot.{has_task}
use Rattle.group_rounds.proofs.Grouping.{group_there}
use Rattle.show_values.proofs.watch.has_group.Goals as goal

pub returns : goal.returns
returns c =
    let p = c.args.world.now.program in
    let runs = subst (λ (x : Program). IsRunnable x.config) c.verified-verified.ensures c.config-config.ensures.runnable in
    c.has_task.ensures ∙ ap (λ (x : Program). has_task x.config 0) c.verified-verified.ensures ∙ group_there p.config (sound_of p.config runs) c.args.world.now.world c.image-image.ensures.reached
