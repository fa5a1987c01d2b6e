use Rattle.std.proofs.Common.{subst}
use Rattle.scan_task.specs.Scanning.{Program}
use Rattle.group_laws.specs.Runs.{IsReached}
use Rattle.group_state.proofs.Beginning.{rests_by}
use Rattle.group_state.proofs.begin.resumed.Goals as goal

pub returns-clause-rests : goal.returns-clause-rests
returns-clause-rests c =
    let world = c.in_ok-world.world.world in
    rests_by c.args.verified.config c.config-config.ensures.runnable c.args.core.group world c.in_ok-world.ensures.world
    (subst (λ (p : Program). IsReached p.config world) c.in_ok-world.ensures.same c.image-image.ensures.reached)
