use Rattle.std.proofs.Common.{◌≡◌}
use Rattle.group_spec.specs.World.{opening}
use Rattle.group_journal.specs.Closed.{IsClosed}
use Rattle.serve_blackbox.specs.declared.resume.Origin.{Origin}
use Rattle.cli_command.proofs.Beginning.{opening_closed, if_ok_map}
use Rattle.cli_command.proofs.origin.origin_of.Goals as goal

pub returns-in_default-clause-closed : goal.returns-in_default-clause-closed
returns-in_default-clause-closed g c =
    if_ok_map (λ (o : Origin). o.world.world ≡ opening c.args.verified.config) (λ (o : Origin). IsClosed o.world.world) c.opened.result (λ (o : Origin) is. opening_closed c.args.verified.config o.world.world is) c.opened.ensures.opening
