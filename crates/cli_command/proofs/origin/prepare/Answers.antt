use Rattle.std.proofs.Common.{ap, ◌∙◌, subst}
use Rattle.scan_task.specs.Scanning.{Program}
use Rattle.serve_blackbox.specs.Heads.{IsAgain, head_text}
use Rattle.cli_command.proofs.origin.prepare.Goals as goal

pub returns-in-Ok-clause-prepared : goal.returns-in-Ok-clause-prepared
returns-in-Ok-clause-prepared g c =
    let o = c.in_ok-world.field-0 in
    record {
      dropped = o.dropped;
      origin = c.in_ok-world.ensures.origin;
      head = c.in-Ok.ensures.head ∙ ap (λ (p : Program). head_text p.config c.args.source.now o.world.world) c.in_ok-world.ensures.same;
      events = c.in-Ok.ensures.events;
      again = subst (λ (p : Program). IsAgain p.config o.world.world) c.in_ok-world.ensures.same (c.in-Ok.ensures.again c.in_ok-world.ensures.closed);
      told = c.in-Ok.ensures.told;
    }
