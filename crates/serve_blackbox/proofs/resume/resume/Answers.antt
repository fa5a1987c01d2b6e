use Rattle.std.proofs.Common.{◌≡◌, ◌∙◌, subst, inr, None}
use Rattle.scan_task.specs.Scanning.{Program}
use Rattle.cli_host.specs.declared.status.Fault.{Fault}
use Rattle.serve_lines.specs.Going.{GoesOn}
use Rattle.serve_blackbox.specs.declared.resume.Origin.{Origin}
use Rattle.serve_blackbox.specs.Resuming.{IsLeft, IsNotLeft, LeadsNowhere, unfinished}
use Rattle.serve_blackbox.proofs.Beginning.{begins_closed, if_ok_map, if_err_map, if_ok_both}
use Rattle.serve_blackbox.proofs.resume.resume.Goals as goal

pub gone_on-requires-clause-closed : goal.gone_on-requires-clause-closed
gone_on-requires-clause-closed c = begins_closed c.args.verified.config c.in_ok-beginning.beginning.world.world c.in_ok-beginning.ensures.rests

pub returns-clause-left : goal.returns-clause-left
returns-clause-left c =
    let b = c.in_ok-beginning.beginning in
    if_ok_both (λ (o : Origin). GoesOn b.world.program.config b.world.world b.events o.world.world o.dropped) (λ (o : Origin). unfinished b.lines b.events b.cut ≡ None) (λ (o : Origin). IsLeft c.args.verified.config c.args.source.now c.args.trace.now o.world.world o.dropped) c.gone_on.result
    (λ (o : Origin) goes_on whole.
    record {
      base = b.world.world;
      events = b.events;
      lines = b.lines;
      cut = b.cut;
      begins = c.in_ok-beginning.ensures.begins;
      whole = whole;
      goes_on = subst (λ (p : Program). GoesOn p.config b.world.world b.events o.world.world o.dropped) c.in_ok-beginning.ensures.same goes_on;
    })
    c.gone_on.ensures.goes_on c.gone_on.ensures.whole

pub returns-clause-same : goal.returns-clause-same
returns-clause-same c =
    if_ok_map (λ (o : Origin). o.world.program ≡ c.in_ok-beginning.beginning.world.program) (λ (o : Origin). o.world.program ≡ c.args.verified) c.gone_on.result (λ (o : Origin) same. same ∙ c.in_ok-beginning.ensures.same) c.gone_on.ensures.same

pub returns-clause-fault : goal.returns-clause-fault
returns-clause-fault c =
    let b = c.in_ok-beginning.beginning in
    if_err_map (LeadsNowhere b.world.program.config b.world.world b.events b.lines b.cut) (IsNotLeft c.args.verified.config c.args.source.now c.args.trace.now) c.gone_on.result
    (λ (f : Fault) nowhere. inr (b.world.world, b.events, b.lines, b.cut, c.in_ok-beginning.ensures.begins, subst (λ (p : Program). LeadsNowhere p.config b.world.world b.events b.lines b.cut f) c.in_ok-beginning.ensures.same nowhere))
    c.gone_on.ensures.broken
