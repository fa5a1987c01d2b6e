use Rattle.std.proofs.Common.{subst, ℕ}
use Rattle.scan_task.specs.Standing.{IsOf}
use Rattle.group_journal.specs.Pages.{IsSnapped}
use Rattle.threads_station.specs.Passes.{count_of}
use Rattle.threads_station.proofs.station.Station.start.Goals as goal

pub returns-in-Ok-clause-begins : goal.returns-in-Ok-clause-begins
returns-in-Ok-clause-begins g c =
    let config = g.G.Naming.program.config in
    let parts = c.into_parts-share.ensures.share in
    subst (λ (n : ℕ). IsOf config c.args.pass.task c.in-Ok.open × IsSnapped config c.args.pass.task n c.in-Ok.open.state) parts.1
    (subst (λ (t : ℕ). IsOf config t c.in-Ok.open × IsSnapped config t (count_of c.into_parts-share.result.0) c.in-Ok.open.state) parts.0 c.in-Ok.ensures.begins)
