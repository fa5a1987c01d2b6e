use Rattle.std.proofs.Common.{ℕ, ◌+◌, subst}
use Rattle.std.specs.Prelude.{IfOk}
use Rattle.scan_task.specs.Standing.{Standing}
use Rattle.group_journal.specs.Pages.{IsSnapped}
use Rattle.threads_station.specs.Passes.{task_of, count_of}
use Rattle.threads_station.proofs.station.Station.turn.Goals as goal

pub returns-in-Ok-clause-begins : goal.returns-in-Ok-clause-begins
returns-in-Ok-clause-begins g c =
    let config = g.G.Naming.program.config in
    let share = c.into_parts-share.result.0 in
    let parts = c.into_parts-share.ensures.share in
    subst (λ (n : ℕ). IfOk c.in-Ok.next (λ (o : Standing). IsSnapped config c.args.pass.task (n + 1) o.state)) parts.1
    (subst (λ (t : ℕ). IfOk c.in-Ok.next (λ (o : Standing). IsSnapped config t (count_of share + 1) o.state)) parts.0 c.in-Ok.ensures.begins)
