use Rattle.std.proofs.Common.{◌≡◌, ◌+◌, ◌++◌, ap}
use Rattle.threads_desk.specs.Account.{times, membership}
use Rattle.threads_desk.specs.Passes.{Holding}
use Rattle.group_spec.specs.declared.calls.Call.{Call}
use Rattle.threads_station.specs.Counted.{calls_in}
use Rattle.threads_workers.proofs.Keeping.{entered_on, on_ok}
use Rattle.threads_workers.proofs.refresher.round.Goals as goal

pub returns-clause-entered : goal.returns-clause-entered
returns-clause-entered g c =
    let pass = c.args.refresher.pass in
    let calls = calls_in c.drive-pass.new.report in
    let done = on_ok c.drive-pass.result.2 c.in_ok-driven.field-0 (c.drive-pass.result.0 ≡ record { refreshes = pass.refreshes + 1; entered = pass.entered ++ calls; driven = pass.driven + 1 }) c.in_ok-driven.was c.drive-pass.ensures.pass in
    let left = on_ok c.drive-pass.result.2 c.in_ok-driven.field-0 ((call : Call) → times call calls + membership c.drive-pass.result.1.hand call ≡ membership c.gather-hand.result.hand call) c.in_ok-driven.was c.drive-pass.ensures.left in
    entered_on pass.entered c.drive-pass.result.0.entered calls c.args.refresher.hand c.gather-hand.result c.drive-pass.result.1 c.requires.entered c.gather-hand.ensures (ap (λ p. p.entered) done) (ap (λ (h : Holding). h.gathered) c.drive-pass.ensures.rest) left
