use Rattle.std.proofs.Common.{rules, subst}
use Rattle.scan_task.specs.Scanning.{Program}
use Rattle.cli_output.specs.Parts.{AreFollowed}
use Rattle.cli_output.proofs.Followed.{followed_is, unread_is}
use Rattle.cli_output.proofs.outcome.followed_text.Goals as goal

pub returns-in_err-whole-clause-is : goal.returns-in_err-whole-clause-is
returns-in_err-whole-clause-is c =
    let e = c.from_residual.ensures in
    let h = unread_is c.args.telling c.args.verified c.args.source.now c.args.text.now c.in_err-whole.field-0.0 c.in_err-whole.ensures.err in
    search (rules, e, h)

pub returns-clause-is : goal.returns-clause-is
returns-clause-is c =
    let b = c.in_ok-whole.whole in
    followed_is c.args.telling c.args.verified c.args.source.now c.args.text.now (record { from = b.world.world; events = b.events; lines = b.lines; begins = c.in_ok-whole.ensures.begins }) c.followed_events.result
    (subst (λ (p : Program). AreFollowed c.args.telling p b.world.world b.events b.lines c.followed_events.result) c.in_ok-whole.ensures.same c.followed_events.ensures.is)
