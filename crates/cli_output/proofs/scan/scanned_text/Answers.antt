use Rattle.std.proofs.Common.{rules, subst}
use Rattle.scan_task.specs.Scanning.{Program}
use Rattle.cli_output.specs.Parts.{AreScanned}
use Rattle.cli_output.proofs.Scanned.{scanned_is, unscanned_is}
use Rattle.cli_output.proofs.scan.scanned_text.Goals as goal

pub returns-in_err-whole-clause-is : goal.returns-in_err-whole-clause-is
returns-in_err-whole-clause-is c =
    let e = c.from_residual.ensures in
    let h = unscanned_is c.args.traced c.args.verified c.args.asked c.args.source.now c.args.text.now c.requires c.in_err-whole.field-0.0 c.in_err-whole.ensures.err in
    search (rules, e, h)

pub returns-clause-is : goal.returns-clause-is
returns-clause-is c =
    let b = c.in_ok-whole.whole in
    scanned_is c.args.traced c.args.verified c.args.asked c.args.source.now c.args.text.now c.requires
    (record { from = b.world.world; events = b.events; lines = b.lines; begins = c.in_ok-whole.ensures.begins }) c.scanned_events.result
    (subst (λ (p : Program). AreScanned c.args.traced p c.args.asked c.args.source.now b.world.world b.events b.lines c.scanned_events.result) c.in_ok-whole.ensures.same c.scanned_events.ensures.is)
