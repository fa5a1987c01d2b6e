use Rattle.std.proofs.Common.{rules, ℕ, Option, subst, sym}
use Rattle.group_state.specs.Beginnings.{BeginsTrace}
use Rattle.cli_output.specs.Parts.{IsTraceUnread}
use Rattle.cli_output.proofs.Begun.{unbegun_is, cut_off_is}
use Rattle.cli_output.proofs.outcome.whole_of.Goals as goal

pub returns-in_err-world-clause-err : goal.returns-in_err-world-clause-err
returns-in_err-world-clause-err c =
    let e = c.from_residual.ensures in
    let h = unbegun_is c.args.verified c.args.source.now c.args.text.now c.in_err-world.field-0.0 c.in_err-world.ensures.fault in
    search (rules, e, h)

pub returns-in-None-clause-begins : goal.returns-in-None-clause-begins
returns-in-None-clause-begins c =
    let b = c.in_ok-world.field-0 in
    subst (λ (cut : Option ℕ). BeginsTrace c.args.verified.config c.args.source.now c.args.text.now b.world.world b.events b.lines cut) c.in-None.is c.in_ok-world.ensures.begins

pub returns-in-Some-clause-err : goal.returns-in-Some-clause-err
returns-in-Some-clause-err c =
    let b = c.in_ok-world.field-0 in
    subst (IsTraceUnread c.args.verified c.args.source.now c.args.text.now) (sym c.refused.ensures)
    (cut_off_is c.args.verified c.args.source.now c.args.text.now b.world.world b.events b.lines b.cut c.in-Some.line c.in_ok-world.ensures.begins c.in-Some.is)
