use Rattle.std.proofs.Common.{subst}
use Rattle.std.specs.Prelude.{Ok}
use Rattle.trace_text.specs.Reading.{Reads, ReadsFront}
use Rattle.trace_text.proofs.Traces.{front_truncated, refused_so}
use Rattle.trace_text.proofs.read.read_lines.Goals as goal

pub returns-in_err-events : goal.returns-in_err-events
returns-in_err-events c = refused_so (λ events. Reads c.args.cars c.args.text.now (Ok events.items)) c.args.cars c.args.text.now c.in_err-events.field-0.0 c.from_residual.result c.from_residual.ensures.1 c.in_err-events.ensures

pub returns-in-Some : goal.returns-in-Some
returns-in-Some c =
    front_truncated c.args.cars c.args.text.now c.in_ok-events.field-0.events c.in-Some.line (subst (ReadsFront c.args.cars c.args.text.now c.in_ok-events.field-0.events) c.in-Some.is c.in_ok-events.ensures)
