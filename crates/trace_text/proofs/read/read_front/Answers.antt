use Rattle.std.proofs.Common.{arith, refl}
use Rattle.trace_text.proofs.Traces.{front_behind, reads_no_format}
use Rattle.trace_text.proofs.read.read_front.Goals as goal

pub returns-in_default : goal.returns-in_default
returns-in_default c = (omega arith, c.in_default.ensures.none, refl)

pub returns-in-None : goal.returns-in-None
returns-in-None c = reads_no_format c.args.cars c.args.text.now c.in-Some.first.now c.in-Some.rest.now (omega arith) c.in-Some.ensures.found.0 c.in-Some.ensures.found.1 c.in-None.ensures.none

pub returns-in-Some-format_of : goal.returns-in-Some-format_of
returns-in-Some-format_of c =
    front_behind c.in-Some-format_of.format c.args.cars c.args.text.now c.in-Some.first.now c.in-Some.rest.now c.read_events.result c.in-Some.ensures.found.0 c.in-Some-format_of.ensures.found c.read_events.ensures
