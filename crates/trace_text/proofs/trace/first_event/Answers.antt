use Rattle.std.proofs.Common.{sym, ◌∙◌}
use Rattle.trace_text.specs.Parts.{short_event}
use Rattle.trace_text.proofs.Left.{event_is, line_is, has_line}
use Rattle.trace_text.proofs.Lines.{line_once}
use Rattle.trace_text.proofs.trace.first_event.Goals as goal

pub returns-in-Some : goal.returns-in-Some
returns-in-Some c = λ e behind h is.
    let told = c.in-Some.ensures c.args.format c.args.cars in
    let both = event_is c.args.format c.args.cars c.args.text.now c.in-Some.behind.now behind (short_event c.in-Some.short) e told.0 told.1 h is in
    (c.event.ensures ∙ both.0, both.1)

pub unreachable-requires : goal.unreachable-requires
unreachable-requires c = has_line c.args.format c.args.text.now c.requires.1 c.requires.0 c.in_default-split_line.ensures.none c.requires.3

pub unreachable-requires-in-None : goal.unreachable-requires-in-None
unreachable-requires-in-None c =
    let line = c.in-Some-split_line.ensures.found in
    c.in-None.ensures.none c.requires.0 c.requires.2
    (line_is c.args.format c.args.cars c.args.text.now c.in-Some-split_line.line.now c.in-Some-split_line.behind.now c.requires.1 c.requires.0 line.1 line.0 c.requires.2 c.requires.3).0

pub returns : goal.returns
returns c = λ e behind h is.
    let line = c.in-Some-split_line.ensures.found in
    let told = c.in-Some-event.ensures.found in
    let both = line_is c.args.format c.args.cars c.args.text.now c.in-Some-split_line.line.now c.in-Some-split_line.behind.now behind e line.1 line.0 h is in
    (line_once c.args.format c.args.cars c.in-Some-event.event e told.0 h (sym told.1 ∙ both.0), both.1)
