use Rattle.std.proofs.Common.{arith, ◌≡◌, ◌<◌, ℕ, List, ◌∷◌, ◌++◌, [], length, length-append, refl, sym, ap, ◌∙◌, subst, ◌+◌}
use Rattle.group_spec.specs.declared.trace.TraceEvent.{TraceEvent}
use Rattle.trace_text.specs.Text.{line_of}
use Rattle.trace_text.specs.Parts.{short_event}
use Rattle.trace_text.proofs.Traces.{HasRead, HasReadLines, lines_read_more, read_behind_first, answers_ended, front_whole, front_so_far, behind_first}
use Rattle.trace_text.proofs.read.read_events.Goals as goal

-- the text after a line is shorter
shorter : (line behind rest : List ℕ) → rest ≡ line ++ (10 ∷ behind) → length behind < length rest
shorter line behind rest e = omega (arith, ap length e, length-append line (10 ∷ behind))

pub lines-smaller-in-Some : goal.lines-smaller-in-Some
lines-smaller-in-Some c =
    shorter (line_of c.args.format (short_event c.in-Some.short)) c.in-Some.behind.now c.lines.rest.now (c.in-Some.ensures c.args.format c.args.cars).1

pub lines-preserved-in-Some : goal.lines-preserved-in-Some
lines-preserved-in-Some c =
    let event = short_event c.in-Some.short in
    let told = c.in-Some.ensures c.args.format c.args.cars in
    let more : c.then-told.result.events ≡ c.lines.told.events ++ event ∷ [] = c.then-told.ensures ∙ ap (λ (e : TraceEvent). c.lines.told.events ++ e ∷ []) c.event.ensures in
    let less = shorter (line_of c.args.format event) c.in-Some.behind.now c.lines.rest.now told.1 in
    record {
      read = subst (λ (es : List TraceEvent). HasReadLines c.args.format c.args.cars c.args.text.now es c.in-Some.behind.now) (sym more)
          (lines_read_more c.args.format c.args.cars c.args.text.now c.lines.told.events c.lines.rest.now event (line_of c.args.format event) c.in-Some.behind.now c.lines.invariant.read told.1 told.0 refl);
      count = omega (arith, c.lines.invariant.count, ap length more, length-append c.lines.told.events (event ∷ []));
      room = omega (arith, c.lines.invariant.room, less);
    }

pub returns-in-None : goal.returns-in-None
returns-in-None c =
    let split = c.in-Some-split_line.ensures.found in
    let events = c.of.result in
    let read = subst (λ (es : List TraceEvent). HasRead c.args.format c.args.cars (behind_first c.args.format c.args.text.now) es c.lines.rest.now) (sym c.of.ensures)
    (read_behind_first c.args.format c.args.cars c.args.text.now c.lines.told.events c.lines.rest.now c.lines.invariant.read) in
    front_whole c.args.cars (behind_first c.args.format c.args.text.now) c.ended.result
    (answers_ended (λ f. f.events) c.args.format c.args.cars (behind_first c.args.format c.args.text.now) events c.lines.rest.now (length events + 2) c.in-Some-split_line.line.now c.in-Some-split_line.behind.now c.ended.result
    read c.requires split.0 split.1 c.in-None.ensures.none refl c.ended.ensures.ok c.ended.ensures.err)
    c.ended.ensures.whole

pub returns : goal.returns
returns c =
    let events = c.of-2.result in
    let read = subst (λ (es : List TraceEvent). HasRead c.args.format c.args.cars (behind_first c.args.format c.args.text.now) es c.lines.rest.now) (sym c.of-2.ensures)
    (read_behind_first c.args.format c.args.cars c.args.text.now c.lines.told.events c.lines.rest.now c.lines.invariant.read) in
    front_so_far c.args.format c.args.cars (behind_first c.args.format c.args.text.now) events c.lines.rest.now (c.lines.count + 2) read c.requires c.in_default-split_line.ensures.none
    (omega (arith, c.lines.invariant.count, ap length c.of-2.ensures))
