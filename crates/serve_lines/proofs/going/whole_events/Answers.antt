use Rattle.std.proofs.Common.{◌≡◌, ◌+◌, ℕ, List, drop, Some, slice_get, sym, ap, ◌∙◌, arith}
use Rattle.std.proofs.lemmas.List.{drop_all}
use Rattle.group_spec.specs.declared.trace.TraceEvent.{TraceEvent}
use Rattle.trace_text.proofs.Left.{at_next, event_at, at_end}
use Rattle.serve_lines.specs.Going.{whole_events, whole_from}
use Rattle.serve_lines.proofs.Whole.{whole_after, whole_more, line_ends, line_goes_on, scan_is_open}
use Rattle.serve_lines.proofs.going.whole_events.Goals.{else-ends_line-via-then-ends_line+else-are_shut, else-ends_line-via-else-ends_line}
use Rattle.serve_lines.proofs.going.whole_events.Goals as goal

pub events-preserved-then-are_shut : goal.events-preserved-then-are_shut
events-preserved-then-are_shut c =
    let e = c.in-Some.event in
    let there = event_at c.args.events.now c.events.count c.events.left e c.events.invariant.2 c.in-Some.ensures.found in
    let ends = line_ends c.args.last e c.events.marks c.put_open.new.marks c.events.count c.events.whole c.put_open.ensures (sym c.ends_line.ensures ∙ c.if-ends_line.true) (sym c.are_shut.ensures ∙ c.if-are_shut.true) in (
      c.events.invariant.0 ∙ whole_more c.args.last c.args.events.now c.events.count c.events.marks c.put_open.new.marks e c.events.whole (c.events.count + 1) there c.put_open.ensures ends,
      omega arith,
      at_next c.args.events.now c.events.count c.events.left c.next.new.self c.events.invariant.2 c.next.ensures.all c.in-Some.ensures.moves,
    )

pub events-preserved : goal.events-preserved
events-preserved c =
    let e = c.in-Some.event in
    let there = event_at c.args.events.now c.events.count c.events.left e c.events.invariant.2 c.in-Some.ensures.found in
    let same : c.events.whole ≡ whole_after c.args.last e c.events.marks c.events.count c.events.whole =
    elim c.else-ends_line.branch [
      | else-ends_line-via-then-ends_line+else-are_shut w ↦
          scan_is_open c.args.last e c.events.marks c.put_open.new.marks c.events.count c.events.whole c.put_open.ensures (sym c.ends_line.ensures ∙ w.if-ends_line.true) (sym w.are_shut.ensures ∙ w.if-are_shut.false)
      | else-ends_line-via-else-ends_line w ↦ line_goes_on c.args.last e c.events.marks c.events.count c.events.whole (sym c.ends_line.ensures ∙ w.if-ends_line.false)
    ] in (
      c.events.invariant.0 ∙ whole_more c.args.last c.args.events.now c.events.count c.events.marks c.put_open.new.marks e c.events.whole c.events.whole there c.put_open.ensures same,
      omega (arith, c.events.invariant.1),
      at_next c.args.events.now c.events.count c.events.left c.next.new.self c.events.invariant.2 c.next.ensures.all c.in-Some.ensures.moves,
    )

pub returns-clause-whole : goal.returns-clause-whole
unfolding whole_events
returns-clause-whole c =
    let end = at_end c.args.events.now c.events.count c.events.left c.events.invariant.2 c.in_default.ensures.found in
    let none_left = drop_all c.events.count c.args.events.now (omega (arith, end)) in
    sym (c.events.invariant.0 ∙ ap (λ (es : List TraceEvent). whole_from c.args.last c.events.marks c.events.whole c.events.count es) none_left)
