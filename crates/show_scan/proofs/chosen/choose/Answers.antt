use Rattle.std.proofs.Common.{◌≡◌, ◌+◌, List, drop, sym, ap, ◌∙◌}
use Rattle.group_spec.specs.declared.trace.TraceEvent.{TraceEvent}
use Rattle.show_scan.specs.Chosen.{noted_all}
use Rattle.show_scan.specs.declared.chosen.Search.{Search}
use Rattle.trace_text.proofs.Left.{at_next, event_at, left_after}
use Rattle.show_scan.proofs.chosen.choose.Goals as goal

pub events-preserved : goal.events-preserved
events-preserved c =
    let e = c.in-Some.event in
    let there = event_at c.args.events.now c.events.count c.events.left e c.events.invariant.0 c.in-Some.ensures.found in (
      at_next c.args.events.now c.events.count c.events.left c.next.new.self c.events.invariant.0 c.next.ensures.all c.in-Some.ensures.moves,
      ap (λ (s : Search). noted_all c.args.asked (c.events.count + 1) (drop (c.events.count + 1) c.args.events.now) s) c.noted-search.ensures
          ∙ sym (ap (λ (es : List TraceEvent). noted_all c.args.asked c.events.count es c.events.search) (left_after c.args.events.now c.events.count e there)) ∙ c.events.invariant.1,
    )
