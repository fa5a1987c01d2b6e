use Rattle.std.proofs.Common.{◌≡◌, ◌≤◌, ◌+◌, length}
use Rattle.std.specs.Prelude.{map}
use Rattle.group_spec.specs.declared.trace.TraceEvent.TheVariants.{Gather}
use Rattle.group_spec.specs.Hands.{floors_of, floors_after}
use Rattle.trace_text.specs.Writing.{events_text}
use Rattle.trace_text.proofs.Writes.{Running}
use Rattle.trace_text.proofs.write.write_gathers.Given as goal

abbrev pub invariant-calls : goal.invariant-calls
invariant-calls g l = record {
  running : Running (g.W.Sink.contents l.initial.sink) (g.W.Sink.contents l.sink) l.initial.waiting l.waiting (events_text (map Gather (floors_after l.last l.rest))) (events_text (map Gather (floors_of l.fn.calls)));
  going : g.W.Sink.has_failed l.sink ≡ g.W.Sink.has_failed l.initial.sink;
  counted : l.count + length (floors_after l.last l.rest) ≡ length (floors_of l.fn.calls);
  few : l.count + length l.rest ≤ length l.fn.calls;
  bound : length l.fn.calls ≤ 256;
}

abbrev pub decreases-calls : goal.decreases-calls
decreases-calls g l = length l.rest
