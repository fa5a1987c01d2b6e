use Rattle.std.proofs.Common.{◌≡◌, length}
use Rattle.std.specs.Prelude.{map}
use Rattle.group_spec.specs.declared.trace.TraceEvent.TheVariants.{Press}
use Rattle.trace_text.specs.Writing.{events_text}
use Rattle.trace_text.proofs.Writes.{Running}
use Rattle.trace_text.proofs.write.write_presses.Given as goal

abbrev pub invariant-calls : goal.invariant-calls
invariant-calls g l = record {
  running : Running (g.W.Sink.contents l.initial.sink) (g.W.Sink.contents l.sink) l.initial.waiting l.waiting (events_text (map Press l.rest)) (events_text (map Press l.fn.calls));
  going : g.W.Sink.has_failed l.sink ≡ g.W.Sink.has_failed l.initial.sink;
}

abbrev pub decreases-calls : goal.decreases-calls
decreases-calls g l = length l.rest
