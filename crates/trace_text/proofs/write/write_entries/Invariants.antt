use Rattle.std.proofs.Common.{◌≡◌, ◌≤◌, ◌+◌, ◌*◌, length, drop}
use Rattle.trace_text.specs.Written.{traced}
use Rattle.trace_text.specs.Writing.{events_text}
use Rattle.trace_text.proofs.Writes.{Running}
use Rattle.trace_text.proofs.write.write_entries.Given as goal

abbrev pub invariant-entries : goal.invariant-entries
invariant-entries g l = record {
  running : Running (g.W.Sink.contents l.fn.sink) (g.W.Sink.contents l.sink) l.fn.waiting l.waiting (events_text (traced (drop l.entry-index l.entries))) (events_text (traced l.entries));
  going : g.W.Sink.has_failed l.sink ≡ g.W.Sink.has_failed l.fn.sink;
  counted : l.count + length (traced (drop l.entry-index l.entries)) ≡ length (traced l.entries);
  few : l.count ≤ 513 * l.entry-index;
}
