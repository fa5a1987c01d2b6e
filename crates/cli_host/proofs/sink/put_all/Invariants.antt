use Rattle.std.proofs.Common.{◌≡◌, ℕ, List, ◌++◌, length, None}
use Rattle.std.specs.Io.KnownBytes.{Appends}
use Rattle.cli_host.proofs.sink.put_all.Given as goal

abbrev pub invariant-pieces : goal.invariant-pieces
invariant-pieces g l = record {
  grown : (taken : List ℕ) × Appends (g.S.Sink.contents l.initial.sink) (g.S.Sink.contents l.sink) taken × (taken ++ l.rest ≡ l.bytes);
  silent : g.S.Sink.contents l.initial.sink ≡ None → g.S.Sink.contents l.sink ≡ None;
  made : g.S.Sink.made l.sink ≡ g.S.Sink.made l.initial.sink;
  going : g.S.Sink.has_failed l.sink ≡ g.S.Sink.has_failed l.initial.sink;
}

abbrev pub decreases-pieces : goal.decreases-pieces
decreases-pieces g l = length l.rest
