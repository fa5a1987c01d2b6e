use Rattle.std.proofs.Common.{◌≡◌, ◌≤◌, ◌+◌, ℕ, List, length, vec_capacity, None}
use Rattle.std.specs.Io.KnownBytes.{Appends, Consumes}
use Rattle.trace_text.specs.Text.{text_of_lines}
use Rattle.serve_lines.specs.Serving.{IsServer, Serves}
use Rattle.serve_lines.proofs.serve.serve.Given as goal

-- the lines so far were answered and traced
abbrev pub invariant-lines : goal.invariant-lines
invariant-lines g l = record {
  served : (lines : List (List ℕ)) × (text : List ℕ) × (events : List ℕ) × Serves l.initial.server.rounds.world.program.config lines l.initial.server.rounds.world.world l.initial.server.count l.server.rounds.world.world l.server.count text events
      × Consumes (g.R.Read.remaining l.initial.reader) (g.R.Read.remaining l.reader) (text_of_lines lines) × Appends (g.O.Sink.contents l.initial.out) (g.O.Sink.contents l.out) text × Appends (g.T.Sink.contents l.initial.trace) (g.T.Sink.contents l.trace) events × (l.initial.heard + length lines ≡ l.before);
  stop : l.server.stop ≡ l.initial.server.stop;
  server : IsServer l.server;
  same : l.server.rounds.world.program ≡ l.initial.server.rounds.world.program;
  silent : g.T.Sink.contents l.initial.trace ≡ None → g.T.Sink.contents l.trace ≡ None;
  made : g.T.Sink.made l.trace ≡ g.T.Sink.made l.initial.trace;
  room : 128 ≤ vec_capacity l.line;
}
