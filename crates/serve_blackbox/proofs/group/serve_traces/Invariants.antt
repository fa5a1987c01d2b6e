use Rattle.std.proofs.Common.{◌≡◌, ◌≤◌, ◌-◌, vec_capacity, None}
use Rattle.serve_lines.specs.Serving.{IsServer, most_lines}
use Rattle.serve_blackbox.specs.Between.{spot}
use Rattle.serve_blackbox.specs.Keeping.{Leads}
use Rattle.serve_blackbox.proofs.group.serve_traces.Given as goal

-- the lines so far lead to where the group is
abbrev pub invariant-traces : goal.invariant-traces
invariant-traces g l = record {
  leads : Leads l.initial.server.rounds.world.program.config l.source (spot g.R.Read g.O.Sink g.T.Sink l.initial.server.rounds.world.world l.initial.server.count 0 l.initial.reader l.initial.out l.initial.trace)
      (spot g.R.Read g.O.Sink g.T.Sink l.server.rounds.world.world l.server.count l.heard l.reader l.out l.trace);
  server : IsServer l.server;
  same : l.server.rounds.world.program ≡ l.initial.server.rounds.world.program;
  stop : l.server.stop ≡ l.initial.server.stop;
  room : 128 ≤ vec_capacity l.line;
  few : l.heard ≤ most_lines;
  silent : g.T.Sink.contents l.initial.trace ≡ None → g.T.Sink.contents l.trace ≡ None;
}

-- each trace takes a line
abbrev pub decreases-traces : goal.decreases-traces
decreases-traces g l = most_lines - l.heard
