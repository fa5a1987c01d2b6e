-- The spots and the streams of a group, by its reader, sinks and server (own rules).
use Rattle.std.specs.Prelude.{ℕ, None}
use Rattle.std.specs.declared.io.traits.Read.{Ghosts as Read}
use Rattle.cli_host.specs.declared.sink.Sink.{Ghosts as Sink}
use Rattle.group_spec.specs.World.{World}
use Rattle.serve_lines.specs.declared.server.Server.{Server}
use Rattle.serve_blackbox.specs.Ending.{Final}
use Rattle.serve_blackbox.specs.Keeping.{Spot}

-- where a group is, by its world, how many events and lines were, a reader, an output and a trace
abbrev pub spot : {R O T : Type 0} → Read R → Sink O → Sink T → World → ℕ → ℕ → R → O → T → Spot
spot reader out trace w count heard r o t = record { world = w; count = count; heard = heard; left = reader.remaining r; out = out.contents o; trace = trace.contents t; made = trace.made t }

-- how a reader, an output and a trace are in the end
abbrev pub final : {R O T : Type 0} → Read R → Sink O → Sink T → R → O → T → Final
final reader out trace r o t = record { left = reader.remaining r; out = out.contents o; trace = trace.contents t; made = trace.made t; out_failed = out.has_failed o; trace_failed = trace.has_failed t }

-- the same for one line that has come, whatever the reader has left and however many lines came
abbrev pub kept_spot : {O T : Type 0} → Sink O → Sink T → Server → O → T → Spot
kept_spot out trace s o t = record { world = s.rounds.world.world; count = s.count; heard = 0; left = None; out = out.contents o; trace = trace.contents t; made = trace.made t }

abbrev pub kept_final : {O T : Type 0} → Sink O → Sink T → O → T → Final
kept_final out trace o t = record { left = None; out = out.contents o; trace = trace.contents t; made = trace.made t; out_failed = out.has_failed o; trace_failed = trace.has_failed t }
