use Rattle.std.proofs.Common.{◌≡◌, ◌≤◌, ◌+◌, length}
use Rattle.trace_text.proofs.Traces.{HasReadLines}
use Rattle.trace_text.proofs.read.read_events.Given as goal

abbrev pub invariant-lines : goal.invariant-lines
invariant-lines l = record {
  read : HasReadLines l.format l.cars l.text l.told.events l.rest;
  count : l.count ≡ length l.told.events;
  room : l.count + length l.rest ≤ length l.text;
}

abbrev pub decreases-lines : goal.decreases-lines
decreases-lines l = length l.rest
