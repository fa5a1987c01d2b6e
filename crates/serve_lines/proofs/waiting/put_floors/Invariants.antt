use Rattle.std.proofs.Common.{◌≡◌, ◌≤◌, ◌+◌, ◌++◌, length, map, string_bytes}
use Rattle.group_spec.specs.declared.trace.TraceEvent.TheVariants.{Gather}
use Rattle.group_spec.specs.Hands.{floors_of, floors_after}
use Rattle.trace_text.specs.Writing.{events_text}
use Rattle.serve_lines.proofs.waiting.put_floors.Given as goal

-- the floors that are left complete the text and the count
abbrev pub invariant-calls : goal.invariant-calls
invariant-calls l = record {
  text : string_bytes l.text ++ events_text (map Gather (floors_after l.last l.rest)) ≡ string_bytes l.initial.text ++ events_text (map Gather (floors_of l.calls));
  counted : l.count + length (floors_after l.last l.rest) ≡ length (floors_of l.calls);
  few : l.count + length l.rest ≤ length l.calls;
  bound : length l.calls ≤ 256;
}

abbrev pub decreases-calls : goal.decreases-calls
decreases-calls l = length l.rest
