use Rattle.std.proofs.Common.{◌≡◌, ◌++◌, length, map, string_bytes}
use Rattle.group_spec.specs.declared.trace.TraceEvent.TheVariants.{Press}
use Rattle.trace_text.specs.Writing.{events_text}
use Rattle.serve_lines.proofs.waiting.put_presses.Given as goal

-- the calls that are left complete the text
abbrev pub invariant-calls : goal.invariant-calls
invariant-calls l = string_bytes l.text ++ events_text (map Press l.rest) ≡ string_bytes l.initial.text ++ events_text (map Press l.calls)

abbrev pub decreases-calls : goal.decreases-calls
decreases-calls l = length l.rest
