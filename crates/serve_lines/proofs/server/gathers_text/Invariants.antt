use Rattle.std.proofs.Common.{◌≡◌, map, string_bytes}
use Rattle.group_spec.specs.declared.trace.TraceEvent.TheVariants.{Gather}
use Rattle.trace_text.specs.Writing.{events_text}
use Rattle.group_journal.specs.Rounds.{counting_from}
use Rattle.serve_lines.proofs.server.gathers_text.Given as goal

-- so many floors
abbrev pub invariant-floors : goal.invariant-floors
invariant-floors l = string_bytes l.text ≡ events_text (map Gather (counting_from 1 l.below))
