use Rattle.std.proofs.Common.{◌∷◌, [], ◌++◌, ◌+◌, ap, ◌∙◌}
use Rattle.group_spec.specs.declared.trace.TraceEvent.TheVariants.{Gather}
use Rattle.trace_text.specs.Writing.{events_text}
use Rattle.serve_lines.proofs.Tracing.{gathers_next}
use Rattle.serve_lines.proofs.server.gathers_text.Goals as goal

pub floors-preserved : goal.floors-preserved
floors-preserved c = c.in_ok-put_gather.ensures ∙ ap (λ l. l ++ events_text (Gather (c.floors.below + 1) ∷ [])) c.floors.invariant ∙ gathers_next c.floors.below
