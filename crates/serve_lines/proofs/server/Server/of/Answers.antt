use Rattle.std.proofs.Common.{List, ℕ, map, flat_map, sym, ap, ◌∙◌, subst}
use Rattle.group_spec.specs.declared.image.Sizes.{Sizes}
use Rattle.group_spec.specs.declared.trace.TraceEvent.TheVariants.{Gather}
use Rattle.group_spec.specs.Image.{opening_image}
use Rattle.group_world.specs.Worlds.{WorldOf}
use Rattle.trace_text.specs.Writing.{events_text}
use Rattle.group_journal.specs.Closed.{IsClosed}
use Rattle.group_journal.specs.Rounds.{counting_from}
use Rattle.serve_lines.specs.Answers.{outputs_line}
use Rattle.serve_lines.specs.Saying.{scan_events}
use Rattle.serve_lines.proofs.server.Server.of.Goals as goal

pub returns-clause-server : goal.returns-clause-server
returns-clause-server c =
    let rounds = c.of-rounds.result in
    record {
      closed = subst (λ (x : WorldOf). IsClosed x.world) (sym c.of-rounds.ensures) c.requires;
      gathers = c.in_ok-gathers.ensures ∙ ap (λ (s : Sizes). events_text (map Gather (counting_from 1 s.floors))) c.sizes.ensures;
      scans = c.in_ok-scans.ensures ∙ ap (λ (l : List ℕ). events_text (flat_map scan_events l)) (c.as_slice.ensures ∙ rounds.fits);
      stop = c.in_ok-stop.ensures.line ∙ ap (λ (s : Sizes). outputs_line (opening_image s).outputs) c.sizes-2.ensures;
      short = c.in_ok-stop.ensures.short;
    }
