use Rattle.std.proofs.Common.{List, arith, subst}
use Rattle.group_spec.specs.declared.trace.TraceEvent.{TraceEvent}
use Rattle.group_journal.specs.Rounds.{IsRefusedAt}
use Rattle.serve_lines.specs.Going.{whole_events, last_task, whole_front}
use Rattle.serve_lines.proofs.Whole.{refused_within}
use Rattle.serve_blackbox.proofs.resume.gone_on.Goals as goal

pub fault_of_event-requires : goal.fault_of_event-requires
fault_of_event-requires c =
    let config = c.args.beginning.world.program.config in
    let events = c.args.beginning.events in
    let refused = c.in-Err.ensures.refused in
    let within = refused_within config c.args.beginning.world.world events (whole_events (last_task config) events) c.in-Err.refused.index c.in-Err.refused.fault refused in
    let few = c.requires.few in
    record { few = omega (arith, within, few) }
