use Rattle.std.proofs.Common.{arith, refl, subst, ◌∙◌, length}
use Rattle.trace_text.proofs.Left.{at_first, at_next, event_at, index_below, at_end}
use Rattle.scan_task.specs.Scanning.{Program}
use Rattle.group_rounds.specs.Along.{TakesWith}
use Rattle.group_rounds.proofs.Stepping.{refused_there}
use Rattle.group_spec.specs.Replies.{reply_with}
use Rattle.show_values.proofs.Logging.{after_most, log_more, no_event, none_yet}
use Rattle.show_values.proofs.calls.call_log.Goals as goal

pub events-init : goal.events-init
events-init c = (no_event c.args.world.now.program.config c.args.world.now.world c.new-log.result c.new-log.ensures, none_yet c.new-log.result c.new-log.ensures, refl, at_first c.args.events.now c.events-left.result c.events-left.ensures)

pub note-requires : goal.note-requires
note-requires c =
    let most = c.events.invariant.1 in
    let low = index_below c.args.events.now c.events.index c.events.left c.in-Some.event c.events.invariant.3 c.in-Some.ensures.found in
    record { pressed = omega (arith, most.presses, c.requires, low); round = omega (arith, most.rounds, c.requires, low) }

pub returns-in-Err-clause-stopped : goal.returns-in-Err-clause-stopped
returns-in-Err-clause-stopped c =
    let to = c.events.invariant.0 in
    refused_there c.args.world.now.program c.events.world.program c.events.invariant.2 c.args.world.now.world c.events.world.world c.args.events.now c.events.index to.steps c.in-Some.event c.in-Err.fault
    (event_at c.args.events.now c.events.index c.events.left c.in-Some.event c.events.invariant.3 c.in-Some.ensures.found) to.are c.in-Err.ensures.refused

pub events-preserved : goal.events-preserved
events-preserved c =
    let e = c.in-Some.event in
    let reply = reply_with c.in-Ok.reply c.reply_to.new.report in
    let v = c.reply_to.new.world.world in (
      log_more c.args.world.now.program.config c.args.world.now.world c.events.world.world v c.args.events.now c.events.index c.events.log c.note.new.log e reply
          (event_at c.args.events.now c.events.index c.events.left e c.events.invariant.3 c.in-Some.ensures.found) c.events.invariant.0
          (subst (λ (p : Program). TakesWith p.config c.events.world.world e reply v) c.events.invariant.2 c.in-Ok.ensures.taken) c.in_ok-note-in-Ok.ensures,
      after_most e reply v c.events.log c.note.new.log c.events.index c.in_ok-note-in-Ok.ensures c.events.invariant.1,
      c.reply_to.ensures.same ∙ c.events.invariant.2,
      at_next c.args.events.now c.events.index c.events.left c.next.new.self c.events.invariant.3 c.next.ensures.all c.in-Some.ensures.moves,
    )
