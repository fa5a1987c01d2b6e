use Rattle.std.proofs.Common.{refl, subst, sym, ◌∙◌, ◌≤◌, ◌+◌, length, string_bytes}
use Rattle.trace_text.proofs.Left.{at_first, at_next, event_at, index_below, at_end}
use Rattle.scan_task.specs.Scanning.{Program}
use Rattle.group_rounds.specs.Along.{TakesWith}
use Rattle.group_rounds.proofs.Stepping.{refused_there}
use Rattle.group_spec.specs.Replies.{reply_with}
use Rattle.show_values.proofs.Printing.{denied_next, round_most}
use Rattle.show_values.proofs.following.denied_in.Goals as goal

pub returns-in-Err-clause-stopped : goal.returns-in-Err-clause-stopped
returns-in-Err-clause-stopped c =
    let to = c.events.invariant.0 in
    refused_there c.args.world.now.program c.events.world.program c.events.invariant.2 c.args.world.now.world c.events.world.world c.args.events.now c.events.index to.steps c.in-Some.event c.in-Err.fault
    (event_at c.args.events.now c.events.index c.events.left c.in-Some.event c.events.invariant.3 c.in-Some.ensures.found) to.are c.in-Err.ensures.refused

pub events-preserved : goal.events-preserved
events-preserved c =
    let e = c.in-Some.event in
    let reply = reply_with c.in-Ok.reply c.reply_to.new.report in
    let v = c.reply_to.new.world.world in (
      denied_next c.args.form c.args.all c.args.world.now.program.config c.args.world.now.world c.events.world.world v c.args.events.now c.events.index (string_bytes c.events.text) (string_bytes c.put_denied.new.text) c.events.round c.round_behind-round.result e reply
          (event_at c.args.events.now c.events.index c.events.left e c.events.invariant.3 c.in-Some.ensures.found) c.events.invariant.0
          (subst (λ (p : Program). TakesWith p.config c.events.world.world e reply v) c.events.invariant.2 c.in-Ok.ensures.taken) c.round_behind-round.ensures c.in_ok-put_denied-in-Ok.ensures,
      subst (λ n. n ≤ c.events.index + 1) (sym c.round_behind-round.ensures) (round_most e c.events.round c.events.index c.events.invariant.1),
      c.reply_to.ensures.same ∙ c.events.invariant.2,
      at_next c.args.events.now c.events.index c.events.left c.next.new.self c.events.invariant.3 c.next.ensures.all c.in-Some.ensures.moves,
    )
