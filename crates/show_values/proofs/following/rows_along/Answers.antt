use Rattle.std.proofs.Common.{arith, refl, subst, sym, ◌∙◌, ◌≤◌, ◌+◌, length, string_bytes}
use Rattle.trace_text.proofs.Left.{at_first, at_next, event_at, index_below, at_end}
use Rattle.scan_task.specs.Scanning.{Program}
use Rattle.group_rounds.specs.Along.{TakesWith}
use Rattle.group_rounds.proofs.Stepping.{refused_there}
use Rattle.group_spec.specs.Replies.{reply_with}
use Rattle.show_values.proofs.Printing.{rows_all, rows_next, round_most}
use Rattle.show_values.proofs.following.rows_along.Goals as goal

pub returns-in-Err-clause-stopped : goal.returns-in-Err-clause-stopped
returns-in-Err-clause-stopped c =
    let to = c.events.invariant.0 in
    refused_there c.args.world.now.program c.events.world.program c.events.invariant.2 c.args.world.now.world c.events.world.world c.args.events.now c.events.index to.steps c.in-Some.event c.in-Err.fault
    (event_at c.args.events.now c.events.index c.events.left c.in-Some.event c.events.invariant.3 c.in-Some.ensures.found) to.are c.in-Err.ensures.refused

pub events-preserved : goal.events-preserved
events-preserved c =
    let e = c.in-Some.event in
    let reply = reply_with c.in-Ok.reply c.reply_to.new.report in
    let v = c.reply_to.new.world.world in (
      rows_next c.args.watched.now c.args.world.now.program.config c.args.world.now.world c.events.world.world v c.args.events.now c.events.index (string_bytes c.args.text.now) (string_bytes c.events.text) (string_bytes c.put_row_before.new.text) c.events.round
          c.round_behind-round.result c.events.asked c.note_asked.new.asked e reply (event_at c.args.events.now c.events.index c.events.left e c.events.invariant.3 c.in-Some.ensures.found) c.events.invariant.0
          (subst (λ (p : Program). TakesWith p.config c.events.world.world e reply v) c.events.invariant.2 c.in-Ok.ensures.taken) c.round_behind-round.ensures c.note_asked.ensures c.in_ok-put_row_before.ensures,
      subst (λ n. n ≤ c.events.index + 1) (sym c.round_behind-round.ensures) (round_most e c.events.round c.events.index c.events.invariant.1),
      c.reply_to.ensures.same ∙ c.events.invariant.2,
      at_next c.args.events.now c.events.index c.events.left c.next.new.self c.events.invariant.3 c.next.ensures.all c.in-Some.ensures.moves,
    )

pub returns-clause-rows : goal.returns-clause-rows
returns-clause-rows c =
    let end = at_end c.args.events.now c.events.index c.events.left c.events.invariant.3 c.in_default.ensures.found in
    rows_all c.args.watched.now c.args.world.now.program.config c.args.world.now.world c.events.world.world c.args.events.now c.events.index (string_bytes c.args.text.now) (string_bytes c.events.text) (string_bytes c.put_row_of.new.text) c.events.round c.events.asked
    (omega (arith, end)) c.events.invariant.0 c.in_ok-put_row_of.ensures
