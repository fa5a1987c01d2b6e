use Rattle.std.proofs.Common.{subst, ◌∙◌, ◌≡◌, take, length, arith}
use Rattle.std.proofs.lemmas.List.{take_all}
use Rattle.scan_task.specs.Scanning.{Program}
use Rattle.group_journal.specs.Rounds.{Takes, TakesAll, Refuses}
use Rattle.trace_text.proofs.Left.{at_first, at_next, event_at, index_below, at_end}
use Rattle.group_rounds.proofs.Taking.{takes_next, refused_at}
use Rattle.show_picture.proofs.follow.follow.Goals as goal

pub returns-in-Err-clause-stopped : goal.returns-in-Err-clause-stopped
returns-in-Err-clause-stopped c =
    let e = c.in-Some.event in
    refused_at c.args.world.now.program.config c.args.events.now c.events.index e c.in-Err.fault c.args.world.now.world c.events.world.world
    (event_at c.args.events.now c.events.index c.events.left e c.events.invariant.0 c.in-Some.ensures.found) c.events.invariant.1
    (subst (λ (p : Program). Refuses p.config c.events.world.world e c.in-Err.fault) c.events.invariant.2 c.in-Err.ensures.refused)

pub events-preserved : goal.events-preserved
events-preserved c =
    let e = c.in-Some.event in (
      at_next c.args.events.now c.events.index c.events.left c.next.new.self c.events.invariant.0 c.next.ensures.all c.in-Some.ensures.moves,
      takes_next c.args.world.now.program.config c.args.events.now c.events.index e c.args.world.now.world c.events.world.world c.take.new.world.world
          (event_at c.args.events.now c.events.index c.events.left e c.events.invariant.0 c.in-Some.ensures.found) c.events.invariant.1
          (subst (λ (p : Program). Takes p.config c.events.world.world e c.take.new.world.world) c.events.invariant.2 c.in_default-take.ensures.taken),
      c.take.ensures.same ∙ c.events.invariant.2,
    )
