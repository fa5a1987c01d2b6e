use Rattle.std.proofs.Common.{◌≡◌, ◌∙◌, ◌≤◌, List, Some, slice_get, subst, take, length, arith}
use Rattle.std.proofs.lemmas.List.{take_all}
use Rattle.scan_task.specs.Scanning.{Program}
use Rattle.group_spec.specs.declared.trace.TraceEvent.{TraceEvent}
use Rattle.group_journal.specs.Rounds.{Takes, TakesAll, Refuses}
use Rattle.trace_text.proofs.Left.{at_next, event_at, at_end, get_front, front_few, front_within}
use Rattle.group_rounds.proofs.Taking.{takes_next, refused_at}
use Rattle.group_rounds.proofs.replay.replay_first.Goals as goal

pub returns-in-Err-clause-refused : goal.returns-in-Err-clause-refused
returns-in-Err-clause-refused c =
    let e = c.in-Some.event in
    let there = get_front c.args.events.now c.args.count c.events.index e c.events-test.true (event_at c.args.events.now c.events.index c.events.left e c.events.invariant.0 c.in-Some.ensures.found) in
    refused_at c.args.world.now.program.config (take c.args.count c.args.events.now) c.events.index e c.in-Err.fault c.args.world.now.world c.events.world.world there c.events.invariant.1
    (subst (λ (p : Program). Refuses p.config c.events.world.world e c.in-Err.fault) c.events.invariant.2 c.in-Err.ensures.refused)

pub events-preserved : goal.events-preserved
events-preserved c =
    let e = c.in-Some.event in
    let there = get_front c.args.events.now c.args.count c.events.index e c.events-test.true (event_at c.args.events.now c.events.index c.events.left e c.events.invariant.0 c.in-Some.ensures.found) in (
      at_next c.args.events.now c.events.index c.events.left c.next.new.self c.events.invariant.0 c.next.ensures.all c.in-Some.ensures.moves,
      takes_next c.args.world.now.program.config (take c.args.count c.args.events.now) c.events.index e c.args.world.now.world c.events.world.world c.take.new.world.world there c.events.invariant.1
          (subst (λ (p : Program). Takes p.config c.events.world.world e c.take.new.world.world) c.events.invariant.2 c.in_default-take.ensures.taken),
      c.take.ensures.same ∙ c.events.invariant.2,
    )

pub returns-after-events-clause-taken : goal.returns-after-events-clause-taken
returns-after-events-clause-taken c =
    let first = take c.args.count c.args.events.now in
    let end : length first ≤ c.events.index = omega (arith, c.events-test.false, front_few c.args.count c.args.events.now) in
    subst (λ (es : List TraceEvent). TakesAll c.args.world.now.program.config c.args.world.now.world es c.events.world.world) (take_all c.events.index first end) c.events.invariant.1
