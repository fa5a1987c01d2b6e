use Rattle.std.proofs.Common.{ap, ◌∙◌, arith}
use Rattle.scan_task.specs.Scanning.{Program}
use Rattle.group_world.proofs.Runs.{one_more, one_longer, room_left, reports_left}
use Rattle.group_world.proofs.world.World.run.Goals as goal

pub push-requires-clause-report_room : goal.push-requires-clause-report_room
push-requires-clause-report_room c =
    let left = reports_left _ _ _ c.events-test.true c.event-item.is in
    let room = c.events.invariant.reports in
    let few = c.apply-reply.ensures.reports in
    omega (arith, left, room, few)

pub events-preserved : goal.events-preserved
events-preserved c =
    let left = reports_left _ _ _ c.events-test.true c.event-item.is in
    let room = c.events.invariant.reports in
    let few = c.apply-reply.ensures.reports in
    let now = c.push.ensures.reports in
    let grows = c.push.ensures.report_room in
    record {
      same = c.apply-reply.ensures.same ∙ c.events.invariant.same;
      room = room_left _ _ _ _ _ _ _ c.events-test.true c.push.ensures.items c.events.invariant.room c.push.ensures.room;
      reports = omega (arith, left, room, few, now, grows);
      count = one_longer _ _ _ _ _ c.push.ensures.items c.events.invariant.count;
      grown = omega (arith, c.events.invariant.grown, c.push.ensures.room);
      few = (let sofar = c.events.invariant.few in omega (arith, left, sofar, few, now));
      reports_grown = omega (arith, c.events.invariant.reports_grown, grows);
      rest =
          c.events.invariant.rest
          ∙ one_more _ _ _ _ _ _ _ _ _ _ (ap (λ (p : Program). p.config) c.events.invariant.same) c.events-test.true c.event-item.is c.apply-reply.ensures.model c.push.ensures.items;
    }

pub returns-clause-well : goal.returns-clause-well
returns-clause-well c = c.holds.ensures.well c.args.events.now
