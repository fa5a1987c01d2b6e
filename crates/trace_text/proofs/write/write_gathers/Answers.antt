use Rattle.std.proofs.Common.{[], ◌∷◌, ◌∙◌, arith}
use Rattle.std.specs.Prelude.{map}
use Rattle.group_spec.specs.declared.trace.TraceEvent.TheVariants.{Gather}
use Rattle.group_spec.specs.Hands.{floors_of, floors_after}
use Rattle.trace_text.specs.Writing.{events_text}
use Rattle.trace_text.proofs.Writes.{puts_err, running_more, running_front, gathers_on, floors_other, one_less}
use Rattle.trace_text.proofs.write.write_gathers.Goals as goal

pub returns-in_err-write_gather-clause-puts : goal.returns-in_err-write_gather-clause-puts
returns-in_err-write_gather-clause-puts g c =
    let failed = c.in_err-write_gather.ensures in
    puts_err c.from_residual.result _ _ _ _ c.args.waiting.now c.write_gather.new.waiting (events_text (map Gather (floors_of c.args.calls))) c.from_residual.ensures.0
    (running_front _ _ _ c.args.waiting.now c.calls.waiting (events_text (map Gather (floors_after c.calls.last c.calls.rest))) (events_text (Gather c.in-Some.call.from ∷ [])) (events_text (map Gather (floors_after c.in-Some.call.from c.take_first.new.self))) (events_text (map Gather (floors_of c.args.calls))) c.calls.invariant.running (gathers_on c.calls.last c.calls.rest c.take_first.new.self c.in-Some.call c.in-Some.ensures.first c.in-Some.ensures.rest c.if-call-last.true) failed.0) failed.1

pub calls-preserved-in_ok-write_gather : goal.calls-preserved-in_ok-write_gather
calls-preserved-in_ok-write_gather g c =
    let put = c.in_ok-write_gather.ensures in
    let floors = floors_other c.calls.last c.calls.rest c.take_first.new.self c.in-Some.call c.in-Some.ensures.first c.in-Some.ensures.rest c.if-call-last.true in
    let calls = one_less c.calls.rest c.take_first.new.self c.in-Some.call c.in-Some.ensures.first c.in-Some.ensures.rest in
    let so_far = c.calls.invariant.counted in
    let few = c.calls.invariant.few in
    record {
      running = running_more _ _ _ c.args.waiting.now c.calls.waiting c.write_gather.new.waiting (events_text (map Gather (floors_after c.calls.last c.calls.rest))) (events_text (Gather c.in-Some.call.from ∷ [])) (events_text (map Gather (floors_after c.in-Some.call.from c.take_first.new.self))) (events_text (map Gather (floors_of c.args.calls))) c.calls.invariant.running (gathers_on c.calls.last c.calls.rest c.take_first.new.self c.in-Some.call c.in-Some.ensures.first c.in-Some.ensures.rest c.if-call-last.true) put.0;
      going = put.1 ∙ c.calls.invariant.going;
      counted = omega arith;
      few = omega arith;
      bound = c.calls.invariant.bound;
    }
