use Rattle.std.proofs.Common.{[], ◌∷◌, ◌∙◌}
use Rattle.std.specs.Prelude.{map}
use Rattle.group_spec.specs.declared.trace.TraceEvent.TheVariants.{Press}
use Rattle.trace_text.specs.Writing.{events_text}
use Rattle.trace_text.proofs.Writes.{puts_err, running_more, running_front, presses_on}
use Rattle.trace_text.proofs.write.write_presses.Goals as goal

pub returns-in_err-write_press : goal.returns-in_err-write_press
returns-in_err-write_press g c =
    let failed = c.in_err-write_press.ensures in
    puts_err c.from_residual.result _ _ _ _ c.args.waiting.now c.write_press.new.waiting (events_text (map Press c.args.calls)) c.from_residual.ensures.0
    (running_front _ _ _ c.args.waiting.now c.calls.waiting (events_text (map Press c.calls.rest)) (events_text (Press c.in-Some.call ∷ [])) (events_text (map Press c.take_first.new.self)) (events_text (map Press c.args.calls)) c.calls.invariant.running (presses_on c.calls.rest c.take_first.new.self c.in-Some.call c.in-Some.ensures.first c.in-Some.ensures.rest) failed.0) failed.1

pub calls-preserved : goal.calls-preserved
calls-preserved g c =
    let put = c.in_ok-write_press.ensures in
    record {
      running = running_more _ _ _ c.args.waiting.now c.calls.waiting c.write_press.new.waiting (events_text (map Press c.calls.rest)) (events_text (Press c.in-Some.call ∷ [])) (events_text (map Press c.take_first.new.self)) (events_text (map Press c.args.calls)) c.calls.invariant.running (presses_on c.calls.rest c.take_first.new.self c.in-Some.call c.in-Some.ensures.first c.in-Some.ensures.rest) put.0;
      going = put.1 ∙ c.calls.invariant.going;
    }
