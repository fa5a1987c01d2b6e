use Rattle.std.proofs.Common.{List, [], ◌++◌, refl, sym, append-nil, ◌∙◌}
use Rattle.std.specs.Prelude.{map}
use Rattle.group_spec.specs.declared.trace.TraceEvent.{TraceEvent}
use Rattle.group_spec.specs.declared.trace.TraceEvent.TheVariants.{Press, Gather}
use Rattle.group_spec.specs.Hands.{floors_of}
use Rattle.trace_text.specs.Writing.{events_text}
use Rattle.trace_text.proofs.Writes.{puts_err, running_start, running_more, running_front, running_end, events_append}
use Rattle.trace_text.proofs.write.write_calls.Goals as goal

pub returns-in_err-write_presses-clause-puts : goal.returns-in_err-write_presses-clause-puts
returns-in_err-write_presses-clause-puts g c =
    let failed = c.in_err-write_presses.ensures in
    let presses : List TraceEvent = map Press c.args.calls in
    let gathers : List TraceEvent = map Gather (floors_of c.args.calls) in
    let whole = events_text (presses ++ gathers) in
    puts_err c.from_residual.result _ _ _ _ c.args.waiting.now c.write_presses.new.waiting whole c.from_residual.ensures.0
    (running_front _ _ _ c.args.waiting.now c.args.waiting.now whole (events_text presses) (events_text gathers) whole
    (running_start (g.W.Sink.contents c.args.sink.now) c.args.waiting.now whole) (events_append presses gathers) failed.0) failed.1

pub returns-in_err-gathers-clause-puts : goal.returns-in_err-gathers-clause-puts
returns-in_err-gathers-clause-puts g c =
    let failed = c.in_err-gathers.ensures.puts in
    let presses : List TraceEvent = map Press c.args.calls in
    let gathers : List TraceEvent = map Gather (floors_of c.args.calls) in
    let whole = events_text (presses ++ gathers) in
    puts_err c.from_residual-in_err-gathers.result _ _ _ _ c.args.waiting.now c.write_gathers.new.waiting whole c.from_residual-in_err-gathers.ensures.0
    (running_front _ _ _ c.args.waiting.now c.write_presses.new.waiting (events_text gathers) (events_text gathers) [] whole
    (running_more _ _ _ c.args.waiting.now c.args.waiting.now c.write_presses.new.waiting whole (events_text presses) (events_text gathers) whole
    (running_start (g.W.Sink.contents c.args.sink.now) c.args.waiting.now whole) (events_append presses gathers) c.in_ok-write_presses.ensures.0) (sym (append-nil (events_text gathers))) failed.0) failed.1

pub returns-clause-puts : goal.returns-clause-puts
returns-clause-puts g c =
    let presses : List TraceEvent = map Press c.args.calls in
    let gathers : List TraceEvent = map Gather (floors_of c.args.calls) in
    let whole = events_text (presses ++ gathers) in (
      running_end _ _ c.args.waiting.now c.write_gathers.new.waiting [] whole
          (running_more _ _ _ c.args.waiting.now c.write_presses.new.waiting c.write_gathers.new.waiting (events_text gathers) (events_text gathers) [] whole
          (running_more _ _ _ c.args.waiting.now c.args.waiting.now c.write_presses.new.waiting whole (events_text presses) (events_text gathers) whole
          (running_start (g.W.Sink.contents c.args.sink.now) c.args.waiting.now whole) (events_append presses gathers) c.in_ok-write_presses.ensures.0) (sym (append-nil (events_text gathers))) c.in_ok-gathers.ensures.puts.0) refl,
      c.in_ok-gathers.ensures.puts.1 ∙ c.in_ok-write_presses.ensures.1,
    )
