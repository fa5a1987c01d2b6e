use Rattle.std.proofs.Common.{List, [], ◌∷◌, ◌++◌, refl, sym, append-nil, ◌∙◌}
use Rattle.std.specs.Prelude.{map}
use Rattle.group_spec.specs.declared.trace.TraceEvent.{TraceEvent}
use Rattle.group_spec.specs.declared.trace.TraceEvent.TheVariants.{Press, Gather, Refresh}
use Rattle.group_spec.specs.Hands.{floors_of}
use Rattle.trace_text.specs.Writing.{events_text}
use Rattle.trace_text.proofs.Writes.{puts_err, running_start, running_more, running_front, running_end, events_in_three}
use Rattle.trace_text.proofs.write.write_refresh.Goals as goal

pub returns-in_err-others-clause-puts : goal.returns-in_err-others-clause-puts
returns-in_err-others-clause-puts g c =
    let failed = c.in_err-others.ensures.puts in
    let presses : List TraceEvent = map Press c.args.calls in
    let gathers : List TraceEvent = map Gather (floors_of c.args.calls) in
    let fields : List TraceEvent = Refresh c.args.fields.now ∷ [] in
    let whole = events_text (presses ++ (gathers ++ fields)) in
    puts_err c.from_residual.result _ _ _ _ c.args.waiting.now c.write_calls.new.waiting whole c.from_residual.ensures.0
    (running_front _ _ _ c.args.waiting.now c.args.waiting.now whole (events_text (presses ++ gathers)) (events_text fields) whole
    (running_start (g.W.Sink.contents c.args.sink.now) c.args.waiting.now whole) (events_in_three presses gathers fields) failed.0) failed.1

pub returns-in_err-write_fields-clause-puts : goal.returns-in_err-write_fields-clause-puts
returns-in_err-write_fields-clause-puts g c =
    let failed = c.in_err-write_fields.ensures in
    let presses : List TraceEvent = map Press c.args.calls in
    let gathers : List TraceEvent = map Gather (floors_of c.args.calls) in
    let fields : List TraceEvent = Refresh c.args.fields.now ∷ [] in
    let whole = events_text (presses ++ (gathers ++ fields)) in
    puts_err c.from_residual-in_err-write_fields.result _ _ _ _ c.args.waiting.now c.write_fields.new.waiting whole c.from_residual-in_err-write_fields.ensures.0
    (running_front _ _ _ c.args.waiting.now c.write_calls.new.waiting (events_text fields) (events_text fields) [] whole
    (running_more _ _ _ c.args.waiting.now c.args.waiting.now c.write_calls.new.waiting whole (events_text (presses ++ gathers)) (events_text fields) whole
    (running_start (g.W.Sink.contents c.args.sink.now) c.args.waiting.now whole) (events_in_three presses gathers fields) c.in_ok-others.ensures.puts.0) (sym (append-nil (events_text fields))) failed.0) failed.1

pub returns-clause-puts : goal.returns-clause-puts
returns-clause-puts g c =
    let presses : List TraceEvent = map Press c.args.calls in
    let gathers : List TraceEvent = map Gather (floors_of c.args.calls) in
    let fields : List TraceEvent = Refresh c.args.fields.now ∷ [] in
    let whole = events_text (presses ++ (gathers ++ fields)) in (
      running_end _ _ c.args.waiting.now c.write_fields.new.waiting [] whole
          (running_more _ _ _ c.args.waiting.now c.write_calls.new.waiting c.write_fields.new.waiting (events_text fields) (events_text fields) [] whole
          (running_more _ _ _ c.args.waiting.now c.args.waiting.now c.write_calls.new.waiting whole (events_text (presses ++ gathers)) (events_text fields) whole
          (running_start (g.W.Sink.contents c.args.sink.now) c.args.waiting.now whole) (events_in_three presses gathers fields) c.in_ok-others.ensures.puts.0) (sym (append-nil (events_text fields))) c.in_ok-write_fields.ensures.0) refl,
      c.in_ok-write_fields.ensures.1 ∙ c.in_ok-others.ensures.puts.1,
    )
