use Rattle.std.proofs.Common.{[], ◌∷◌}
use Rattle.group_spec.specs.declared.trace.TraceEvent.TheVariants.{Press}
use Rattle.trace_text.specs.Writing.{events_text}
use Rattle.trace_text.proofs.Writes.{puts_err, front_after_room}
use Rattle.trace_text.proofs.write.write_press.Goals as goal

pub returns-in_err-make_room : goal.returns-in_err-make_room
returns-in_err-make_room g c =
    let failed = c.in_err-make_room.ensures.puts in
    puts_err c.from_residual.result _ _ _ _ c.args.waiting.now c.make_room.new.waiting (events_text (Press c.args.call ∷ [])) c.from_residual.ensures.0 (front_after_room _ _ _ _ failed.0) failed.1
