use Rattle.std.proofs.Common.{refl, subst}
use Rattle.cli_host.specs.Writes.{Writes}
use Rattle.cli_command.specs.Servings as s
use Rattle.serve_blackbox.proofs.Ending.{consumes_none}
use Rattle.cli_command.proofs.serving.serve_text.Goals as goal

pub returns-in-Ok : goal.returns-in-Ok
returns-in-Ok g c = s.accepted c.in-Ok.verified c.in-Ok.ensures c.serve_loaded.ensures

pub returns-in-Err : goal.returns-in-Err
returns-in-Err g c =
    let said = subst (λ f. s.IsRefusedAnswer c.args.explains c.args.serving.file.now c.args.text.now f (Writes (g.E.Sink.contents c.args.err.now) (g.E.Sink.contents c.tell_refused.new.err) (g.E.Sink.has_failed c.tell_refused.new.err)) c.tell_refused.result) c.into.ensures c.tell_refused.ensures in
    s.refused c.in-Err.refusal c.in-Err.ensures said (record { untraced = record { unwritten = refl; unmade = refl }; untaken = consumes_none (g.I.Read.remaining c.args.input.now); unanswered = refl })
