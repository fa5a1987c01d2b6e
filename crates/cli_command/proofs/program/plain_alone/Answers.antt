use Rattle.std.proofs.Common.{refl, map, string_bytes, subst}
use Rattle.cli_host.specs.declared.serving.Serving.{Serving}
use Rattle.cli_host.specs.Servings.{Serves}
use Rattle.cli_shell.specs.Runs.{stream}
use Rattle.cli_command.specs.Servings.{held_trace, streams, IsServeAnswer}
use Rattle.cli_command.specs.Programs.{printed, served}
use Rattle.cli_command.proofs.Answering.{if_some}
use Rattle.cli_command.proofs.program.plain_alone.Goals as goal

pub returns-in-Some-clause-answered : goal.returns-in-Some-clause-answered
returns-in-Some-clause-answered g c =
    let out = stream (g.O.Sink.contents c.args.out.now) (g.O.Sink.contents c.serve.new.out) (g.O.Sink.has_failed c.serve.new.out) in
    let err = stream (g.E.Sink.contents c.args.err.now) (g.E.Sink.contents c.serve.new.err) (g.E.Sink.has_failed c.serve.new.err) in
    let all = streams (g.I.Read.remaining c.args.input.now) (g.I.Read.remaining c.serve.new.input) out err (held_trace (g.T.Sink.contents c.args.trace.now) (g.T.Sink.contents c.serve.new.trace) (g.T.Sink.made c.args.trace.now) (g.T.Sink.made c.serve.new.trace)) (g.T.Sink.has_failed c.serve.new.trace) in
    served c.in-Some.serving (subst (λ ws. Serves (map string_bytes ws) c.in-Some.serving) c.deref.ensures.value c.in-Some.ensures.found)
    (subst (λ wanted. IsServeAnswer (g.F.TextFiles.gives c.args.files.now) (g.F.TextFiles.fails c.args.files.now) wanted c.in-Some.serving all c.serve.result) c.is_wanted-wanted.ensures c.serve.ensures)

pub returns-in-None-clause-answered : goal.returns-in-None-clause-answered
returns-in-None-clause-answered g c =
    let never = subst (λ ws. (serving : Serving) → Serves (map string_bytes ws) serving → ⊥) c.deref.ensures.value (c.in-None.ensures.none refl) in
    if_some c.run_alone.result (λ ends is. printed never is (record { untaken = refl; untraced = record { unwritten = refl; unmade = refl } })) c.run_alone.ensures.printed
