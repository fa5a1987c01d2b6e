use Rattle.std.proofs.Common.{refl, map, string_bytes, subst}
use Rattle.cli_shell.specs.Runs.{AskForRun, stream}
use Rattle.cli_command.specs.Servings.{held_trace, streams}
use Rattle.cli_command.specs.Programs.{IsPlainAnswer, plain, unread}
use Rattle.cli_command.proofs.Answering.{as_read, if_some}
use Rattle.cli_command.proofs.program.command_alone.Goals as goal

pub returns-in-Ok-clause-answered : goal.returns-in-Ok-clause-answered
returns-in-Ok-clause-answered g c =
    let out = stream (g.O.Sink.contents c.args.out.now) (g.O.Sink.contents c.plain_alone.new.out) (g.O.Sink.has_failed c.plain_alone.new.out) in
    let err = stream (g.E.Sink.contents c.args.err.now) (g.E.Sink.contents c.plain_alone.new.err) (g.E.Sink.has_failed c.plain_alone.new.err) in
    let all = streams (g.I.Read.remaining c.args.input.now) (g.I.Read.remaining c.plain_alone.new.input) out err (held_trace (g.T.Sink.contents c.args.trace.now) (g.T.Sink.contents c.plain_alone.new.trace) (g.T.Sink.made c.args.trace.now) (g.T.Sink.made c.plain_alone.new.trace)) (g.T.Sink.has_failed c.plain_alone.new.trace) in
    if_some c.plain_alone.result (λ ends is.
    plain (as_read c.in-Ok.plain (map string_bytes c.args.words.now) c.in-Ok.ensures.words c.in-Ok.ensures.explains c.in-Ok.ensures.flags c.args.explains
    (λ wanted words flags. IsPlainAnswer (g.F.TextFiles.gives c.args.files.now) (g.F.TextFiles.fails c.args.files.now) wanted words flags all ends) is)) c.plain_alone.ensures.answered

pub returns-in-Ok-clause-run : goal.returns-in-Ok-clause-run
returns-in-Ok-clause-run g c none = subst AskForRun c.in-Ok.ensures.words (c.plain_alone.ensures.run none)

pub returns-in-Err-clause-answered : goal.returns-in-Err-clause-answered
returns-in-Err-clause-answered g c = unread (record { told = c.ends_with.ensures.told; nothing = refl; status = c.ends_with.ensures.ends }) (record { untaken = refl; untraced = record { unwritten = refl; unmade = refl } })
