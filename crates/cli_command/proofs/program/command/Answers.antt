use Rattle.std.proofs.Common.{refl, ap, map, string_bytes, subst}
use Rattle.cli_shell.specs.Runs.{stream}
use Rattle.cli_command.specs.Servings.{held_trace, streams}
use Rattle.cli_command.specs.Programs.{IsRunAnswer}
use Rattle.cli_command.proofs.Answering.{of_run}
use Rattle.cli_command.proofs.program.command.Goals as goal

pub returns-in-None : goal.returns-in-None
returns-in-None g c =
    let reads = g.F.TextFiles.gives c.args.files.now in
    let fails = g.F.TextFiles.fails c.args.files.now in
    let words = map string_bytes c.args.words.now in
    let out = stream (g.O.Sink.contents c.args.out.now) (g.O.Sink.contents c.command_run.new.out) (g.O.Sink.has_failed c.command_run.new.out) in
    let err = stream (g.E.Sink.contents c.args.err.now) (g.E.Sink.contents c.command_run.new.err) (g.E.Sink.has_failed c.command_run.new.err) in
    let all = streams (g.I.Read.remaining c.args.input.now) (g.I.Read.remaining c.command_alone.new.input) out err (held_trace (g.T.Sink.contents c.args.trace.now) (g.T.Sink.contents c.command_alone.new.trace) (g.T.Sink.made c.args.trace.now) (g.T.Sink.made c.command_alone.new.trace)) (g.T.Sink.has_failed c.command_alone.new.trace) in
    let unread = c.in-None.ensures.unread refl in
    let unwritten = c.in-None.ensures.unwritten refl in
    of_run reads fails c.args.explains words (c.in-None.ensures.run refl) all (record { untaken = ap g.I.Read.remaining unread.0; untraced = record { unwritten = ap g.T.Sink.contents unread.1; unmade = ap g.T.Sink.made unread.1 } }) c.command_run.result
    (subst (λ o. IsRunAnswer reads fails c.args.explains words (stream (g.O.Sink.contents o) (g.O.Sink.contents c.command_run.new.out) (g.O.Sink.has_failed c.command_run.new.out)) err c.command_run.result) unwritten.0
    (subst (λ e. IsRunAnswer reads fails c.args.explains words (stream (g.O.Sink.contents c.command_alone.new.out) (g.O.Sink.contents c.command_run.new.out) (g.O.Sink.has_failed c.command_run.new.out)) (stream (g.E.Sink.contents e) (g.E.Sink.contents c.command_run.new.err) (g.E.Sink.has_failed c.command_run.new.err)) c.command_run.result) unwritten.1 c.command_run.ensures))
