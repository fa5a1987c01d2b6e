use Rattle.std.proofs.Common.{◌++◌, IfErr, subst}
use Rattle.cli_host.specs.Messages.{message_of}
use Rattle.cli_shell.specs.Runs.{IsAnswerOf, stream}
use Rattle.cli_host.specs.Writes.{Writes}
use Rattle.cli_shell.proofs.Asking.{asks_for_run}
use Rattle.cli_shell.proofs.Ending.{printed_of}
use Rattle.cli_shell.proofs.run.run_alone.Goals as goal

pub returns-in-Ok-clause-printed : goal.returns-in-Ok-clause-printed
returns-in-Ok-clause-printed g c =
    printed_of (IsAnswerOf (g.F.TextFiles.gives c.args.files.now) (g.F.TextFiles.fails c.args.files.now) (g.C.Commands.gives c.args.commands.now) (g.C.Commands.reasons c.args.commands.now) (g.C.Commands.others c.args.commands.now) c.args.explains c.args.words.now)
    c.in-Ok.answer.outcome c.in-Ok.answer.below.items c.show.result c.in-Ok.ensures.is
    (stream (g.O.Sink.contents c.args.out.now) (g.O.Sink.contents c.show.new.out) (g.O.Sink.has_failed c.show.new.out))
    (stream (g.E.Sink.contents c.args.err.now) (g.E.Sink.contents c.show.new.err) (g.E.Sink.has_failed c.show.new.err))
    c.in-Ok.ensures.unwritten c.show.ensures.ends c.show.ensures.shown c.show.ensures.front c.show.ensures.warned c.show.ensures.cannot_write c.show.ensures.fault c.show.ensures.nothing
    (subst (λ l. IfErr c.in-Ok.answer.outcome (λ f. Writes (g.E.Sink.contents c.args.err.now) (g.E.Sink.contents c.show.new.err) (g.E.Sink.has_failed c.show.new.err) (message_of f ++ l))) c.deref.ensures.value c.show.ensures.told)

pub returns-in-Err-clause-run : goal.returns-in-Err-clause-run
returns-in-Err-clause-run g c e = asks_for_run c.args.words.now c.in-Err.ensures.run
