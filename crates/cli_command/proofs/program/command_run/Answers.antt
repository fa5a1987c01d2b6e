use Rattle.std.proofs.Common.{refl, map, string_bytes}
use Rattle.cli_shell.specs.Runs.{stream}
use Rattle.cli_command.specs.Programs.{HasAnswered, printed_run, unread_run}
use Rattle.cli_command.proofs.Answering.{as_read}
use Rattle.cli_command.proofs.program.command_run.Goals as goal

pub returns-in-Ok : goal.returns-in-Ok
returns-in-Ok g c =
    let out = stream (g.O.Sink.contents c.args.out.now) (g.O.Sink.contents c.run.new.out) (g.O.Sink.has_failed c.run.new.out) in
    let err = stream (g.E.Sink.contents c.args.err.now) (g.E.Sink.contents c.run.new.err) (g.E.Sink.has_failed c.run.new.err) in
    printed_run (as_read c.in-Ok.plain (map string_bytes c.args.words.now) c.in-Ok.ensures.words c.in-Ok.ensures.explains c.in-Ok.ensures.flags c.args.explains
    (λ wanted words flags. HasAnswered (g.F.TextFiles.gives c.args.files.now) (g.F.TextFiles.fails c.args.files.now) wanted words flags out err c.run.result) c.run.ensures)

pub returns-in-Err : goal.returns-in-Err
returns-in-Err g c = unread_run (record { told = c.ends_with.ensures.told; nothing = refl; status = c.ends_with.ensures.ends })
