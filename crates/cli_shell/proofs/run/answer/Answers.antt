use Rattle.cli_shell.proofs.Asking.{answer_of}
use Rattle.cli_shell.proofs.run.answer.Goals as goal

pub returns-in-Err-clause-is : goal.returns-in-Err-clause-is
returns-in-Err-clause-is g c =
    let run = c.in-Err.ensures.run in
    answer_of (g.F.TextFiles.gives c.args.files.now) (g.F.TextFiles.fails c.args.files.now) (g.C.Commands.gives c.args.commands.now) (g.C.Commands.reasons c.args.commands.now) (g.C.Commands.others c.args.commands.now) c.args.explains c.args.words.now c.run_answer.result.outcome c.run_answer.result.below.items
    run.asked run.asks c.in-Err.request run.flagged c.is_wanted-wanted.result c.is_wanted-wanted.ensures c.run_answer.ensures.is
