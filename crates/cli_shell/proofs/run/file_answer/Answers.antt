use Rattle.std.proofs.Common.{subst}
use Rattle.cli_shell.specs.Runs.{read, unread}
use Rattle.cli_shell.proofs.run.file_answer.Goals as goal

pub returns-in-Ok-clause-is : goal.returns-in-Ok-clause-is
returns-in-Ok-clause-is g c =
    let texts = c.in-Ok.texts in
    read texts.text.items c.in-Ok.ensures.text texts.trace c.in-Ok.ensures.trace c.outcome-outcome.result
    (subst (λ t. g.C.Commands.gives c.args.commands.now c.args.request t texts.trace c.outcome-outcome.result) c.deref.ensures.value c.outcome-outcome.ensures.gives) c.with_below.ensures.is

pub returns-in-Err-clause-is : goal.returns-in-Err-clause-is
returns-in-Err-clause-is g c = unread c.in-Err.why c.in-Err.ensures.err c.unread_answer.ensures.is
