use Rattle.std.proofs.Common.{refl, sym, subst}
use Rattle.cli_shell.specs.Runs.{most_bytes}
use Rattle.cli_command.specs.Servings as s
use Rattle.serve_blackbox.proofs.Ending.{consumes_none}
use Rattle.cli_command.proofs.serving.serve.Goals as goal

pub returns-in-Ok : goal.returns-in-Ok
returns-in-Ok g c =
    s.read c.deref.result.now (subst (g.F.TextFiles.gives c.args.files.now c.args.serving.file.now most_bytes) (sym c.deref.ensures.value) c.in-Ok.ensures.gives) c.serve_text.ensures

pub returns-in-Err : goal.returns-in-Err
returns-in-Err g c = s.unread c.in-Err.why c.in-Err.ensures.fails c.tell_unread.ensures (record { untraced = record { unwritten = refl; unmade = refl }; untaken = consumes_none (g.I.Read.remaining c.args.input.now); unanswered = refl })
