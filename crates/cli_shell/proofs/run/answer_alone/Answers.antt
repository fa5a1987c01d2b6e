use Rattle.std.proofs.Common.{map, string_bytes, refl, subst}
use Rattle.cli_host.specs.declared.request.Request.{Request}
use Rattle.cli_host.specs.Requests.{Asks}
use Rattle.cli_shell.specs.Runs.{IsWordsOutcome, unasked}
use Rattle.cli_shell.proofs.Asking.{answer_of}
use Rattle.cli_shell.proofs.run.answer_alone.Goals as goal

pub returns-else-runs-clause-is : goal.returns-else-runs-clause-is
returns-else-runs-clause-is g c =
    answer_of (g.F.TextFiles.gives c.args.files.now) (g.F.TextFiles.fails c.args.files.now) (g.C.Commands.gives c.args.commands.now) (g.C.Commands.reasons c.args.commands.now) (g.C.Commands.others c.args.commands.now) c.args.explains c.args.words.now c.file_answer.result.outcome c.file_answer.result.below.items
    c.in-Some.request (subst (λ ws. Asks (map string_bytes ws) c.in-Some.request) c.deref.ensures.value c.in-Some.ensures.some) c.with_flags-request.result c.with_flags-request.ensures c.is_wanted-wanted.result c.is_wanted-wanted.ensures c.file_answer.ensures.is

pub returns-in-None-clause-is : goal.returns-in-None-clause-is
returns-in-None-clause-is g c = unasked (subst (λ ws. (request : Request) → Asks (map string_bytes ws) request → ⊥) c.deref.ensures.value (c.in-None.ensures.none refl)) (subst (λ ws. IsWordsOutcome (map string_bytes ws) c.outcome_of_words.result) c.deref-in-None.ensures.value c.outcome_of_words.ensures.is) c.new.ensures.items
