use Rattle.std.proofs.Common.{List, subst}
use Rattle.cli_host.specs.declared.press.Press.{Press}
use Rattle.cli_host.specs.declared.press.Setting.{Setting}
use Rattle.group_spec.specs.declared.image.Sizes.{Sizes}
use Rattle.group_spec.specs.Image.{sizes_of}
use Rattle.group_rounds.specs.Driven.{switches_in}
use Rattle.threads_workers.specs.Ran.{IsRun}
use Rattle.cli_output.specs.Outcomes.{AreDriven}
use Rattle.cli_output.proofs.Threaded.{run_is}
use Rattle.cli_output.proofs.outcome.ran.Goals as goal

pub returns-in-Ok-run_in_threads-clause-is : goal.returns-in-Ok-run_in_threads-clause-is
returns-in-Ok-run_in_threads-clause-is g c =
    let config = c.args.verified.config in
    let driven = c.in-Ok.driven in
    let ran = c.in-Ok-run_in_threads.ran in
    run_is c.args.verified c.args.asked c.args.calls.now driven.presses driven.settings
    (subst (λ (s : Sizes). AreDriven s c.args.asked c.args.calls.now driven.presses driven.settings) c.sizes.ensures c.in-Ok.ensures.ok) ran.journal.items ran.left
    (subst (λ (l : List Press). IsRun config (switches_in (sizes_of config).cars driven.settings) c.args.asked.rounds l ran.journal.items ran.left) c.as_slice.ensures
    (subst (λ (l : List Setting). IsRun config (switches_in (sizes_of config).cars l) c.args.asked.rounds c.as_slice.result.now ran.journal.items ran.left) c.as_slice-in-Ok.ensures c.in-Ok-run_in_threads.ensures))
    c.ran_output.result c.ran_output.ensures.trace c.ran_output.ensures.left c.ran_output.ensures.memory
