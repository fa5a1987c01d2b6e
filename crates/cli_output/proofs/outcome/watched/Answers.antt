use Rattle.std.proofs.Common.{List, subst}
use Rattle.scan_task.specs.Scanning.{Program}
use Rattle.cli_host.specs.declared.press.Press.{Press}
use Rattle.cli_host.specs.declared.press.Setting.{Setting}
use Rattle.cli_host.specs.Requests.{words_of}
use Rattle.group_spec.specs.declared.image.Sizes.{Sizes}
use Rattle.cli_output.specs.Outcomes.{AreDriven, IsUndriven}
use Rattle.cli_output.specs.Parts.{IsWatched}
use Rattle.show_values.specs.Words.{meant}
use Rattle.cli_output.proofs.Watching.{watched_is, unwatched_is}
use Rattle.cli_output.proofs.outcome.watched.Goals as goal

pub returns-in_ok-world-in-Ok-clause-is : goal.returns-in_ok-world-in-Ok-clause-is
returns-in_ok-world-in-Ok-clause-is c =
    let names = words_of c.names_first.result.names in
    let behind = c.names_first.result.presses in
    let driven = c.in-Ok.driven in
    watched_is c.args.verified c.args.asked c.args.calls.now names behind c.names_first.ensures driven.presses driven.settings
    (subst (λ (s : Sizes). AreDriven s (record c.args.asked { presses = behind }) c.args.calls.now driven.presses driven.settings) c.sizes.ensures c.in-Ok.ensures.ok) c.watched_names-output.result
    (subst (λ (l : List Press). IsWatched c.args.verified.config (meant c.args.verified.config names) l driven.settings c.args.asked.rounds c.args.asked.flag c.watched_names-output.result) c.drive-drive.ensures.presses
    (subst (λ (l : List Setting). IsWatched c.args.verified.config (meant c.args.verified.config names) c.drive-drive.result.presses.now l c.args.asked.rounds c.args.asked.flag c.watched_names-output.result) c.drive-drive.ensures.settings
    (subst (λ (p : Program). IsWatched p.config (meant p.config names) c.drive-drive.result.presses.now c.drive-drive.result.settings.now c.args.asked.rounds c.args.asked.flag c.watched_names-output.result) c.in_ok-world-in-Ok.ensures.same c.watched_names-output.ensures.is)))

pub returns-in-Err-clause-is : goal.returns-in-Err-clause-is
returns-in-Err-clause-is c =
    let behind = c.names_first.result.presses in
    unwatched_is c.args.verified c.args.asked c.args.calls.now (words_of c.names_first.result.names) behind c.names_first.ensures c.in-Err.fault
    (subst (λ (s : Sizes). IsUndriven s (record c.args.asked { presses = behind }) c.args.calls.now c.in-Err.fault) c.sizes.ensures c.in-Err.ensures.err)
