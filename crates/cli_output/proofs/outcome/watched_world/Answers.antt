use Rattle.std.proofs.Common.{List, ℕ, map, string_bytes, subst, ap, ◌∙◌, ◌++◌}
use Rattle.group_rounds.specs.Shown.{IsShown}
use Rattle.group_spec.specs.World.{World}
use Rattle.show_values.specs.declared.asked.Asked.{Asked}
use Rattle.show_values.specs.Values.{AreWatched, watching_behind}
use Rattle.cli_output.proofs.Watching.{shown_rounds}
use Rattle.cli_output.proofs.outcome.watched_world.Goals as goal

pub returns-clause-is : goal.returns-clause-is
returns-clause-is c =
    let config = c.args.world.now.program.config in
    let watch = c.in_ok-watch.watch in
    let seen = c.in_ok-simulate_on.ensures.rounds in
    let shown =
    subst (λ (a : Asked). IsShown (watching_behind a watch.watched) config c.args.drive.presses.now c.args.drive.settings.now c.args.rounds c.in_ok-simulate_on.field-0.items seen.0) c.in_ok-watch.ensures.asked seen.2
    in
    shown_rounds config (map string_bytes c.args.names.now) c.args.drive.presses.now c.args.drive.settings.now c.args.rounds c.args.changes watch.watched
    (subst (λ (w : World). AreWatched w (map string_bytes c.args.names.now) watch.watched) c.requires.opening c.in_ok-watch.ensures.known) c.in_ok-simulate_on.field-0.items seen.0 (string_bytes c.simulate_on.new.observer.text) shown
    (seen.1 ∙ ap (λ (l : List ℕ). l ++ seen.0) c.in_ok-watch.ensures.header) c.shown_output.result c.shown_output.ensures.is
