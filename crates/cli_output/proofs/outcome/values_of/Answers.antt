use Rattle.std.proofs.Common.{List, ℕ, map, string_bytes, subst, ap, ◌∙◌, ◌++◌}
use Rattle.group_rounds.proofs.Stepping.{steps_take}
use Rattle.show_values.specs.declared.names.Watched.{Watched}
use Rattle.show_values.specs.Following.{AreRowsAlong}
use Rattle.cli_output.proofs.Followed.{shown_along}
use Rattle.cli_output.proofs.outcome.values_of.Goals as goal

pub returns-in-Ok-clause-is : goal.returns-in-Ok-clause-is
returns-in-Ok-clause-is c =
    let world = c.args.world.now in
    let after = c.rows_along.new.world.world in
    let told = c.in-Ok.ensures.rows in
    let along : AreRowsAlong c.in_ok-watched.field-0.watched world.program.config world.world c.args.events.now after told.0 =
    subst (λ (l : List Watched). AreRowsAlong l world.program.config world.world c.args.events.now after told.0) c.as_slice.ensures told.2
    in
    shown_along (map string_bytes c.args.names.now) c.args.changes world.program world.world after c.args.events.now c.args.lines (steps_take world.program.config world.world after c.args.events.now along.steps along.are) c.in_ok-watched.field-0.watched
    c.in_ok-watched.ensures.known told.0 (string_bytes c.rows_along.new.text) along (told.1 ∙ ap (λ (l : List ℕ). l ++ told.0) c.in_ok-watched.ensures.header) c.shown_output.result c.shown_output.ensures.is
