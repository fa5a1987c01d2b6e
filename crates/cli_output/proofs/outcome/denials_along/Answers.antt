use Rattle.group_rounds.proofs.Stepping.{steps_take}
use Rattle.cli_output.proofs.outcome.denials_along.Goals as goal

pub returns-in-Ok-clause-is : goal.returns-in-Ok-clause-is
returns-in-Ok-clause-is c =
    let world = c.args.world.now in
    let after = c.denied_in.new.world.world in
    let along = c.in-Ok.ensures.text in
    (after, steps_take world.program.config world.world after c.args.events.now along.steps along.are, along)
