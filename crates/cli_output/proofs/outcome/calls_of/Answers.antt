use Rattle.group_rounds.proofs.Stepping.{steps_take}
use Rattle.cli_output.proofs.outcome.calls_of.Goals as goal

pub returns-in_ok-calls_text-in-Ok-clause-is : goal.returns-in_ok-calls_text-in-Ok-clause-is
returns-in_ok-calls_text-in-Ok-clause-is c =
    let world = c.args.world.now in
    let after = c.call_log.new.world.world in
    let known = c.in-Ok.ensures.log in (
      after,
      steps_take world.program.config world.world after c.args.events.now known.steps known.are,
      record { log = c.in-Ok.log; known = known; is = c.in_ok-calls_text-in-Ok.ensures },
    )
