use Rattle.cli_command.specs.Runs.{refused, accepted}
use Rattle.cli_command.proofs.liftplc.LiftplcCommands.run.Goals as goal

pub returns-in-Ok-clause-gives : goal.returns-in-Ok-clause-gives
returns-in-Ok-clause-gives g c = accepted c.in-Ok.verified c.in-Ok.ensures (c.run_verified.ensures.is c.args.text.now) c.run_verified.ensures.warned

pub returns-in-Err-clause-gives : goal.returns-in-Err-clause-gives
returns-in-Err-clause-gives g c = refused c.in-Err.refusal c.in-Err.ensures c.refused.ensures.is
