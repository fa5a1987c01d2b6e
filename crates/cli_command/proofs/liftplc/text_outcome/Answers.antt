use Rattle.cli_command.specs.Runs.{refused, accepted}
use Rattle.cli_command.proofs.Running.{other_command}
use Rattle.cli_command.proofs.liftplc.text_outcome.Goals as goal

pub outcome-requires : goal.outcome-requires
outcome-requires c = other_command c.args.request c.requires

pub returns-in-Ok-clause-gives : goal.returns-in-Ok-clause-gives
returns-in-Ok-clause-gives c = accepted c.in-Ok.verified c.in-Ok.ensures c.outcome.ensures.is c.outcome.ensures.warned

pub returns-in-Err-clause-gives : goal.returns-in-Err-clause-gives
returns-in-Err-clause-gives c = refused c.in-Err.refusal c.in-Err.ensures c.refused.ensures.is
