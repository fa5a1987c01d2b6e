use Rattle.group_laws.proofs.Histories.{calls_are_one_run}
use Rattle.group_laws.proofs.calls_are_one_run.Goals as goal

pub returns : goal.returns
returns c = calls_are_one_run
