use Rattle.group_laws.proofs.Histories.{event_is_run}
use Rattle.group_laws.proofs.event_is_run.Goals as goal

pub returns : goal.returns
returns c = event_is_run
