use Rattle.group_laws.proofs.Accepted.{accepted_runs_well}
use Rattle.group_laws.proofs.accepted_runs_well.Goals as goal

pub returns : goal.returns
returns c = accepted_runs_well
