use Rattle.group_laws.proofs.Accepted.{opens_well}
use Rattle.group_laws.proofs.accepted_opens_well.Goals as goal

pub returns : goal.returns
returns c = opens_well
