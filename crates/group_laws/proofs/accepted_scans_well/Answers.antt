use Rattle.group_laws.proofs.Accepted.{scans_well}
use Rattle.group_laws.proofs.accepted_scans_well.Goals as goal

pub returns : goal.returns
returns c = scans_well
