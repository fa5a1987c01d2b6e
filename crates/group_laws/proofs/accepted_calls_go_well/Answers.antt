use Rattle.group_laws.proofs.Histories.{accepted_calls_go_well}
use Rattle.group_laws.proofs.accepted_calls_go_well.Goals as goal

pub returns : goal.returns
returns c = accepted_calls_go_well
