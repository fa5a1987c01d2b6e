use Rattle.group_state_laws.proofs.StateOnce as once
use Rattle.group_state_laws.proofs.state_reads_once.Goals as goal

pub returns : goal.returns
returns c = once.state_reads_once
