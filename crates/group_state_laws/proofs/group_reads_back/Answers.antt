use Rattle.group_state_laws.proofs.StateBack as back
use Rattle.group_state_laws.proofs.group_reads_back.Goals as goal

pub returns : goal.returns
returns c = back.group_reads_back
