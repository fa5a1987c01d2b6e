use Rattle.group_laws.proofs.Running.{opening_rests}
use Rattle.group_laws.proofs.opening_holds.Goals as goal

pub returns : goal.returns
returns c = opening_rests
