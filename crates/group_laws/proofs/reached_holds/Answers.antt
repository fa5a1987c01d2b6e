use Rattle.group_laws.proofs.Running.{reached_world_holds}
use Rattle.group_laws.proofs.reached_holds.Goals as goal

pub returns : goal.returns
returns c = reached_world_holds
