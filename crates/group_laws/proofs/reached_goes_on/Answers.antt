use Rattle.group_laws.proofs.Following.{goes_on}
use Rattle.group_laws.proofs.reached_goes_on.Goals as goal

pub returns : goal.returns
returns c = goes_on
