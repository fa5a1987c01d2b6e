use Rattle.group_laws.proofs.Resting.{reached_rests as law}
use Rattle.group_laws.proofs.reached_rests.Goals as goal

pub returns : goal.returns
returns c = law
