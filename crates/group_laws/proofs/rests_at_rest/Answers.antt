use Rattle.group_laws.proofs.Resting.{rests_at_rest as law}
use Rattle.group_laws.proofs.rests_at_rest.Goals as goal

pub returns : goal.returns
returns c = law
