use Rattle.group_laws.proofs.Following.{appends}
use Rattle.group_laws.proofs.run_appends.Goals as goal

pub returns : goal.returns
returns c = appends
