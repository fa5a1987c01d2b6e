use Rattle.group_laws.proofs.Histories.{runs_are_cut}
use Rattle.group_laws.proofs.runs_are_cut.Goals as goal

pub returns : goal.returns
returns c = runs_are_cut
