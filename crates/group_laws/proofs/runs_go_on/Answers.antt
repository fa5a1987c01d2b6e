use Rattle.group_laws.proofs.Histories.{run_goes_on}
use Rattle.group_laws.proofs.runs_go_on.Goals as goal

pub returns : goal.returns
returns c = run_goes_on
