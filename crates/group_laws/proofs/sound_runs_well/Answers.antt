use Rattle.group_laws.proofs.Running.{runs_well}
use Rattle.group_laws.proofs.sound_runs_well.Goals as goal

pub returns : goal.returns
returns c = runs_well
