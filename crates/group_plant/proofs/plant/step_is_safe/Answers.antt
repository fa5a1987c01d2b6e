use Rattle.group_plant.proofs.Safe.{safe_step}
use Rattle.group_plant.proofs.plant.step_is_safe.Goals as goal

pub returns : goal.returns
returns c = safe_step
