use Rattle.il_semantics_laws.proofs.scans_start_in_sets.Goals as goal
use Rattle.il_semantics_laws.proofs.Starting.{starts_in_sets}

pub returns : goal.returns
returns c = starts_in_sets
