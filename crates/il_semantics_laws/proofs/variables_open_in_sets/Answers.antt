use Rattle.il_semantics_laws.proofs.variables_open_in_sets.Goals as goal
use Rattle.il_semantics_laws.proofs.Opening.{opens_in_sets}

pub returns : goal.returns
returns c = opens_in_sets
