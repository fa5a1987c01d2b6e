use Rattle.il_semantics_laws.proofs.globals_are_shared.Goals as goal
use Rattle.il_semantics_laws.proofs.Externals.{shares_globals}

pub returns : goal.returns
returns c = shares_globals
