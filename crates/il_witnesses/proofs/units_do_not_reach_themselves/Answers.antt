use Rattle.il_witnesses.proofs.FirstRows.{calls_itself-first}
use Rattle.il_witnesses.proofs.units_do_not_reach_themselves.Goals as goal

pub returns : goal.returns
returns k = calls_itself-first
