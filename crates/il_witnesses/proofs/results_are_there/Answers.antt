use Rattle.il_witnesses.proofs.FirstRows.{no_result-first}
use Rattle.il_witnesses.proofs.results_are_there.Goals as goal

pub returns : goal.returns
returns k = no_result-first
