use Rattle.il_witnesses.proofs.FirstRows.{one_argument-first}
use Rattle.il_witnesses.proofs.functions_have_their_arguments.Goals as goal

pub returns : goal.returns
returns k = one_argument-first
