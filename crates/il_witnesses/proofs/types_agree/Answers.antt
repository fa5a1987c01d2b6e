use Rattle.il_witnesses.proofs.FirstRows.{great_literal-first}
use Rattle.il_witnesses.proofs.types_agree.Goals as goal

pub returns : goal.returns
returns k = great_literal-first
