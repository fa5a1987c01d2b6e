use Rattle.il_witnesses.proofs.TypeRows.{behind_return-row}
use Rattle.il_witnesses.proofs.instructions_are_reached.Goals as goal

pub returns : goal.returns
returns k = behind_return-row
