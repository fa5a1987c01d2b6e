use Rattle.il_witnesses.proofs.TypeRows.{written_input-row}
use Rattle.il_witnesses.proofs.inputs_are_not_written.Goals as goal

pub returns : goal.returns
returns k = written_input-row
