use Rattle.il_witnesses.proofs.TypeRows.{two_writers-row}
use Rattle.il_witnesses.proofs.globals_have_one_writer.Goals as goal

pub returns : goal.returns
returns k = two_writers-row
