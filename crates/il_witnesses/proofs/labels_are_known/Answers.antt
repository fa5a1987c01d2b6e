use Rattle.il_witnesses.proofs.TypeRows.{unknown_label-row}
use Rattle.il_witnesses.proofs.labels_are_known.Goals as goal

pub returns : goal.returns
returns k = unknown_label-row
