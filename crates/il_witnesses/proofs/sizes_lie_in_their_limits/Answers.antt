use Rattle.il_witnesses.proofs.DeclarationRows.{no_cars-row}
use Rattle.il_witnesses.proofs.sizes_lie_in_their_limits.Goals as goal

pub returns : goal.returns
returns k = no_cars-row
