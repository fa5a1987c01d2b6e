use Rattle.il_witnesses.proofs.Spelled.{whole_spelled}
use Rattle.il_witnesses.proofs.every_construct_is_spelled.Goals as goal

pub returns : goal.returns
returns k = whole_spelled
