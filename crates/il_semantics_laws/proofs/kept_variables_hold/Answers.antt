use Rattle.il_semantics_laws.proofs.kept_variables_hold.Goals as goal
use Rattle.il_semantics_laws.proofs.Starting.{variables_hold}

pub returns : goal.returns
returns c = λ config program values accepted holds. variables_hold config program accepted values holds
