use Rattle.il_semantics_laws.proofs.rules_give_order.Goals as goal
use Rattle.il_semantics_laws.proofs.Premises.{in_order}

pub returns : goal.returns
returns c = in_order
