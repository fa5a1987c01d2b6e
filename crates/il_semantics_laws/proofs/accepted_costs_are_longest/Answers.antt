use Rattle.il_semantics_laws.proofs.Accepted.{has_longest}
use Rattle.il_semantics_laws.proofs.accepted_costs_are_longest.Goals as goal

pub returns : goal.returns
returns c = has_longest
