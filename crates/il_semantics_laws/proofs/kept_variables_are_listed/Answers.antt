use Rattle.il_semantics_laws.proofs.kept_variables_are_listed.Goals as goal
use Rattle.il_semantics_laws.proofs.Listing.{keeps_listed}

pub returns : goal.returns
returns c = keeps_listed
