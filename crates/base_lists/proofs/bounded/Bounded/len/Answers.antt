use Rattle.std.proofs.Common.{rules}
use Rattle.base_lists.proofs.bounded.Bounded.len.Goals as goal

pub returns-clause-count : goal.returns-clause-count
returns-clause-count g c = search rules

pub returns-clause-fits : goal.returns-clause-fits
returns-clause-fits g c = search rules
