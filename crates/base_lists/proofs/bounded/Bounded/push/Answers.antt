use Rattle.std.proofs.Common.{rules}
use Rattle.base_lists.proofs.bounded.Bounded.push.Goals as goal

pub returns : goal.returns
returns g c = search rules
