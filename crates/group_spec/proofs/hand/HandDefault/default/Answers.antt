use Rattle.std.proofs.Common.{rules}
use Rattle.group_spec.proofs.hand.HandDefault.default.Goals as goal

pub returns : goal.returns
returns c = search rules
