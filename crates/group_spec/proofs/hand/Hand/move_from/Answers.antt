use Rattle.std.proofs.Common.{rules}
use Rattle.group_spec.proofs.hand.Hand.move_from.Goals as goal

pub returns-clause-mask : goal.returns-clause-mask
returns-clause-mask c = search rules

pub returns-clause-rest : goal.returns-clause-rest
returns-clause-rest c = search rules

pub returns-clause-moved : goal.returns-clause-moved
returns-clause-moved c = search rules
