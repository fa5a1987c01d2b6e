use Rattle.std.proofs.Common.{rules}
use Rattle.group_spec.specs.Settle.{settled_car}
use Rattle.group_interlock.proofs.commit.settle_car.Goals as goal

pub returns : goal.returns
unfolding settled_car
returns c = search rules
