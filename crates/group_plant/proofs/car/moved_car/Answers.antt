use Rattle.std.proofs.Common.{rules}
use Rattle.group_plant.proofs.car.moved_car.Goals as goal

pub returns-then-outputs-clause-value : goal.returns-then-outputs-clause-value
returns-then-outputs-clause-value c = search rules

pub returns-then-outputs-clause-stays : goal.returns-then-outputs-clause-stays
returns-then-outputs-clause-stays c = search rules

pub returns-else-outputs-clause-value : goal.returns-else-outputs-clause-value
returns-else-outputs-clause-value c = search rules

pub returns-else-outputs-clause-stays : goal.returns-else-outputs-clause-stays
returns-else-outputs-clause-stays c = search rules
