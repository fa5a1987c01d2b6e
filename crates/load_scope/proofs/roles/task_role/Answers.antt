use Rattle.std.proofs.Common.{rules}
use Rattle.load_scope.proofs.Digits.{role_of_car, role_of_none}
use Rattle.load_scope.proofs.roles.task_role.Goals as goal

pub returns-then-is_some : goal.returns-then-is_some
returns-then-is_some c = role_of_car c.args.cars _ c.args.name.now _ _ _ (search rules) c.is_group.ensures c.car_number.ensures c.is_some.ensures c.if-is_group.false c.if-is_some.true

pub returns-else-is_some : goal.returns-else-is_some
returns-else-is_some c = role_of_none c.args.cars _ c.args.name.now _ _ _ (search rules) c.is_group.ensures c.car_number.ensures c.is_some.ensures c.if-is_group.false c.if-is_some.false
