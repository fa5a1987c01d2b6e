use Rattle.std.proofs.Common.{◌≡◌, ◌≤◌, pos, drop}
use Rattle.il_statics.specs.Names.{car_digits, decimal_value}
use Rattle.load_scope.specs.Cars.{up_to}
use Rattle.load_scope.proofs.roles.number_of.Given as goal

abbrev pub invariant-loop-digit : goal.invariant-loop-digit
invariant-loop-digit l = (l.total ≤ l.limit) × (up_to (pos l.limit) (car_digits l.digits) ≡ up_to (pos l.limit) (decimal_value l.total (drop l.digit-index l.digits)))
