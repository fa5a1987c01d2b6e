use Rattle.std.proofs.Common.{◌≡◌, ◌++◌, drop, map}
use Rattle.load_order.specs.Counted.{unit_listed}
use Rattle.load_order.proofs.variables.units_listed.Given as goal

abbrev pub invariant-loop-unit : goal.invariant-loop-unit
invariant-loop-unit l = l.all ++ map (λ u. unit_listed l.names u) (drop l.unit-index l.unit-items) ≡ map (λ u. unit_listed l.names u) l.unit-items
