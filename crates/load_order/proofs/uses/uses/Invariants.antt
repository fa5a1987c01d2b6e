use Rattle.std.proofs.Common.{◌≡◌, ◌++◌, drop, map}
use Rattle.load_order.specs.Used.{uses_row}
use Rattle.load_order.proofs.uses.uses.Given as goal

abbrev pub invariant-loop-unit : goal.invariant-loop-unit
invariant-loop-unit l = l.rows ++ map (λ u. uses_row l.names l.nameless u) (drop l.unit-index l.unit-items) ≡ map (λ u. uses_row l.names l.nameless u) l.unit-items
