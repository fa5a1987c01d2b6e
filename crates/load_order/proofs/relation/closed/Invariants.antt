use Rattle.std.proofs.Common.{◌≡◌}
use Rattle.load_order.specs.Related.{closed}
use Rattle.load_order.proofs.relation.closed.Given as goal

abbrev pub invariant-loop-through : goal.invariant-loop-through
invariant-loop-through l = l.closed ≡ closed l.count l.fn.relation l.through
