use Rattle.std.proofs.Common.{◌≡◌, []}
use Rattle.load_order.specs.Related.{tabulate}
use Rattle.load_order.proofs.dead_ends.no_ends.Given as goal

abbrev pub invariant-loop-unit : goal.invariant-loop-unit
invariant-loop-unit l = l.ends.items ≡ tabulate l._unit (λ _. [])
