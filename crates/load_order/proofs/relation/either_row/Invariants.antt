use Rattle.std.proofs.Common.{◌≡◌, ◌||◌}
use Rattle.load_order.specs.Related.{tabulate, holds}
use Rattle.load_order.proofs.relation.either_row.Given as goal

abbrev pub invariant-loop-to : goal.invariant-loop-to
invariant-loop-to l = l.row ≡ tabulate l.to (λ k. holds l.relation l.from k || holds l.relation l.other k)
