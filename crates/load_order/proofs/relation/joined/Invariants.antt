use Rattle.std.proofs.Common.{◌≡◌}
use Rattle.load_order.specs.Related.{tabulate, joined_row}
use Rattle.load_order.proofs.relation.joined.Given as goal

abbrev pub invariant-loop-from : goal.invariant-loop-from
invariant-loop-from l = l.rows ≡ tabulate l.from (λ k. joined_row l.count l.relation l.through k)
