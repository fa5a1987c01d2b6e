use Rattle.std.proofs.Common.{◌≡◌}
use Rattle.load_order.specs.Related.{tabulate}
use Rattle.load_order.specs.Used.{is_among}
use Rattle.load_order.proofs.uses.row_of.Given as goal

abbrev pub invariant-loop-to : goal.invariant-loop-to
invariant-loop-to l = l.row ≡ tabulate l.to (λ k. is_among l.used k)
