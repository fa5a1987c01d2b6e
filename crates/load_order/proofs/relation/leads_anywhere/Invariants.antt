use Rattle.std.proofs.Common.{◌≡◌}
use Rattle.load_order.specs.Related.{any_below, holds}
use Rattle.load_order.proofs.relation.leads_anywhere.Given as goal

abbrev pub invariant-loop-to : goal.invariant-loop-to
invariant-loop-to l = l.found ≡ any_below l.to (λ k. holds l.relation l.through k)
