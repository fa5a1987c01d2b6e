use Rattle.std.proofs.Common.{◌≡◌, ◌++◌, drop, map}
use Rattle.load_order.specs.Counted.{with_variables}
use Rattle.load_order.proofs.slots.unit_counts.Given as goal

abbrev pub invariant-loop-variables : goal.invariant-loop-variables
invariant-loop-variables l = l.all ++ map (λ v. with_variables l.depth l.counted 0 v) (drop l.variables-index l.variables-items) ≡ map (λ v. with_variables l.depth l.counted 0 v) l.variables-items
