use Rattle.std.proofs.Common.{◌≡◌, drop}
use Rattle.load_order.specs.Counted.{with_variables}
use Rattle.load_order.proofs.slots.with_variables.Given as goal

abbrev pub invariant-loop-one : goal.invariant-loop-one
invariant-loop-one l = with_variables l.depth l.counted l.total (drop l.one-index l.one-items) ≡ with_variables l.depth l.counted 0 l.one-items
