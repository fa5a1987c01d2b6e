use Rattle.std.proofs.Common.{◌≡◌}
use Rattle.load_order.specs.Counted.{counts_of}
use Rattle.load_order.proofs.slots.counts.Given as goal

abbrev pub invariant-loop-round : goal.invariant-loop-round
invariant-loop-round l = l.counted ≡ counts_of l.units l.round
