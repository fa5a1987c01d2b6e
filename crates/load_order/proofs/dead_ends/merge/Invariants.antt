use Rattle.std.proofs.Common.{◌≡◌, drop}
use Rattle.load_order.specs.Chained.{merged}
use Rattle.load_order.proofs.dead_ends.merge.Given as goal

abbrev pub invariant-loop-one : goal.invariant-loop-one
invariant-loop-one l = merged l.numbers (drop l.one-index l.more) ≡ merged l.fn.numbers l.more
