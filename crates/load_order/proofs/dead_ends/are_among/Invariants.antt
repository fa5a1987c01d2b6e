use Rattle.std.proofs.Common.{◌≡◌, drop}
use Rattle.load_order.specs.Chained.{are_among}
use Rattle.load_order.proofs.dead_ends.are_among.Given as goal

abbrev pub invariant-loop-one : goal.invariant-loop-one
invariant-loop-one l = are_among l.numbers l.way ≡ are_among (drop l.one-index l.numbers) l.way
