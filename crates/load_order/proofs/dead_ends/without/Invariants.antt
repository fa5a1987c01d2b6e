use Rattle.std.proofs.Common.{◌≡◌, ◌++◌, drop}
use Rattle.load_order.specs.Chained.{without}
use Rattle.load_order.proofs.dead_ends.without.Given as goal

abbrev pub invariant-loop-number : goal.invariant-loop-number
invariant-loop-number l = l.others ++ without l.one (drop l.number-index l.numbers) ≡ without l.one l.numbers
