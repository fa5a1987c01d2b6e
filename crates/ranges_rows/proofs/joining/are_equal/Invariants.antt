use Rattle.std.proofs.Common.{◌≡◌, true, take}
use Rattle.ranges_rows.proofs.joining.are_equal.Given as goal

abbrev pub invariant-loop-number : goal.invariant-loop-number
invariant-loop-number l = l.equal ≡ true → take l.number l.row ≡ take l.number l.other
