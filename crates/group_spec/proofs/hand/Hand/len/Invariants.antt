use Rattle.std.proofs.Common.{◌≡◌, ◌+◌, ◌≤◌, length}
use Rattle.group_spec.proofs.hand.Hand.len.Given as goal

abbrev pub invariant-calls : goal.invariant-calls
invariant-calls l = record { counted : l.count + length l.rest ≡ length l.self; few : length l.self ≤ 256 }

abbrev pub decreases-calls : goal.decreases-calls
decreases-calls l = length l.rest
