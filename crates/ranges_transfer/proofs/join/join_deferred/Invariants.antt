use Rattle.ranges_transfer.proofs.Joins.{IsGoingOn}
use Rattle.ranges_transfer.proofs.join.join_deferred.Given as goal

abbrev pub invariant-loop-number : goal.invariant-loop-number
invariant-loop-number l = IsGoingOn l.number l.initial.deferred l.deferred l.other
