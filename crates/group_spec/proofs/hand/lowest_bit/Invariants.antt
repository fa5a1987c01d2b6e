use Rattle.group_spec.specs.Hands.{IsBlankBefore}
use Rattle.group_spec.proofs.hand.lowest_bit.Given as goal

abbrev pub invariant-loop-index : goal.invariant-loop-index
invariant-loop-index l = IsBlankBefore l.words l.index
