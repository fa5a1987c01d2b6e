use Rattle.std.proofs.Common.{arith}
use Rattle.group_spec.proofs.Hands.{lowest_of_words}
use Rattle.group_spec.proofs.hand.lowest_bit.Goals as goal

pub returns-then-word-ne0-clause-found : goal.returns-then-word-ne0-clause-found
returns-then-word-ne0-clause-found c =
    lowest_of_words c.args.words.now c.loop-index.index c.loop-index-test.true c.loop-index.invariant (omega (arith, c.type_inv.words c.loop-index.index)) c.if-word-ne0.true
