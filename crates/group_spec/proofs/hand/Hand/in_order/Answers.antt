use Rattle.group_spec.proofs.Hands.{words_order}
use Rattle.group_spec.proofs.hand.Hand.in_order.Goals as goal

pub returns : goal.returns
returns c = rw (← c.self.view_is) (words_order 1 c.self.inside.words)
