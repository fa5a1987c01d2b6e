use Rattle.std.proofs.Common.{replicate}
use Rattle.std.proofs.lemmas.List.{get_or-replicate}
use Rattle.group_spec.proofs.Hands.{words_none}
use Rattle.group_spec.proofs.hand.Hand.new.Goals as goal

pub returns : goal.returns
returns c = words_none 1 (replicate 16 0) (λ k below. get_or-replicate 16 k 0 0 below)
