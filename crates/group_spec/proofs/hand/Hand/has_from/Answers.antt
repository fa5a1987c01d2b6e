use Rattle.std.proofs.Common.{sym, ◌∙◌, ap, eqb, not}
use Rattle.group_spec.proofs.Hands.{has_from_by_mask}
use Rattle.group_spec.proofs.hand.Hand.has_from.Goals as goal

pub returns : goal.returns
returns c = ap (λ mask. not (eqb mask 0)) c.mask_from.ensures ∙ sym (has_from_by_mask c.args.self.now c.args.floor)
