use Rattle.std.proofs.Common.{sym, arith}
use Rattle.group_spec.specs.Words.{mask_in_words}
use Rattle.group_spec.proofs.hand.Hand.mask_from.Goals as goal

pub returns : goal.returns
returns c =
    rw (← c.self.view_is) (sym (mask_in_words c.self.inside.words c.from.result c.args.floor (omega arith) c.self.invariant (omega arith)))
