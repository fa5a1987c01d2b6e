use Rattle.std.proofs.Common.{sym, arith}
use Rattle.group_spec.specs.Words.{mask_in_words, calls_from_words}
use Rattle.group_spec.proofs.Hands.{without_word}
use Rattle.group_spec.proofs.hand.Hand.take_from.Goals as goal

pub returns-clause-mask : goal.returns-clause-mask
returns-clause-mask c =
    rw (← c.self.view_is) (sym (mask_in_words c.self.inside.words c.from-index.result c.args.floor (omega (arith, c.from-index.ensures, c.requires)) c.self.invariant (omega (arith, c.from-index.ensures, c.requires))))

pub returns-clause-bits : goal.returns-clause-bits
returns-clause-bits c =
    rw (← c.self.view_is) (sym (calls_from_words 1 c.self.inside.words c.from-index.result c.args.floor (omega (arith, c.from-index.ensures, c.requires)) (omega (arith, c.self.told, c.from-index.ensures, c.requires))))

pub returns-clause-rest : goal.returns-clause-rest
returns-clause-rest c =
    rw (← c.self.view_is) (sym (without_word 1 c.self.inside.words c.from-index.result c.args.floor (omega (arith, c.from-index.ensures, c.requires)) (omega (arith, c.self.told, c.from-index.ensures, c.requires))))
