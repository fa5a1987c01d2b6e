use Rattle.std.proofs.Common.{◌-◌, get_or, sym, ◌∙◌, ap, eqb}
use Rattle.std.specs.Int.{bit_at}
use Rattle.std.proofs.lemmas.Nat.Bits.{shr_and_one}
use Rattle.group_spec.proofs.Hands.{has_in_words}
use Rattle.group_spec.proofs.hand.Hand.has.Goals as goal

pub returns : goal.returns
returns c =
    let words = c.self.inside.words in
    let bit = c.args.call.to - 1 in
    rw (← c.self.view_is)
    (ap (λ b. eqb b 1) (shr_and_one (get_or words c.from.result 0) bit) ∙ ap (λ index. eqb (bit_at (get_or words index 0) bit) 1) c.from.ensures
    ∙ sym (has_in_words words c.args.call c.self.invariant c.requires.from c.requires.to))
