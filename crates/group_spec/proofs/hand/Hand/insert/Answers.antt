use Rattle.std.proofs.Common.{◌-◌, ◌*◌, ◌%◌, ◌^◌, get_or, set, sym, ◌∙◌, ap, bit_or}
use Rattle.group_spec.specs.Hands.{calls_of_words}
use Rattle.group_spec.proofs.Hands.{with_call_in_words}
use Rattle.group_spec.proofs.hand.Hand.insert.Goals as goal

pub returns : goal.returns
returns c =
    let words = c.self.inside.words in
    let bit = 1 * 2 ^ (c.args.call.to - 1) % 65536 in
    rw (← c.self.view_is)
    (ap (λ index. calls_of_words (set words index (bit_or (get_or words index 0) bit))) c.from.ensures
    ∙ sym (with_call_in_words words c.args.call c.self.invariant c.requires.from c.requires.to))
