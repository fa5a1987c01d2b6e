use Rattle.std.proofs.Common.{◌≡◌, ◌∙◌, All, pos, get_or, subst, sym, take_all, arith, rules, SFits, w64}
use Rattle.std.proofs.lemmas.Int.{to_z-of_z}
use Rattle.scan_task.proofs.Outgoing.{zeros_more, both_true}
use Rattle.scan_task.proofs.outputs.are_zeros.Goals as goal

pub numbers-preserved : goal.numbers-preserved
numbers-preserved c = record {
  zeros = λ is.
      let both = both_true c.numbers.zeros c.is_zero-zeros.result is in
      let fits : SFits w64 (get_or c.args.numbers.now c.numbers.number-index (pos 0)) = search rules in
      let here = sym (to_z-of_z w64 (get_or c.args.numbers.now c.numbers.number-index (pos 0)) fits) ∙ c.is_zero-zeros.ensures both.1 in
      zeros_more c.args.numbers.now c.numbers.number-index c.numbers-test.true (c.numbers.invariant.zeros both.0) here;
}

pub returns : goal.returns
returns c = λ is. subst (All (λ z. z ≡ pos 0)) (take_all c.numbers.number-index c.args.numbers.now (omega (arith, c.numbers-test.false))) (c.numbers.invariant.zeros is)
