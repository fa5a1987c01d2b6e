use Rattle.std.proofs.Common.{◌≡◌, ◌+◌, ◌-◌, ◌/◌, suc, ◌∙◌, sym, ap, arith, eq-eqb, ne_eqb}
use Rattle.group_spec.specs.Hands.{with_calls, calls_of_bits}
use Rattle.group_spec.proofs.Hands.{one_bit_more, no_bit_more, no_bits}
use Rattle.group_spec.proofs.hand.Hand.insert_from.Goals as goal
use Rattle.group_spec.proofs.hand.Hand.insert_from.Goals.{then-rest-eq1, else-rest-eq1}

pub loop-to-preserved : goal.loop-to-preserved
loop-to-preserved c =
    let left : 17 - c.loop-to.to ≡ suc (17 - (c.loop-to.to + 1)) = omega (arith, c.loop-to-test.true) in
    let before = c.loop-to.invariant ∙ ap (λ n. with_calls c.loop-to.self (calls_of_bits n c.args.floor c.loop-to.to c.loop-to.rest)) left in
    elim c.if-rest-eq1.branch [
      | then-rest-eq1 w ↦
          before ∙ one_bit_more c.loop-to.self (17 - (c.loop-to.to + 1)) c.args.floor c.loop-to.to c.loop-to.rest (eq-eqb _ 1 w.if-rest-eq1.true)
          ∙ ap (λ set. with_calls set (calls_of_bits (17 - (c.loop-to.to + 1)) c.args.floor (c.loop-to.to + 1) (c.loop-to.rest / 2))) (sym (w.self-is ∙ w.insert.ensures))
      | else-rest-eq1 w ↦
          before ∙ no_bit_more c.loop-to.self (17 - (c.loop-to.to + 1)) c.args.floor c.loop-to.to c.loop-to.rest (ne_eqb _ 1 w.if-rest-eq1.false)
          ∙ ap (λ set. with_calls set (calls_of_bits (17 - (c.loop-to.to + 1)) c.args.floor (c.loop-to.to + 1) (c.loop-to.rest / 2))) (sym w.self-is)
    ]

pub returns : goal.returns
returns c =
    let none : 17 - c.loop-to.to ≡ 0 = omega (arith, c.loop-to-test.false) in
    sym (c.loop-to.invariant ∙ ap (λ n. with_calls c.loop-to.self (calls_of_bits n c.args.floor c.loop-to.to c.loop-to.rest)) none ∙ no_bits c.loop-to.self c.args.floor c.loop-to.to c.loop-to.rest)
