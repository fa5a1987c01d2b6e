use Rattle.std.proofs.Common.{◌≡◌, suc, ◌-◌, decimal, arith, ap, ◌∙◌}
use Rattle.group_state.proofs.Words.{not_zero, minus}
use Rattle.group_state.proofs.values.negative.Goals as goal

pub returns-then-number-eq0-clause-none : goal.returns-then-number-eq0-clause-none
returns-then-number-eq0-clause-none c = not_zero c.in_ok-number.number c.args.digits.now (omega arith) c.in_ok-number.ensures.found.1

pub returns-clause-found : goal.returns-clause-found
returns-clause-found c =
    let n = c.in_ok-number.number in
    let next : n ≡ suc (n - 1) = omega arith in
    (n - 1, minus (n - 1) (omega (arith, c.in_ok-number.ensures.found.0)), c.in_ok-number.ensures.found.1 ∙ ap decimal next)
