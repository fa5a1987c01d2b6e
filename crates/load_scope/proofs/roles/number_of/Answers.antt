use Rattle.std.proofs.Common.{◌<◌, length, arith, sym, ap, ◌∙◌, get_or, drop, pos, ◌+◌, ◌-◌, ◌*◌}
use Rattle.load_scope.specs.Cars.{up_to}
use Rattle.load_scope.proofs.Digits.{too_large, digit_next}
use Rattle.load_scope.proofs.roles.number_of.Goals as goal

pub returns-then-total-from : goal.returns-then-total-from
returns-then-total-from c =
    let low : c.loop-digit.digit-index < length c.args.digits.now = omega arith in
    let next = digit_next c.args.digits.now c.loop-digit.digit-index c.loop-digit.total low (sym c.is_ascii_digit.ensures.value ∙ c.if-not-is_ascii_digit.false) in
    let large : c.args.limit < c.loop-digit.total * 10 + (get_or c.args.digits.now c.loop-digit.digit-index 0 - 48) = omega arith in
    sym (c.loop-digit.invariant.1 ∙ ap (up_to (pos c.args.limit)) next ∙ too_large c.args.limit _ (drop (c.loop-digit.digit-index + 1) c.args.digits.now) large)
