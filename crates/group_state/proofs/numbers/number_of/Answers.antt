use Rattle.std.proofs.Common.{rules, arith, ◌≡◌, ◌+◌, ◌*◌, ◌-◌, ◌∷◌, length, subst, sym, ap, ◌∙◌}
use Rattle.std.proofs.lemmas.List.{nil_from_length}
use Rattle.std.specs.Int.{IsInRange}
use Rattle.trace_text.specs.Parts.{AreDigits, number_from, HasNoLeadingZero}
use Rattle.trace_text.proofs.Numbers.{zero_first, spelled_by, digits_of_decimal, number_from-ge, value_of_decimal}
use Rattle.group_state.proofs.numbers.number_of.Goals as goal

pub returns-then-not-has_no_leading_zero-clause-none : goal.returns-then-not-has_no_leading_zero-clause-none
returns-then-not-has_no_leading_zero-clause-none c = λ n h e.
    let leads : HasNoLeadingZero c.args.bytes.now = zero_first n c.args.bytes.now (omega arith) e in search (rules, leads)

pub returns-then-not-is_ascii_digit-clause-none : goal.returns-then-not-is_ascii_digit-clause-none
returns-then-not-is_ascii_digit-clause-none c = λ n h e.
    let ds : AreDigits c.digits.rest.now = c.digits.invariant.on (subst AreDigits (sym e) (digits_of_decimal n (omega arith))) in
    let here : c.digits.rest.now ≡ c.in-Some.digit.now ∷ c.in-Some.after.now = search rules in
    let first : IsInRange 48 57 c.in-Some.digit.now = (subst AreDigits here ds).0 in search (rules, first)

pub returns-then-value-from-clause-none : goal.returns-then-value-from-clause-none
returns-then-value-from-clause-none c = λ n h e.
    let whole : number_from 0 c.args.bytes.now ≡ n = ap (number_from 0) e ∙ value_of_decimal n (omega arith) in
    let here : c.digits.rest.now ≡ c.in-Some.digit.now ∷ c.in-Some.after.now = search rules in
    let now : number_from c.digits.value (c.in-Some.digit.now ∷ c.in-Some.after.now) ≡ number_from 0 c.args.bytes.now = ap (number_from c.digits.value) (sym here) ∙ c.digits.invariant.whole in
    omega (arith, number_from-ge (10 * c.digits.value + (c.in-Some.digit.now - 48)) c.in-Some.after.now)

pub returns-clause-found : goal.returns-clause-found
returns-clause-found c =
    let none : length c.digits.rest.now ≡ 0 = search rules in
    (c.digits.invariant.most, spelled_by c.args.bytes.now c.digits.rest.now c.digits.value (nil_from_length _ none) c.digits.invariant.back c.digits.invariant.leads c.digits.invariant.whole (omega arith))
