use Rattle.std.proofs.Common.{rules, arith, ◌≡◌, ◌≤◌, ℕ, [], length, sym, ap, ◌∙◌}
use Rattle.trace_text.specs.Text.{part}
use Rattle.trace_text.proofs.Bytes.{if_none}
use Rattle.trace_text.proofs.Numbers.{part_once}
use Rattle.trace_text.proofs.Lines.{only_part}
use Rattle.group_state.proofs.numbers.last_number.Goals as goal

pub returns-in_err-value-clause-none : goal.returns-in_err-value-clause-none
returns-in_err-value-clause-none c =
    let none : (n : ℕ) → n ≤ c.args.greatest → c.args.text.now ≡ part n → ⊥ = λ n h e. c.in_err-value.ensures.none n [] h tt (e ∙ only_part n) in
    if_none _ _ none

pub returns-then-not-is_empty-clause-none : goal.returns-then-not-is_empty-clause-none
returns-then-not-is_empty-clause-none c = λ n h e.
    let found = c.in_ok-value.ensures.found in
    let nothing : c.in_ok-value.rest.now ≡ [] = (part_once c.in_ok-value.value n c.in_ok-value.rest.now [] (omega arith) (omega arith) found.2 tt (sym found.1 ∙ (e ∙ only_part n))).1 in
    let none : length c.in_ok-value.rest.now ≡ 0 = ap length nothing in search (rules, none)
