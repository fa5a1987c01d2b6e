use Rattle.std.proofs.Common.{arith, ◌≡◌, ◌≤◌, ℕ, List, ◌++◌, decimal, sym, ◌∙◌}
use Rattle.trace_text.specs.Text.{part}
use Rattle.trace_text.specs.Parts.{Ends}
use Rattle.trace_text.proofs.Bytes.{if_none, split_once, same_rest}
use Rattle.trace_text.proofs.Numbers.{decimal_without}
use Rattle.group_state.proofs.numbers.number.Goals as goal

pub returns-in_err-number_of-clause-none : goal.returns-in_err-number_of-clause-none
returns-in_err-number_of-clause-none c =
    let none : (n : ℕ) (rest : List ℕ) → n ≤ c.args.greatest → Ends 32 rest → c.args.text.now ≡ part n ++ rest → ⊥ = λ n rest h f e.
    let part = c.in_ok-digits.ensures.found in
    let digits : c.in_ok-digits.digits.now ≡ decimal n = (split_once 32 c.in_ok-digits.digits.now (decimal n) c.in_ok-digits.rest.now rest part.1 (decimal_without 32 n (omega arith) (omega arith)) part.2 f (same_rest _ _ _ _ (sym part.0 ∙ e))).0 in
    c.in_err-number_of.ensures.none n h digits in
    if_none _ _ none
