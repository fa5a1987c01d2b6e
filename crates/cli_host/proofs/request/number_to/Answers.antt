use Rattle.std.proofs.Common.{rules, arith, ◌≡◌, ℕ, ◌<◌, ◌≤◌, length, false, List, get_or, sym, Result, Ok, Err, Bool}
use Rattle.std.specs.Prelude.{◌↔◌, IsTrue}
use Rattle.std.specs.Int.{IsInRange}
use Rattle.std.specs.Str.Parse.{digits_value, ParsesUnsigned}
use Rattle.std.proofs.lemmas.Str.Parse.{IsNumeralModel, numerals_by_value, tells_by_index, parse_digits}
use Rattle.std.proofs.lemmas.Result.{OkIff-at_ok, OkIff-at_err}
use Rattle.cli_host.specs.Requests.{IsNumberTo, IsDigits}
use Rattle.cli_host.proofs.request.number_to.Goals as goal

own : IsNumeralModel (λ ds. (i : ℕ) → i < length ds → IsInRange 48 57 (get_or ds i 0)) (digits_value 10)
own = numerals_by_value _ tells_by_index

-- what the parse of digits gives
parsed : {E : Type 0} (greatest : ℕ) (text : List ℕ) (n : ℕ) (r : Result ℕ E) → ParsesUnsigned 16 10 text r → IsDigits text → r ≡ Ok n → 1 ≤ n → n ≤ greatest → IsNumberTo greatest text n
parsed greatest text n r h digits is least most =
    let k = OkIff-at_ok r _ _ n (parse_digits own 16 text r h digits) is in
    record { some = k.0.0; digits = digits; value = sym k.1; least = least; most = most }

failed : {E : Type 0} (greatest : ℕ) (text : List ℕ) (e : E) (r : Result ℕ E) → greatest < 65536 → ParsesUnsigned 16 10 text r → r ≡ Err e → (n : ℕ) → IsNumberTo greatest text n → ⊥
failed greatest text e r low h is n k = OkIff-at_err r _ _ e (parse_digits own 16 text r h k.digits) is (k.some, omega (arith, low, k.value, k.most))

not_digits : (b : Bool) (text : List ℕ) → IsTrue b ↔ IsDigits text → b ≡ false → IsDigits text → ⊥
not_digits b text t e d = search (rules, t.1 d, e)

pub returns-then-not-is_digits-clause-none : goal.returns-then-not-is_digits-clause-none
returns-then-not-is_digits-clause-none c = λ _ n k. absurd (not_digits c.is_digits.result c.args.text.now c.is_digits.ensures c.if-not-is_digits.true k.digits)

pub returns-in-Ok-clause-some : goal.returns-in-Ok-clause-some
returns-in-Ok-clause-some c = parsed _ _ _ _ c.parse.ensures.value.0 (search rules) (search rules) (search rules) (search rules)

pub returns-in_default-2-clause-none : goal.returns-in_default-2-clause-none
returns-in_default-2-clause-none c = λ _. failed c.args.greatest _ _ _ (search rules) c.parse.ensures.value.0 c.in_default.is
