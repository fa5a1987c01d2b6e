use Rattle.std.proofs.Common.{rules, arith, ◌≡◌, ℕ, ◌<◌, length, List, get_or, Result, Err}
use Rattle.std.specs.Int.{IsInRange}
use Rattle.std.specs.Str.Parse.{digits_value, ParsesUnsigned}
use Rattle.std.proofs.lemmas.Str.Parse.{IsNumeralModel, numerals_by_value, tells_by_index, parse_digits}
use Rattle.std.proofs.lemmas.Result.{OkIff-at_err}
use Rattle.cli_host.specs.CallsFile.{IsNumberUpTo}
use Rattle.cli_host.proofs.calls.number_up_to.Goals as goal

own : IsNumeralModel (λ ds. (i : ℕ) → i < length ds → IsInRange 48 57 (get_or ds i 0)) (digits_value 10)
own = numerals_by_value _ tells_by_index

failed : {E : Type 0} (greatest : ℕ) (text : List ℕ) (e : E) (r : Result ℕ E) → greatest < 256 → ParsesUnsigned 8 10 text r → r ≡ Err e → (n : ℕ) → IsNumberUpTo greatest text n → ⊥
failed greatest text e r low h is n k = OkIff-at_err r _ _ e (parse_digits own 8 text r h k.digits) is (k.some, omega (arith, low, k.value, k.most))

pub returns-in_default-2-clause-none : goal.returns-in_default-2-clause-none
returns-in_default-2-clause-none c = λ _. failed c.args.greatest _ _ _ (search rules) c.parse.ensures.value.0 c.in_default.is
