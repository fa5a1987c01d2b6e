use Rattle.trace_text.proofs.Bytes.{none_by}
use Rattle.std.proofs.Common.{◌≡◌, ℤ, FitsSigned, w64}
use Rattle.std.specs.Fmt.{signed_decimal}
use Rattle.group_state.proofs.Words.{below_zero}
use Rattle.group_state.proofs.values.integer.Goals as goal

pub returns-in-Some-clause-none : goal.returns-in-Some-clause-none
returns-in-Some-clause-none c =
    none_by c.negative.result _ ((z : ℤ) → FitsSigned w64 z → c.args.word.now ≡ signed_decimal z → ⊥)
    (λ none. below_zero c.args.word.now c.in-Some.digits.now c.in-Some.ensures.found none) c.negative.ensures.none
