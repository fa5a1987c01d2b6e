use Rattle.trace_text.proofs.Bytes.{none_by}
use Rattle.std.proofs.Common.{ℕ, sym, ◌∙◌}
use Rattle.trace_text.specs.Text.{part}
use Rattle.group_state.specs.Saying.{SaysNumber}
use Rattle.group_state.proofs.Words.{cancel}
use Rattle.group_state.proofs.numbers.number_line.Goals as goal

pub returns-clause-none : goal.returns-clause-none
returns-clause-none c =
    none_by c.last_number.result _ ((n : ℕ) → SaysNumber c.args.word.now c.args.greatest n c.args.line.now → ⊥)
    (λ none n h. none n h.0 (cancel c.args.word.now c.in_ok-behind.field-0.now (part n) (sym c.in_ok-behind.ensures.found ∙ h.1))) c.last_number.ensures.none
