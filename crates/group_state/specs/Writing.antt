-- What writing a state puts, line by line (own rule).
use Rattle.std.specs.Prelude.{ℕ, List, String}
use Rattle.base_texts.specs.Puts.{Puts}
use Rattle.trace_text.specs.Text.{text_of_lines}

-- a text has these lines after what it had (own rule)
abbrev pub PutsLines : {A : Type 0} → String A → String A → List (List ℕ) → Type 0
PutsLines old new lines = Puts old new (text_of_lines lines)
