-- What `--changes` leaves of the lines that `watch` prints (own rules).
use Rattle.std.specs.Prelude.{ℕ, Bool, false, if◌then◌else◌, List, [], ◌∷◌, ◌++◌, ◌==◌, Option, Some, None, bytes_eq, codes}
use Rattle.std.specs.List.{after_first}
use Rattle.std.specs.Str.Lines.{lines}

-- the values of a row: what follows its first comma, as the number of the round comes before it
abbrev pub values_in : List ℕ → List ℕ
values_in row = after_first (λ b. b == 44) row

-- whether a row has the values of the row before it; there is none before the first
abbrev pub repeats : Option (List ℕ) → List ℕ → Bool
repeats None row = false
repeats (Some before) row = bytes_eq (values_in before) (values_in row)

-- of rows, after one before them, those that don't repeat the row before them; each with its line feed
abbrev pub changed_rows : Option (List ℕ) → List (List ℕ) → List ℕ
changed_rows before [] = []
changed_rows before (row ∷ rows) = (if repeats before row then [] else row ++ codes "\n") ++ changed_rows (Some row) rows

-- the header, and of the rows after it those whose values differ from those of the row before
abbrev pub changed_lines : List (List ℕ) → List ℕ
changed_lines [] = []
changed_lines (header ∷ rows) = header ++ (codes "\n" ++ changed_rows None rows)

-- what is left of a text of lines, with `--changes`
abbrev pub changes_of : List ℕ → List ℕ
changes_of text = changed_lines (lines text)

-- the text that `watch` prints, with the flag or without
abbrev pub shown_text : Bool → List ℕ → List ℕ
shown_text changes text = if changes then changes_of text else text
