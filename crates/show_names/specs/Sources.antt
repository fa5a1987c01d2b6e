-- How the text of an instruction is shown, by `ranges --text` and by `scan` (own rules).
use Rattle.std.specs.Prelude.{ℕ, ◌==◌, min, Bool, true, false, List, ◌++◌, [], map, take, drop, Option, Some, None, if◌then◌else◌, codes}
use Rattle.std.specs.List.{prefix_len}
use Rattle.base_shown.specs.Shown.{shown}

-- no end of a line
abbrev pub is_within_line : ℕ → Bool
is_within_line byte = if byte == 10 then false else true

-- what a line shows of the text from a place on: at most 60 bytes
abbrev pub shown_front : List ℕ → List ℕ
shown_front bytes = map shown (take (min 60 (prefix_len is_within_line bytes)) bytes)

abbrev pub source_text : List ℕ → ℕ → List ℕ
source_text source offset = shown_front (drop offset source)

-- `: TEXT`, from an offset of a configuration's text on, where that is to be shown
abbrev pub told_source : Option (List ℕ) → ℕ → List ℕ
told_source None offset = []
told_source (Some source) offset = codes ": " ++ source_text source offset

-- a configuration's text, where the instructions of it are to be shown
abbrev pub shown_source : Bool → List ℕ → Option (List ℕ)
shown_source true source = Some source
shown_source false source = None
