-- Texts in lines (own rules).
use Rattle.std.specs.Prelude.{ℕ, Bool, ◌==◌, List, [], Option, Some, None}
use Rattle.std.specs.List.{slice_split, position_or_len}

-- a line feed
abbrev pub is_feed : ℕ → Bool
is_feed b = b == 10

-- the lines of a text, between its line feeds
abbrev pub lines_of : List ℕ → List (List ℕ)
lines_of text = slice_split is_feed text

-- the lines of what is left of a text, if anything is
abbrev pub lines_left : Option (List ℕ) → List (List ℕ)
lines_left None = []
lines_left (Some text) = lines_of text

-- the place of the first line feed; that of the end, where there is none
abbrev pub feed_place : List ℕ → ℕ
feed_place text = position_or_len is_feed text
