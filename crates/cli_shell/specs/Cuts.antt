-- A trace that was cut off, up to its last whole line (own rule).
use Rattle.std.specs.Prelude.{ℕ, ◌+◌, ◌-◌, Bool, List, [], ◌∷◌, ◌++◌, ◌==◌, ◌&&◌, ◌||◌, if◌then◌else◌, length, take, drop, slice_index, count_by, codes, decimal}
use Rattle.std.specs.List.{slice_split}

abbrev pub is_feed : ℕ → Bool
is_feed byte = byte == 10

-- how many bytes the whole lines of a text take: those up to and with its last line feed
abbrev pub whole_length : List ℕ → ℕ
whole_length [] = 0
whole_length (byte ∷ bytes) = if whole_length bytes == 0 then if is_feed byte then 1 else 0 else 1 + whole_length bytes

-- the whole lines of a text
abbrev pub whole_lines : List ℕ → List ℕ
whole_lines text = take (whole_length text) text

-- the last one of whole lines
abbrev pub last_line : List ℕ → List ℕ
last_line lines = drop (whole_length (take (length lines - 1) lines)) lines

-- a line of the end: an E and a space. The line EVENTS of a state is none
abbrev pub is_end : List ℕ → Bool
is_end line = slice_index line 0 == 69 && slice_index line 1 == 32

-- whole lines that no end is put after: there are none, or the last one is a line of the end
abbrev pub have_end : List ℕ → Bool
have_end lines = length lines == 0 || is_end (last_line lines)

-- a line of an event: one letter and a space. A line of a state begins with a longer word
abbrev pub is_event : List ℕ → Bool
is_event line = slice_index line 1 == 32

-- how many lines of events follows the first of whole lines
abbrev pub event_count : List ℕ → ℕ
event_count lines = count_by is_event (drop 1 (slice_split is_feed lines))

-- the end of a trace with so many lines of events
abbrev pub end_line : ℕ → List ℕ
end_line events = codes "E " ++ decimal events ++ codes "\n"

-- whole lines, with an end
abbrev pub ended : List ℕ → List ℕ
ended lines = if have_end lines then lines else lines ++ end_line (event_count lines)

-- a text up to its last whole line, with an end
abbrev pub completed : List ℕ → List ℕ
completed text = ended (whole_lines text)
