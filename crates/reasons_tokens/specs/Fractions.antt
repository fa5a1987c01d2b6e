-- A duration with a fraction (3), and what to write instead (own rules; 2.2.3.1).
use Rattle.std.specs.Prelude.{ℕ, ◌+◌, ◌==◌, ◌&&◌, ◌||◌, Bool, if◌then◌else◌, List, [], codes}
use Rattle.std.specs.Char.{is_ascii_digit, to_ascii_uppercase}
use Rattle.il_syntax.specs.Text.{byte_at, hash, is_literal_byte, run_end}

-- a letter at a place, in upper or lower case
abbrev pub is_letter_at : List ℕ → ℕ → ℕ → Bool
is_letter_at text at letter = to_ascii_uppercase (byte_at text at) == letter

-- `T#`
abbrev pub is_short : List ℕ → ℕ → Bool
is_short text at = is_letter_at text at 84 && byte_at text (at + 1) == hash

-- `TIME#`
abbrev pub is_long : List ℕ → ℕ → Bool
is_long text at =
    is_letter_at text at 84 && (is_letter_at text (at + 1) 73 && (is_letter_at text (at + 2) 77 && (is_letter_at text (at + 3) 69 && byte_at text (at + 4) == hash)))

-- a `.` and a digit
abbrev pub begins_fraction : List ℕ → ℕ → Bool
begins_fraction text at = byte_at text at == 46 && is_ascii_digit (byte_at text (at + 1))

-- the literal at a place is a duration, and after it is a fraction
abbrev pub has_fraction : List ℕ → ℕ → Bool
has_fraction text at = (is_short text at || is_long text at) && begins_fraction text (run_end is_literal_byte text at)

unfoldable pub fraction_line : List ℕ
fraction_line = codes "a duration has whole parts: T#3s500ms, not T#3.5s\n"

-- of the literal at a place
abbrev pub literal_lines : List ℕ → ℕ → List ℕ
literal_lines text at = if has_fraction text at then fraction_line else []
