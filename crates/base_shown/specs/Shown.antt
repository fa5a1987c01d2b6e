-- Bytes as they are shown (own rules).
use Rattle.std.specs.Prelude.{ℕ, ◌==◌, ◌&&◌, ◌||◌, Bool, nat_le, if◌then◌else◌}

-- a blank as it is shown: a tab, and the carriage return at the end of a line
abbrev pub is_blank : ℕ → Bool
is_blank byte = byte == 9 || byte == 13

-- a byte as it is shown, in one column: `?` for one that can't be printed
abbrev pub shown : ℕ → ℕ
shown byte = if nat_le 32 byte && nat_le byte 126 then byte else if is_blank byte then 32 else 63
