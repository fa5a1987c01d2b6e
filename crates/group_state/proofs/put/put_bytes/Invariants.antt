use Rattle.std.proofs.Common.{◌≡◌, ◌++◌, take, string_bytes}
use Rattle.group_state.specs.Text.{hex_text}
use Rattle.group_state.proofs.put.put_bytes.Given as goal

-- the digits so far
abbrev pub invariant-bytes : goal.invariant-bytes
invariant-bytes l = string_bytes l.text ≡ string_bytes l.initial.text ++ hex_text (take l.byte-index l.bytes)
