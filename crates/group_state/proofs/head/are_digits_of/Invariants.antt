use Rattle.std.proofs.Common.{◌≡◌, ◌*◌, drop}
use Rattle.group_state.specs.Text.{hex_text}
use Rattle.group_state.proofs.head.are_digits_of.Given as goal

-- all digits are those of the bytes exactly where those from here on are
abbrev pub invariant-bytes : goal.invariant-bytes
invariant-bytes l = record {
  on : drop (2 * l.at) l.digits ≡ hex_text (drop l.at l.bytes) → l.digits ≡ hex_text l.bytes;
  back : l.digits ≡ hex_text l.bytes → drop (2 * l.at) l.digits ≡ hex_text (drop l.at l.bytes);
}
