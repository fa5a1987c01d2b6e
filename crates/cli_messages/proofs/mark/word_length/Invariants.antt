use Rattle.std.proofs.Common.{◌≡◌, ◌≤◌, ◌+◌, ◌-◌, length, drop}
use Rattle.std.specs.List.{prefix_len}
use Rattle.il_syntax.specs.Text.{is_literal_byte}
use Rattle.cli_messages.proofs.mark.word_length.Given as goal

abbrev pub invariant-word : goal.invariant-word
invariant-word l = record {
  within : l.length ≤ length l.bytes;
  same : l.length + prefix_len is_literal_byte (drop l.length l.bytes) ≡ prefix_len is_literal_byte l.bytes;
}

abbrev pub decreases-word : goal.decreases-word
decreases-word l = length l.bytes - l.length
