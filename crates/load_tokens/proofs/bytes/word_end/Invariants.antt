use Rattle.std.proofs.Common.{◌≡◌, ◌≤◌, ◌+◌, ◌-◌, length, drop}
use Rattle.std.specs.List.{prefix_len}
use Rattle.il_syntax.specs.Text.{is_word_byte}
use Rattle.load_tokens.proofs.bytes.word_end.Given as goal

abbrev pub invariant-run : goal.invariant-run
invariant-run l = record {
  from : l.at ≤ l.end;
  within : l.end ≤ length l.text;
  same : l.end + prefix_len is_word_byte (drop l.end l.text) ≡ l.at + prefix_len is_word_byte (drop l.at l.text);
}

abbrev pub decreases-run : goal.decreases-run
decreases-run l = length l.text - l.end
