use Rattle.std.proofs.Common.{◌≡◌, ◌+◌, ◌-◌, length, drop}
use Rattle.std.specs.List.{prefix_len}
use Rattle.il_syntax.specs.Text.{is_literal_byte}
use Rattle.reasons_tokens.proofs.fractions.literal_end.Given as goal

abbrev pub invariant-run : goal.invariant-run
invariant-run l = l.end + prefix_len is_literal_byte (drop l.end l.text) ≡ l.at + prefix_len is_literal_byte (drop l.at l.text)

abbrev pub decreases-run : goal.decreases-run
decreases-run l = length l.text - l.end
