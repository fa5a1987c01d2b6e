use Rattle.std.proofs.Common.{◌≡◌, ◌≤◌, ◌-◌, length, take}
use Rattle.std.specs.Prelude.{◌==◌, count_by}
use Rattle.il_syntax.specs.Text.{line_feed}
use Rattle.load_tokens.proofs.bytes.line_feeds.Given as goal

abbrev pub invariant-sixteens : goal.invariant-sixteens
invariant-sixteens l = record {
  inside : l.at ≤ length l.bytes;
  within : l.count ≤ l.at;
  counted : l.count ≡ count_by (λ b. b == line_feed) (take l.at l.bytes);
}

abbrev pub decreases-sixteens : goal.decreases-sixteens
decreases-sixteens l = length l.bytes - l.at

abbrev pub invariant-rest : goal.invariant-rest
invariant-rest l = record {
  inside : l.at ≤ length l.bytes;
  within : l.count ≤ l.at;
  counted : l.count ≡ count_by (λ b. b == line_feed) (take l.at l.bytes);
}

abbrev pub decreases-rest : goal.decreases-rest
decreases-rest l = length l.bytes - l.at
