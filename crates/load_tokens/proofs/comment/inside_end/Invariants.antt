use Rattle.std.proofs.Common.{ℕ, ◌≤◌, ◌<◌, ◌-◌, length}
use Rattle.std.specs.Prelude.{IsTrue, not, ◌&&◌}
use Rattle.il_syntax.specs.Text.{is_text_byte, opens_comment, closes_comment}
use Rattle.load_tokens.proofs.comment.inside_end.Given as goal

abbrev pub invariant-inside : goal.invariant-inside
invariant-inside l = record {
  behind : l.from ≤ l.at;
  within : l.at ≤ length l.text;
  before : (k : ℕ) → l.from ≤ k → k < l.at → IsTrue (is_text_byte l.text k && (not (opens_comment l.text k) && not (closes_comment l.text k)));
}

abbrev pub decreases-inside : goal.decreases-inside
decreases-inside l = length l.text - l.at
