use Rattle.std.proofs.Common.{ℕ, ◌≤◌, ◌<◌, ◌-◌, length}
use Rattle.std.specs.Prelude.{IsFalse}
use Rattle.il_syntax.specs.Text.{closes_comment}
use Rattle.load_tokens.proofs.comment.closing_from.Given as goal

abbrev pub invariant-closing : goal.invariant-closing
invariant-closing l = record {
  behind : l.from ≤ l.at;
  before : (k : ℕ) → l.from ≤ k → k < l.at → IsFalse (closes_comment l.text k);
}

abbrev pub decreases-closing : goal.decreases-closing
decreases-closing l = length l.text - l.at
