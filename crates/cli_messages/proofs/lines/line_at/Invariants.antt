use Rattle.std.proofs.Common.{ℕ, List, ◌-◌}
use Rattle.cli_messages.specs.Places.{IsLineOf}
use Rattle.cli_messages.proofs.lines.line_at.Given as goal

-- the line of the text is that of the rest, after those that are left
abbrev pub invariant-lines : goal.invariant-lines
invariant-lines l = record {
  found : (line : List ℕ) → IsLineOf (l.before - l.counter) l.rest line → IsLineOf l.before l.text line;
  only : (line : List ℕ) → IsLineOf l.before l.text line → IsLineOf (l.before - l.counter) l.rest line;
}
