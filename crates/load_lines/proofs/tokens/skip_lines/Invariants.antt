use Rattle.std.proofs.Common.{◌≡◌, ◌≤◌, length}
use Rattle.il_syntax.specs.Grammar.{skip_line_ends}
use Rattle.load_lines.proofs.tokens.skip_lines.Given as goal

abbrev pub invariant-lines : goal.invariant-lines
invariant-lines l = (skip_line_ends l.rest ≡ skip_line_ends l.tokens) × (length l.rest ≤ length l.tokens)

abbrev pub decreases-lines : goal.decreases-lines
decreases-lines l = length l.rest
