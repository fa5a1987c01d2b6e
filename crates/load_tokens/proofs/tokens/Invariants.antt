use Rattle.std.proofs.Common.{◌≡◌, ◌≤◌, ◌-◌, length}
use Rattle.il_syntax.specs.Text.{line_at}
use Rattle.load_tokens.specs.LexicalErrors.{AreTokensTo}
use Rattle.load_tokens.proofs.Steps.{Read}
use Rattle.load_tokens.proofs.tokens.Given as goal

abbrev pub invariant-pieces : goal.invariant-pieces
invariant-pieces l = record { within : l.at ≤ length l.text; line : l.line ≡ line_at l.text l.at; done : AreTokensTo l.text 0 l.found.items l.at; read : Read l.text l.at l.found.items }

abbrev pub decreases-pieces : goal.decreases-pieces
decreases-pieces l = length l.text - l.at
