use Rattle.std.proofs.Common.{◌≡◌, drop}
use Rattle.reasons_tokens.specs.Instead.{from_line}
use Rattle.reasons_tokens.proofs.instead.from_line.Given as goal

-- what is left answers for all
abbrev pub invariant-tokens : goal.invariant-tokens
invariant-tokens l = from_line l.line (drop l.at l.tokens) ≡ from_line l.line l.tokens
