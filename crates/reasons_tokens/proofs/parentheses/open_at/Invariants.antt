use Rattle.std.proofs.Common.{◌≡◌, [], drop}
use Rattle.reasons_tokens.specs.Parentheses.{open_from}
use Rattle.reasons_tokens.proofs.parentheses.open_at.Given as goal

-- what is left answers for all
abbrev pub invariant-tokens : goal.invariant-tokens
invariant-tokens l = open_from l.stack.items l.offset (drop l.token-index l.tokens) ≡ open_from [] l.offset l.tokens
