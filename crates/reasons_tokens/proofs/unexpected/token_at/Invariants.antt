use Rattle.std.proofs.Common.{◌≡◌, drop}
use Rattle.reasons_tokens.specs.TokenReasons.{token_at}
use Rattle.reasons_tokens.proofs.unexpected.token_at.Given as goal

-- what is left answers for all
abbrev pub invariant-loop-token : goal.invariant-loop-token
invariant-loop-token l = token_at l.offset (drop l.token-index l.tokens) ≡ token_at l.offset l.tokens
