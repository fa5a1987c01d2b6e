use Rattle.std.proofs.Common.{◌≡◌, None, drop}
use Rattle.reasons_tokens.specs.LeftOut.{before_from}
use Rattle.reasons_tokens.proofs.left_out.token_before.Given as goal

-- what is left answers for all
abbrev pub invariant-loop-token : goal.invariant-loop-token
invariant-loop-token l = before_from l.last l.offset (drop l.token-index l.tokens) ≡ before_from None l.offset l.tokens
