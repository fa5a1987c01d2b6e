use Rattle.std.proofs.Common.{take}
use Rattle.std.specs.List.{AllByRecursion}
use Rattle.group_state.specs.Saying.{IsHexDigit}
use Rattle.group_state.proofs.head.is_digest.Given as goal

-- digits before the place
abbrev pub invariant-digits : goal.invariant-digits
invariant-digits l = AllByRecursion IsHexDigit (take l.digit-index l.digits)
