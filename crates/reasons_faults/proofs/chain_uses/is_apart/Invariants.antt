use Rattle.std.proofs.Common.{◌≡◌, drop}
use Rattle.reasons_faults.specs.ChainReasons.{is_apart}
use Rattle.reasons_faults.proofs.chain_uses.is_apart.Given as goal

-- what is left answers for all
abbrev pub invariant-loop-number : goal.invariant-loop-number
invariant-loop-number l = is_apart l.names l.name (drop l.number-index l.between) l.other ≡ is_apart l.names l.name l.between l.other
