use Rattle.std.proofs.Common.{◌≡◌, drop}
use Rattle.reasons_faults.specs.ChainReasons.{instance_line}
use Rattle.reasons_faults.proofs.chain_uses.instance_line.Given as goal

-- what is left answers for all
abbrev pub invariant-loop-declaration : goal.invariant-loop-declaration
invariant-loop-declaration l = instance_line l.names l.to (drop l.declaration-index l.declarations) ≡ instance_line l.names l.to l.declarations
