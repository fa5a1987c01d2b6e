use Rattle.std.proofs.Common.{◌≡◌, drop}
use Rattle.reasons_faults.specs.ChainReasons.{call_line}
use Rattle.reasons_faults.proofs.chain_uses.call_line.Given as goal

-- what is left answers for all
abbrev pub invariant-loop-step : goal.invariant-loop-step
invariant-loop-step l = call_line l.names l.to (drop l.step-index l.steps) ≡ call_line l.names l.to l.steps
