use Rattle.ranges_pass.specs.Judged.{AreJudged}
use Rattle.ranges_pass.proofs.ranges.units_fault.Given as goal

abbrev pub invariant-loop-at : goal.invariant-loop-at
invariant-loop-at l = AreJudged l.names l.at l.found
