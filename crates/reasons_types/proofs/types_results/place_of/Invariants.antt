use Rattle.reasons_types.proofs.ResultPasses.{NoneBelow}
use Rattle.reasons_types.proofs.types_results.place_of.Given as goal

abbrev pub invariant-steps : goal.invariant-steps
invariant-steps l = NoneBelow l.steps l.offset l.at
