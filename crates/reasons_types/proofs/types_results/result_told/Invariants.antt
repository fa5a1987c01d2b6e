use Rattle.reasons_types.proofs.ResultPasses.{NoneInUnits}
use Rattle.reasons_types.proofs.types_results.result_told.Given as goal

abbrev pub invariant-units : goal.invariant-units
invariant-units l = NoneInUnits l.names.units l.offset l.at
