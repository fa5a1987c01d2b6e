use Rattle.il_statics.specs.Least.{IsLeast, Below}
use Rattle.load_types.specs.Faults.{UnitBreaks}
use Rattle.load_types.proofs.answer.units_fault.Given as goal

abbrev pub invariant-loop-at : goal.invariant-loop-at
invariant-loop-at l = IsLeast l.found (Below (λ at unit. UnitBreaks l.names unit) l.names.units l.at)
