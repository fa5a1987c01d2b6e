use Rattle.il_statics.specs.Least.{IsLeast, Below}
use Rattle.load_declarations.specs.Units.{UnitBreaks}
use Rattle.load_declarations.proofs.units.units_fault.Given as goal

abbrev pub invariant-loop-at : goal.invariant-loop-at
invariant-loop-at l = IsLeast l.found (Below (λ at. UnitBreaks l.names) l.units l.at)
