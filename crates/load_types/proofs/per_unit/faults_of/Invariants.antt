use Rattle.std.proofs.Common.{take}
use Rattle.load_declarations.specs.UnitFaults.{AreFirst}
use Rattle.load_types.specs.Faults.{UnitBreaks}
use Rattle.load_types.proofs.per_unit.faults_of.Given as goal

abbrev pub invariant-loop-at : goal.invariant-loop-at
invariant-loop-at l = AreFirst (UnitBreaks l.names) (take l.at l.names.units) l.faults.items
