use Rattle.std.proofs.Common.{take}
use Rattle.load_declarations.specs.Units.{UnitBreaks}
use Rattle.load_declarations.specs.UnitFaults.{AreFirst}
use Rattle.load_declarations.proofs.per_unit.unit_faults.Given as goal

abbrev pub invariant-loop-at : goal.invariant-loop-at
invariant-loop-at l = AreFirst (UnitBreaks l.names) (take l.at l.names.units) l.faults.items
