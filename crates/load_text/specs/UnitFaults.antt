-- The first fault of each unit of a text (own rules).
use Rattle.std.specs.Prelude.{List}
use Rattle.il_syntax.specs.declared.tree.Config.{Config}
use Rattle.il_statics.specs.Faults.{BreaksDeclarations, HasNoFault}
use Rattle.load_declarations.specs.declared.per_unit.UnitFault.{UnitFault}
use Rattle.load_declarations.specs.Units as declarations
use Rattle.load_declarations.specs.UnitFaults.{AreFirst}
use Rattle.load_types.specs.Faults as types

-- The first faults of the units of a configuration: of their declarations, where some rule of declarations is broken, and otherwise of their types.
pub data AreUnitFaults (c : Config) (faults : List UnitFault) : Type 0 where
  of_declarations : ¬ HasNoFault (BreaksDeclarations c) → AreFirst (declarations.UnitBreaks c) c.units faults → AreUnitFaults c faults
  of_types : HasNoFault (BreaksDeclarations c) → AreFirst (types.UnitBreaks c) c.units faults → AreUnitFaults c faults
