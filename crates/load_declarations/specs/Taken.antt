-- Names that are predeclared or a unit's.
use Rattle.std.specs.Prelude.{ℕ, ◌||◌, IsTrue}
use Rattle.il_syntax.specs.declared.tree.Config.{Config}
use Rattle.il_syntax.specs.declared.tree.Unit.{Unit as ProgramUnit}
use Rattle.il_syntax.specs.declared.tree.Declaration.{Declaration}
use Rattle.il_syntax.specs.declared.tree.Named.{Named}
use Rattle.il_syntax.specs.declared.tree.Place.{Place}
use Rattle.il_statics.specs.Names.{is_one_of, is_predeclared}
use Rattle.il_statics.specs.Declarations.{names_of_units}
use Rattle.il_statics.specs.Least.{When, Either}
use Rattle.load_declarations.specs.Places.{Among}

-- the faults of the declarations of a unit's lists
abbrev pub InLists : (Declaration → ℕ → Place → Type 0) → ProgramUnit → ℕ → Place → Type 0
InLists Holds unit = Either (Among Holds unit.inputs) (Either (Among Holds unit.outputs) (Either (Among Holds unit.variables) (Among Holds unit.externals)))

-- a name is predeclared or a unit's
abbrev pub TakenName : Config → Named → ℕ → Place → Type 0
TakenName config n = When (IsTrue (is_predeclared config n.name || is_one_of (names_of_units config) n.name)) 20 n.place

-- one of a declaration's names is
abbrev pub TakenNames : Config → Declaration → ℕ → Place → Type 0
TakenNames config d = Among (TakenName config) d.names

-- a unit's name is predeclared, or one of its variables has such a name
abbrev pub TakenInUnit : Config → ProgramUnit → ℕ → Place → Type 0
TakenInUnit config unit = Either (When (IsTrue (is_predeclared config unit.name.name)) 20 unit.place) (InLists (TakenNames config) unit)
