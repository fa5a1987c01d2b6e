-- What units break, part by part.
use Rattle.std.specs.Prelude.{ℕ}
use Rattle.il_syntax.specs.declared.tree.Config.{Config}
use Rattle.il_syntax.specs.declared.tree.Unit.{Unit as ProgramUnit}
use Rattle.il_syntax.specs.declared.tree.UnitKind.{UnitKind}
use Rattle.il_syntax.specs.declared.tree.UnitKind.TheVariants.{Function, FunctionBlock, Program}
use Rattle.il_syntax.specs.declared.tree.Place.{Place}
use Rattle.base_maps.specs.NameMap.{empty}
use Rattle.il_statics.specs.Declarations.{subrange_numbers, admitted_variables, ScalarsAlone, ScalarsAndArrays, name_numbers, unit_names, labels_of}
use Rattle.il_statics.specs.Least.{Either}
use Rattle.load_declarations.specs.Places.{At, Among}
use Rattle.load_declarations.specs.Written.{Misdeclared}
use Rattle.load_declarations.specs.Externals.{BreaksExternals}
use Rattle.load_declarations.specs.Taken.{TakenInUnit}
use Rattle.load_declarations.specs.Again.{NamedAgain}

-- the type of a function's result is broken
abbrev pub BreaksResult : UnitKind → ℕ → Place → Type 0
BreaksResult (Function scalar place) number other = At (subrange_numbers scalar.elementary scalar.subrange) place number other
BreaksResult FunctionBlock number other = ⊥
BreaksResult Program number other = ⊥

-- a written type or an initial value in a unit's lists is broken
abbrev pub BreaksLists : Config → ProgramUnit → ℕ → Place → Type 0
BreaksLists config unit =
    Either (Among (Misdeclared config ScalarsAlone) unit.inputs) (Either (Among (Misdeclared config ScalarsAlone) unit.outputs) (Either (Among (Misdeclared config (admitted_variables unit.kind)) unit.variables) (Among (Misdeclared config ScalarsAndArrays) unit.externals)))

-- a unit breaks a rule of types, externals, taken names, or names in instructions
abbrev pub BreaksChecked : Config → ProgramUnit → ℕ → Place → Type 0
BreaksChecked config unit =
    Either (Either (BreaksResult unit.kind) (BreaksLists config unit)) (Either (Among (BreaksExternals config) unit.externals) (Either (TakenInUnit config unit) (Among (λ s. At (name_numbers config unit s.instruction) s.place) unit.body.steps)))

-- a unit declares a variable or a label again
abbrev pub DeclaresAgain : ProgramUnit → ℕ → Place → Type 0
DeclaresAgain unit = Either (NamedAgain empty (unit_names unit)) (NamedAgain empty (labels_of unit.body))

-- a unit breaks a rule
abbrev pub UnitBreaks : Config → ProgramUnit → ℕ → Place → Type 0
UnitBreaks config unit = Either (BreaksChecked config unit) (DeclaresAgain unit)
