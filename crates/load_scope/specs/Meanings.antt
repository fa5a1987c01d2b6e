-- What names mean, step by step.
use Rattle.std.specs.Prelude.{Bool, true, false, ◌&&◌, if◌then◌else◌, Option, Some, None, is_some, bytes_eq}
use Rattle.il_syntax.specs.declared.tree.Config.{Config}
use Rattle.il_syntax.specs.declared.tree.UnitKind.{UnitKind}
use Rattle.il_syntax.specs.declared.tree.UnitKind.TheVariants.{Function, FunctionBlock, Program}
use Rattle.il_statics.specs.Names.{Spelling, is_predeclared, is_program_kind, is_seen_by}
use Rattle.load_scope.specs.declared.entry.VariableType.{VariableType}
use Rattle.load_scope.specs.declared.entry.VariableType.TheVariants.{Scalar}
use Rattle.il_statics.specs.declared.names.Origin.{Origin}
use Rattle.il_statics.specs.declared.names.Origin.TheVariants.{FunctionResult}
use Rattle.load_scope.specs.declared.entry.Variable.{Variable}
use Rattle.il_statics.specs.declared.names.Role.{Role}
use Rattle.load_scope.specs.declared.entry.ImageName.{ImageName}
use Rattle.load_scope.specs.declared.entry.Binding.{Binding}
use Rattle.load_scope.specs.declared.entry.Binding.TheVariants as means
use Rattle.load_scope.specs.Views.{unit_number}

-- a variable of one list, which its unit sees
abbrev pub listed_as : Origin → VariableType → Option Variable
listed_as origin declared = Some (record { declared = declared; origin = origin })

-- a function's variable of its own name
abbrev pub own_result : UnitKind → Spelling → Spelling → Option (Option Variable)
own_result (Function scalar place) own name = if bytes_eq own name then Some (listed_as FunctionResult (Scalar scalar)) else None
own_result FunctionBlock own name = None
own_result Program own name = None

-- what a unit of a kind and role sees of an image name
abbrev pub image_seen : UnitKind → Option Role → ImageName → Option Variable
image_seen kind role image = if is_program_kind kind && is_seen_by role image.audience then Some image.variable else None

-- a variable, if it is seen
abbrev pub variable_binding : Option Variable → Option Binding
variable_binding None = None
variable_binding (Some variable) = Some (means.Variable variable)

-- what a name means that is neither a variable of the unit nor an image name
abbrev pub global_binding : Config → Spelling → Option Binding
global_binding config name = if is_some (unit_number config name) then Some means.Unit else (if is_predeclared config name then Some means.Standard else None)
