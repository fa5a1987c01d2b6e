-- What names mean, as the code has it: types with their blocks found, units by their numbers.
use Rattle.std.specs.Prelude.{ℕ, suc, Bool, false, if◌then◌else◌, List, [], ◌∷◌, Option, Some, None, option_map, option_and_then, bytes_eq, slice_get}
use Rattle.il_syntax.specs.declared.tree.Config.{Config}
use Rattle.il_syntax.specs.declared.tree.Unit.{Unit as ProgramUnit}
use Rattle.il_syntax.specs.declared.tree.Form.{Form}
use Rattle.il_syntax.specs.declared.tree.Form.TheVariants.{Scalar as OfScalar, Array as OfArray, Block as OfBlock}
use Rattle.il_statics.specs.Names as rule
use Rattle.il_statics.specs.Names.{Spelling, or_else, BlockVariables, standard_block, standard_variables, own_block_variables, is_predeclared, is_function, is_function_block, is_program, MeansVariable, MeansUnit, MeansStandard}
use Rattle.il_statics.specs.Declarations.{names_of_units}
use Rattle.load_scope.specs.declared.entry.BlockType.{BlockType}
use Rattle.load_scope.specs.declared.entry.BlockType.TheVariants.{Standard as StandardType, Own}
use Rattle.load_scope.specs.declared.entry.VariableType.{VariableType}
use Rattle.load_scope.specs.declared.entry.VariableType.TheVariants.{Scalar, Array, Instance}
use Rattle.load_scope.specs.declared.entry.Variable.{Variable}
use Rattle.load_scope.specs.declared.entry.ImageName.{ImageName}
use Rattle.load_scope.specs.declared.entry.Binding.{Binding}
use Rattle.load_scope.specs.declared.entry.Binding.TheVariants as means

-- the number of the first of some names that is this one, counted from 0
abbrev pub place_of : List Spelling → Spelling → Option ℕ
place_of [] name = None
place_of (n ∷ ns) name = if bytes_eq n name then Some 0 else option_map (λ k. suc k) (place_of ns name)

-- the number of the unit of a name; a unit with a predeclared name is none (2.5)
unfoldable pub unit_number : Config → Spelling → Option ℕ
unit_number config name = if is_predeclared config name then None else place_of (names_of_units config) name

-- whether a unit is there and passes a test
abbrev pub passes : (ProgramUnit → Bool) → Option ProgramUnit → Bool
passes test None = false
passes test (Some unit) = test unit

-- the number of the unit of a name, if it passes a test
abbrev pub number_where : (ProgramUnit → Bool) → Config → Spelling → Option ℕ
number_where test config name = option_and_then (λ k. if passes test (slice_get config.units k) then Some k else None) (unit_number config name)

-- the number of the own function of a name (2.5.1)
unfoldable pub function_number : Config → Spelling → Option ℕ
function_number config name = number_where is_function config name

-- the number of the own function block of a name (2.5.2)
unfoldable pub function_block_number : Config → Spelling → Option ℕ
function_block_number config name = number_where is_function_block config name

-- the number of the program of a name (2.5.3)
unfoldable pub program_number : Config → Spelling → Option ℕ
program_number config name = number_where is_program config name

-- the block of a name, standard or own (2.5.2)
unfoldable pub block_type : Config → Spelling → Option BlockType
block_type config name = or_else (option_map StandardType (standard_block name)) (option_map Own (function_block_number config name))

-- a written type
abbrev pub type_of : Config → Form → VariableType
type_of config (OfScalar scalar) = Scalar scalar
type_of config (OfArray bounds element) = Array bounds element
type_of config (OfBlock name) = Instance (block_type config name)

-- the variables of a block
abbrev pub variables_of_block : Config → BlockType → Option BlockVariables
variables_of_block config (StandardType block) = Some (standard_variables block)
variables_of_block config (Own k) = option_map own_block_variables (slice_get config.units k)

-- a variable
abbrev pub variable_of : Config → rule.Variable → Variable
variable_of config v = record { declared = type_of config v.form; origin = v.origin }

-- an image name
abbrev pub image_entry : Config → rule.ImageName → ImageName
image_entry config i = record { variable = variable_of config i.variable; audience = i.audience }

-- what a name means
abbrev pub binding_of : Config → rule.Meaning → Binding
binding_of config (MeansVariable v) = means.Variable (variable_of config v)
binding_of config (MeansUnit unit) = means.Unit
binding_of config MeansStandard = means.Standard
