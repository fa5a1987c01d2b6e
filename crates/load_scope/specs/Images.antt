-- The table of image names, in a configuration.
use Rattle.std.specs.Prelude.{ℤ, pos, List, map, Option, find}
use Rattle.il_syntax.specs.declared.tree.Config.{Config}
use Rattle.il_syntax.specs.declared.tree.Scalar.{Scalar as ScalarOf}
use Rattle.il_syntax.specs.ElementaryTypes.{plain}
use Rattle.il_statics.specs.Names.{Spelling, within, image_of}
use Rattle.load_scope.specs.declared.entry.VariableType.{VariableType}
use Rattle.load_scope.specs.declared.entry.VariableType.TheVariants.{Scalar, Array}
use Rattle.load_scope.specs.declared.entry.ImageName.{ImageName}
use Rattle.load_scope.specs.declared.image.Limit.{Limit}
use Rattle.load_scope.specs.declared.image.Limit.TheVariants.{Fixed, Cars, Floors, Slots}
use Rattle.load_scope.specs.declared.image.ImageScalar.{ImageScalar}
use Rattle.load_scope.specs.declared.image.ImageScalar.TheVariants.{Plain, Within}
use Rattle.load_scope.specs.declared.image.ImageType.{ImageType}
use Rattle.load_scope.specs.declared.image.ImageType.TheVariants.{Single, Row}
use Rattle.load_scope.specs.declared.image.ImageRow.{ImageRow}
use Rattle.load_scope.specs.Views.{image_entry}
use Rattle.load_scope.specs.Words.{is_name}

-- a limit in a configuration
abbrev pub limit_in : Config → Limit → ℤ
limit_in config (Fixed number) = number
limit_in config Cars = config.cars.value
limit_in config Floors = config.floors.value
limit_in config Slots = config.slots.value

-- the type of an image name, or of the elements of its array
abbrev pub scalar_in : Config → ImageScalar → ScalarOf
scalar_in config (Plain elementary) = plain elementary
scalar_in config (Within lower upper) = within (limit_in config lower) (limit_in config upper)

-- the type of an image name
abbrev pub type_in : Config → ImageType → VariableType
type_in config (Single scalar) = Scalar (scalar_in config scalar)
type_in config (Row length element) = Array (record { lower = pos 1; upper = limit_in config length }) (scalar_in config element)

-- the image name of a row
abbrev pub image_in : Config → ImageRow → ImageName
image_in config row = record { variable = record { declared = type_in config row.declared; origin = row.origin }; audience = row.audience }

-- a row's name, with what it is
abbrev pub named : Config → ImageRow → Spelling × ImageName
named config row = (row.name.now, image_in config row)

-- the image names of a configuration, each by its spelling
abbrev pub image_entries : Config → List (Spelling × ImageName)
image_entries config = map (λ i. (i.variable.name, image_entry config i)) (image_of config.cars.value config.floors.value config.slots.value)

-- the row of a spelling
abbrev pub row_among : List ImageRow → Spelling → Option ImageRow
row_among rows name = find (λ r. is_name r.name.now name) rows
