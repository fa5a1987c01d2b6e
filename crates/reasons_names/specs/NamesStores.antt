-- What is reported of a place that may not be stored into (own rules).
use Rattle.std.specs.Prelude.{ℕ, if◌then◌else◌, List, [], ◌++◌, Option, Some, None, is_some, option_map, option_and_then, codes}
use Rattle.il_syntax.specs.declared.tree.Config.{Config}
use Rattle.il_syntax.specs.declared.tree.Unit.{Unit as ProgramUnit}
use Rattle.il_statics.specs.Names.{Spelling, entry_of, variable_named}
use Rattle.il_statics.specs.declared.names.Origin.{Origin}
use Rattle.il_statics.specs.declared.names.Origin.TheVariants.{Input as AsInput, Output as AsOutput, Local as AsVariable, External as AsExternal, FunctionResult as AsResult, ReadImage as AsReadImage, WrittenImage as AsWrittenImage}
use Rattle.il_statics.specs.Types.{instance_block}

-- LINES

-- `NAME can't be stored into: it is an input of this unit`
unfoldable pub input_line : Spelling → List ℕ
input_line name = name ++ codes " can't be stored into: it is an input of this unit\n"

-- `NAME can't be stored into: it is an input of the image`
unfoldable pub image_line : Spelling → List ℕ
image_line name = name ++ codes " can't be stored into: it is an input of the image\n"

-- `NAME.WORD can't be stored into: it is an output of an instance`
unfoldable pub output_line : Spelling → Spelling → List ℕ
output_line name word = name ++ (codes "." ++ (word ++ codes " can't be stored into: it is an output of an instance\n"))

-- `a literal can't be stored into`
unfoldable pub literal_line : List ℕ
literal_line = codes "a literal can't be stored into\n"

-- TARGETS

-- a variable, by where it is: those that no body writes (2.4.3)
abbrev pub origin_text : Spelling → Option Origin → List ℕ
origin_text name None = []
origin_text name (Some AsInput) = input_line name
origin_text name (Some AsOutput) = []
origin_text name (Some AsVariable) = []
origin_text name (Some AsExternal) = []
origin_text name (Some AsResult) = []
origin_text name (Some AsReadImage) = image_line name
origin_text name (Some AsWrittenImage) = []

-- where the variable of a name is
abbrev pub origin_named : Config → ProgramUnit → Spelling → Option Origin
origin_named config unit name = option_map (λ v. v.origin) (variable_named config unit name)

-- a variable by its name
abbrev pub variable_text : Config → ProgramUnit → Spelling → List ℕ
variable_text config unit name = origin_text name (origin_named config unit name)

-- an output of an instance (2.5.2.1)
abbrev pub member_text : Config → ProgramUnit → Spelling → Spelling → List ℕ
member_text config unit name word = if is_some (option_and_then (λ b. entry_of b.outputs word) (instance_block config unit name)) then output_line name word else []
