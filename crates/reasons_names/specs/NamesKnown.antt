-- The names that could have been meant (own rules).
use Rattle.std.specs.Prelude.{if◌then◌else◌, List, [], ◌∷◌, ◌++◌, map, flat_map, is_some, codes}
use Rattle.il_syntax.specs.declared.tree.Config.{Config}
use Rattle.il_syntax.specs.declared.tree.Declaration.{Declaration}
use Rattle.il_syntax.specs.declared.tree.Form.{Form}
use Rattle.il_syntax.specs.declared.tree.Form.TheVariants.{Scalar as OfScalar, Array as OfArray, Block as OfBlock}
use Rattle.il_syntax.specs.declared.tree.Named.{Named}
use Rattle.il_syntax.specs.declared.tree.Unit.{Unit as ProgramUnit}
use Rattle.il_statics.specs.Names.{Spelling, ImageName, image_of, variable_named, is_function, is_function_block, standard_functions, standard_blocks}
use Rattle.il_statics.specs.Declarations.{names_in, unit_names}
use Rattle.reasons_names.specs.NameSpots.{heading}
use Rattle.reasons_names.specs.NamesNear.{Known, declared_name, predeclared_name}

-- a unit that is a function
abbrev pub own_function : ProgramUnit → List Known
own_function unit = if is_function unit then declared_name (heading unit) ∷ [] else []

-- a unit that is a function block
abbrev pub own_block : ProgramUnit → List Known
own_block unit = if is_function_block unit then declared_name (heading unit) ∷ [] else []

-- a name of the image that means a variable in a unit
unfoldable pub seen_image : Config → ProgramUnit → Spelling → List Known
seen_image config unit name = if is_some (variable_named config unit name) then predeclared_name name ∷ [] else []

-- the image names that a unit sees, in the order of their table
unfoldable pub images_near : Config → ProgramUnit → List Known
images_near config unit = flat_map (λ (i : ImageName). seen_image config unit i.variable.name) (image_of config.cars.value config.floors.value config.slots.value)

-- the globals
abbrev pub globals_near : Config → List Known
globals_near config = map declared_name (names_in config.globals)

-- the variables of a unit: a function's result, those that it declares, the globals, then the image names that it sees
abbrev pub variables_near : Config → ProgramUnit → List Known
variables_near config unit =
    own_function unit
    ++ (map declared_name (unit_names unit)
    ++ (globals_near config ++ images_near config unit))

-- names that are declared with a form: of a block, its instances; of any other, none
abbrev pub instances_by : Form → List Named → List Known
instances_by (OfScalar scalar) names = []
instances_by (OfArray bounds element) names = []
instances_by (OfBlock block) names = map declared_name names

-- the instances of a declaration
abbrev pub declared_instances : Declaration → List Known
declared_instances d = instances_by d.declared.form d.names

-- the instances of a unit (2.5.2.1)
abbrev pub instances_near : ProgramUnit → List Known
instances_near unit = flat_map declared_instances unit.variables

-- the words of the elementary types (2.3.1)
unfoldable pub type_words : List Spelling
type_words =
    codes "BOOL" ∷ codes "SINT" ∷ codes "INT" ∷ codes "DINT" ∷ codes "USINT" ∷ codes "UINT" ∷ codes "UDINT" ∷ codes "TIME" ∷ []

-- the operators (3.2.2)
unfoldable pub operator_words : List Spelling
operator_words =
    codes "LD" ∷ codes "LDN" ∷ codes "ST" ∷ codes "STN" ∷ codes "S" ∷ codes "R" ∷ codes "AND" ∷ codes "ANDN"
    ∷ codes "OR" ∷ codes "ORN" ∷ codes "XOR" ∷ codes "XORN" ∷ codes "NOT" ∷ codes "ADD" ∷ codes "SUB" ∷ codes "MUL"
    ∷ codes "DIV" ∷ codes "MOD" ∷ codes "GT" ∷ codes "GE" ∷ codes "EQ" ∷ codes "NE" ∷ codes "LE" ∷ codes "LT"
    ∷ codes "JMP" ∷ codes "JMPC" ∷ codes "JMPCN" ∷ codes "CAL" ∷ codes "CALC" ∷ codes "CALCN" ∷ codes "RET" ∷ codes "RETC"
    ∷ codes "RETCN" ∷ []

-- the functions, own ones first, and the operators
abbrev pub functions_near : Config → List Known
functions_near config = flat_map own_function config.units ++ (map (λ f. predeclared_name f.0) standard_functions ++ map predeclared_name operator_words)

-- the types of variables: function blocks, own ones first, and elementary types
abbrev pub types_near : Config → List Known
types_near config = flat_map own_block config.units ++ (map (λ b. predeclared_name b.0) standard_blocks ++ map predeclared_name type_words)
