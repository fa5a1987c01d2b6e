-- What tables of names have.
use Rattle.std.specs.Prelude.{◌≡◌, ℕ, ℤ, if◌then◌else◌, List, [], ◌∷◌, map, Option, Some, None, is_some, option_map}
use Rattle.il_syntax.specs.declared.tree.Config.{Config}
use Rattle.il_syntax.specs.declared.tree.Unit.{Unit as ProgramUnit}
use Rattle.il_syntax.specs.declared.tree.ProgramLine.{ProgramLine}
use Rattle.il_syntax.specs.declared.tree.Declaration.{Declaration}
use Rattle.il_syntax.specs.declared.tree.Named.{Named}
use Rattle.base_maps.specs.NameMap.{NameMap, get, with_new}
use Rattle.il_statics.specs.Names.{Spelling, or_else, entry_of, is_one_of, named_forms, own_variable, image_name, task_role, program_role}
use Rattle.il_statics.specs.Names as rule
use Rattle.il_statics.specs.Declarations.{names_of_units}
use Rattle.load_scope.specs.declared.entry.VariableType.{VariableType}
use Rattle.load_scope.specs.declared.entry.Variable.{Variable}
use Rattle.il_statics.specs.declared.names.Origin.{Origin}
use Rattle.il_statics.specs.declared.names.Role.{Role}
use Rattle.load_scope.specs.declared.tables.Scope.{Scope}
use Rattle.load_scope.specs.declared.tables.Tables.{Tables}
use Rattle.il_syntax.specs.declared.tree.UnitKind.{UnitKind}
use Rattle.load_scope.specs.declared.image.ImageRow.{ImageRow}
use Rattle.load_scope.specs.Images.{image_in, row_among}
use Rattle.load_scope.specs.Views.{place_of, type_of, variable_of, image_entry}
use Rattle.load_scope.specs.Units.{input_scalars}
use Rattle.load_scope.specs.Meanings.{listed_as, image_seen}
use Rattle.load_scope.specs.LabelTables.{HasLabels}
use Rattle.load_scope.specs.StoredNames.{HasStored}

-- the number of the first unit of each name
abbrev pub AreUnits : Config → NameMap ℕ → Type 0
AreUnits config table = (name : Spelling) → get table name ≡ place_of (names_of_units config) name

-- the types of declared variables; the first of a name counts
abbrev pub HasForms : Config → List Declaration → NameMap VariableType → Type 0
HasForms config declarations table = (name : Spelling) → get table name ≡ option_map (type_of config) (entry_of (named_forms declarations) name)

-- what a table has, and these names where it had none
abbrev pub HasNames : {X : Type 0} → List Named → X → NameMap X → NameMap X → Type 0
HasNames names entry old new = (name : Spelling) → get new name ≡ or_else (get old name) (if is_one_of (map (λ n. n.name) names) name then Some entry else None)

-- what a table has, and the variables of a list where it had none of their names
abbrev pub HasList : Config → Origin → List Declaration → NameMap (Option Variable) → NameMap (Option Variable) → Type 0
HasList config origin declarations old new = (name : Spelling) → get new name ≡ or_else (get old name) (option_map (listed_as origin) (option_map (type_of config) (entry_of (named_forms declarations) name)))

-- a variable of a unit, which it sees
abbrev pub seen_variable : Config → rule.Variable → Option Variable
seen_variable config variable = Some (variable_of config variable)

-- the variables of a unit; the first of a name counts
abbrev pub HasVariables : Config → ProgramUnit → NameMap (Option Variable) → Type 0
HasVariables config unit table = (name : Spelling) → get table name ≡ option_map (seen_variable config) (own_variable unit name)

-- what a table has, and the image names of rows where it had none of their names
abbrev pub HasImages : Config → UnitKind → Option Role → List ImageRow → NameMap (Option Variable) → NameMap (Option Variable) → Type 0
HasImages config kind role rows old new = (name : Spelling) → get new name ≡ or_else (get old name) (option_map (image_seen kind role) (option_map (image_in config) (row_among rows name)))

-- the role of a unit's programs
abbrev pub role_of : Config → ProgramUnit → Option Role
role_of config unit = (program_role config unit.name.name config.programs)

-- what a unit's own names and the image names are to it
abbrev pub own_seen : Config → ProgramUnit → Spelling → Option (Option Variable)
own_seen config unit name = or_else (option_map (seen_variable config) (own_variable unit name)) (option_map (image_seen unit.kind (role_of config unit)) (option_map (image_entry config) (image_name config name)))

-- a table of them
abbrev pub HasOwn : Config → ProgramUnit → NameMap (Option Variable) → Type 0
HasOwn config unit table = (name : Spelling) → get table name ≡ own_seen config unit name

-- a table with the role that a PROGRAM line gives, if its program has none
abbrev pub with_role_of : Option Role → Spelling → NameMap Role → NameMap Role
with_role_of None name roles = roles
with_role_of (Some role) name roles = with_new roles name role

abbrev pub with_role : ℤ → ProgramLine → NameMap Role → NameMap Role
with_role cars line roles = with_role_of (task_role cars line.task.name) line.program.name roles

-- the roles that PROGRAM lines give
abbrev pub HasRoles : Config → List ProgramLine → NameMap Role → Type 0
HasRoles config lines roles = (name : Spelling) → get roles name ≡ program_role config name lines

-- the variables, the labels and the stores of a unit
pub record IsScope (config : Config) (unit : ProgramUnit) (scope : Scope) : Type 0 where
  pub inputs : HasForms config unit.inputs scope.inputs
  pub outputs : HasForms config unit.outputs scope.outputs
  pub scalars : scope.scalars ≡ input_scalars unit
  pub own : HasOwn config unit scope.own
  pub labels : HasLabels unit.body scope.labels
  pub stored : HasStored unit.body.steps scope.stored

-- the scope of each unit
abbrev pub AreScopes : Config → List ProgramUnit → List Scope → Type 0
AreScopes config [] [] = Unit {0}
AreScopes config [] (scope ∷ scopes) = ⊥
AreScopes config (unit ∷ units) [] = ⊥
AreScopes config (unit ∷ units) (scope ∷ scopes) = IsScope config unit scope × AreScopes config units scopes

-- all names of a configuration
pub record AreTables (config : Config) (tables : Tables) : Type 0 where
  pub units : AreUnits config tables.units
  pub globals : HasForms config config.globals tables.globals
  pub roles : HasRoles config config.programs tables.roles
  pub scopes : AreScopes config config.units tables.scopes
