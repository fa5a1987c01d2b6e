-- The names that declarations give (own rules).
use Rattle.std.specs.Prelude.{ℕ, Bool, true, false, ◌||◌, List, ◌++◌, map, flat_map, bytes_eq, is_some}
use Rattle.std.specs.List.{list_any}
use Rattle.il_syntax.specs.declared.tree.Unit.{Unit as ProgramUnit}
use Rattle.il_syntax.specs.declared.tree.Declaration.{Declaration}
use Rattle.il_syntax.specs.declared.tree.Named.{Named}
use Rattle.il_syntax.specs.declared.tree.Form.{Form}
use Rattle.il_syntax.specs.declared.tree.Form.TheVariants.{Scalar as OfScalar, Array as OfArray, Block as OfBlock}
use Rattle.il_statics.specs.Names.{Spelling}
use Rattle.show_names.specs.declared.names.Declared.{Declared}
use Rattle.show_names.specs.declared.names.DeclaredNames.{DeclaredNames}

-- a declared name, its line, whether it is an instance of a function block, and whether it has an initial value
pub record DeclaredName : Type 0 where
  pub name : Spelling
  pub line : ℕ
  pub is_instance : Bool
  pub has_initial : Bool

-- whether a type is a function block (2.5.2.1)
abbrev pub is_block : Form → Bool
is_block (OfScalar scalar) = false
is_block (OfArray bounds element) = false
is_block (OfBlock name) = true

-- a name of a declaration
abbrev pub declared_name : Bool → Bool → Named → DeclaredName
declared_name is_instance has_initial n = record { name = n.name; line = n.place.line; is_instance = is_instance; has_initial = has_initial }

-- the names of a declaration, each with its type and its initial value (2.4.3)
abbrev pub declaration_names : Declaration → List DeclaredName
declaration_names d = map (declared_name (is_block d.declared.form) (is_some d.initial)) d.names

-- the names of declarations, in the order of the text
abbrev pub declared_names : List Declaration → List DeclaredName
declared_names declarations = flat_map declaration_names declarations

-- whether declarations give a name
abbrev pub is_declared : List Declaration → Spelling → Bool
is_declared declarations name = list_any (λ n. bytes_eq n.name name) (declared_names declarations)

-- whether a unit declares a name, an external among them
abbrev pub declares : ProgramUnit → Spelling → Bool
declares unit name = is_declared unit.inputs name || is_declared unit.outputs name || is_declared unit.variables name || is_declared unit.externals name

-- what is shown of a declared name
abbrev pub name_shown : Declared → DeclaredName
name_shown n = record { name = n.name.now; line = n.line; is_instance = n.is_instance; has_initial = n.has_initial }

-- the names that are left of declarations: those of the one that is begun, and those of the others
abbrev pub names_left : DeclaredNames → List DeclaredName
names_left l = map (declared_name l.is_instance l.has_initial) l.names.now ++ declared_names l.declarations.now
