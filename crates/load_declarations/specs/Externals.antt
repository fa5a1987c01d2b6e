-- What externals break.
use Rattle.std.specs.Prelude.{◌≡◌, ◌≢◌, ℕ, Bool, true, Some, None}
use Rattle.il_syntax.specs.declared.tree.Config.{Config}
use Rattle.il_syntax.specs.declared.tree.Declaration.{Declaration}
use Rattle.il_syntax.specs.declared.tree.Named.{Named}
use Rattle.il_syntax.specs.declared.tree.Place.{Place}
use Rattle.il_syntax.specs.declared.tree.Form.{Form}
use Rattle.il_syntax.specs.declared.tree.Form.TheVariants.{Scalar as OfScalar, Array as OfArray, Block as OfBlock}
use Rattle.il_statics.specs.Declarations.{global_form}
use Rattle.il_statics.specs.Least.{When, Either}
use Rattle.load_declarations.specs.Places.{Among}

-- a scalar's or an array's type is another than this one
abbrev pub Differs : Form → Form → Type 0
Differs (OfScalar scalar) other = OfScalar scalar ≢ other
Differs (OfArray bounds element) other = OfArray bounds element ≢ other
Differs (OfBlock name) other = ⊥

-- what a test says of two types
pub record IsOther (form other : Form) (result : Bool) : Type 0 where
  pub yes : result ≡ true → Differs form other
  pub no : Differs form other → result ≡ true

-- an external is no global's, or its scalar or array type another than the global's
abbrev pub BreaksExternal : Config → Declaration → Named → ℕ → Place → Type 0
BreaksExternal config d n =
    Either (When (global_form config n.name ≡ None) 21 n.place) (When ((form : Form) × (global_form config n.name ≡ Some form) × Differs d.declared.form form) 25 d.declared.place)

-- one of a declaration's names is such an external
abbrev pub BreaksExternals : Config → Declaration → ℕ → Place → Type 0
BreaksExternals config d = Among (BreaksExternal config d) d.names
