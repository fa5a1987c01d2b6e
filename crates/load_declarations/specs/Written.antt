-- What written types and initial values break, declaration by declaration.
use Rattle.std.specs.Prelude.{◌≡◌, ℕ, Option, Some, Contains}
use Rattle.il_syntax.specs.declared.tree.Config.{Config}
use Rattle.il_syntax.specs.declared.tree.Declaration.{Declaration}
use Rattle.il_syntax.specs.declared.tree.Form.{Form}
use Rattle.il_syntax.specs.declared.tree.Initial.{Initial}
use Rattle.il_syntax.specs.declared.tree.Place.{Place}
use Rattle.il_statics.specs.Declarations as rule
use Rattle.il_statics.specs.Declarations.{type_numbers, initial_numbers}
use Rattle.il_statics.specs.Least.{Either}
use Rattle.load_declarations.specs.declared.types.Admitted.{Admitted}
use Rattle.load_declarations.specs.declared.types.Admitted.TheVariants.{ScalarsAlone, ScalarsAndArrays, AllForms}
use Rattle.load_declarations.specs.Places.{At}

-- which types the rules admit
abbrev pub shown : Admitted → rule.Admitted
shown ScalarsAlone = rule.ScalarsAlone
shown ScalarsAndArrays = rule.ScalarsAndArrays
shown AllForms = rule.AllForms

-- an initial value is broken
abbrev pub BreaksInitial : Form → Option Initial → ℕ → Place → Type 0
BreaksInitial form initial number place = (i : Initial) × (initial ≡ Some i) × Contains (initial_numbers form i.literal) number × (place ≡ i.place)

-- a declaration's type or its initial value is broken
abbrev pub Misdeclared : Config → rule.Admitted → Declaration → ℕ → Place → Type 0
Misdeclared config admitted d = Either (At (type_numbers config admitted d.declared.form) d.declared.place) (BreaksInitial d.declared.form d.initial)
