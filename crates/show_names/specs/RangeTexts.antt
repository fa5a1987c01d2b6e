-- The text of what is known in a configuration (own rules).
use Rattle.std.specs.Prelude.{◌≡◌, ℕ, List, [], ◌∷◌, ◌++◌, Option}
use Rattle.base_json.specs.declared.form.Form.{Form}
use Rattle.il_syntax.specs.declared.tree.Config.{Config}
use Rattle.il_syntax.specs.declared.tree.Unit.{Unit as ProgramUnit}
use Rattle.il_semantics.specs.Annotation.{Knowledge}
use Rattle.il_statics.specs.Least.{NumberedFault}
use Rattle.ranges_pass.specs.Shown.{AreKnownTo}
use Rattle.show_names.specs.RangeLines.{unit_rows}

-- The text of a unit in a form, with the text of its instructions where `source` has that: of each of its instructions the least that is known before it, where the unit has an
-- annotation, and otherwise of those up to and including the first without, with the number of what is wrong there.
pub record IsUnitShown (form : Form) (source : Option (List ℕ)) (c : Config) (u : ProgramUnit) (text : List ℕ) : Type 0 where
  pub known : List (Option Knowledge)
  pub found : Option NumberedFault
  pub are : AreKnownTo c u known found
  pub is : text ≡ unit_rows form source u known found

-- The texts of units, one after the other.
abbrev pub AreUnitsShown : Form → Option (List ℕ) → Config → List ProgramUnit → List ℕ → Type 0
AreUnitsShown form source c [] text = text ≡ []
AreUnitsShown form source c (u ∷ units) text = (one rest : List ℕ) × IsUnitShown form source c u one × AreUnitsShown form source c units rest × (text ≡ one ++ rest)

-- The text of a configuration in a form: of its units, in the written order.
abbrev pub AreRangesIn : Form → Option (List ℕ) → Config → List ℕ → Type 0
AreRangesIn form source c text = AreUnitsShown form source c c.units text
