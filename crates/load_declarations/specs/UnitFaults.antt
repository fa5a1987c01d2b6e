-- The first fault of each unit (own rule).
use Rattle.std.specs.Prelude.{◌≡◌, ◌⊎◌, ℕ, List, [], ◌∷◌, Option, Some, None}
use Rattle.il_syntax.specs.declared.tree.Place.{Place}
use Rattle.il_statics.specs.Faults.{IsFirst, HasNoFault}
use Rattle.il_statics.specs.Least.{NumberedFault}
use Rattle.load_declarations.specs.declared.per_unit.UnitFault.{UnitFault}

-- The faults are the first ones of the units, in the order of the units: a unit that breaks no rule has none, and one that breaks some has one, its first.
abbrev pub AreFirst : {A : Type 0} → (A → ℕ → Place → Type 0) → List A → List UnitFault → Type 0
AreFirst rule [] faults = faults ≡ []
AreFirst rule (unit ∷ units) faults =
    (HasNoFault (rule unit) × AreFirst rule units faults)
    ⊎ ((first : UnitFault) × (others : List UnitFault) × (faults ≡ first ∷ others) × IsFirst (rule unit) first.number first.place × AreFirst rule units others)

-- a fault that was found, in a list
abbrev pub listed : Option NumberedFault → List UnitFault
listed None = []
listed (Some found) = record { number = found.number; place = found.place } ∷ []
