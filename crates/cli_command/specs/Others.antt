-- The first faults of the other units of a refused text (own rules).
use Rattle.std.specs.Prelude.{◌≡◌, ◌==◌, ◌&&◌, ℕ, Bool, List, [], ◌∷◌, flat_map, if◌then◌else◌}
use Rattle.il_syntax.specs.declared.tree.Config.{Config}
use Rattle.il_syntax.specs.declared.tree.Place.{Place}
use Rattle.load_declarations.specs.declared.per_unit.UnitFault.{UnitFault}
use Rattle.load_text.specs.Loading.{IsSpelled, SpellsNone}
use Rattle.load_text.specs.UnitFaults.{AreUnitFaults}
use Rattle.cli_shell.specs.declared.commands.OtherFault.{OtherFault}

-- whether a fault is the one that is named
abbrev pub is_named : ℕ → Place → UnitFault → Bool
is_named number place fault = fault.number == number && fault.place.offset == place.offset

-- a fault, unless it is the one that is named
abbrev pub unless_named : ℕ → Place → UnitFault → List OtherFault
unless_named number place fault = if is_named number place fault then [] else record { number = fault.number; place = fault.place } ∷ []

-- The first faults of the units of a text but for the one that is named: of declarations or types, in the phase in which a configuration is refused; a text that spells none has none.
pub record AreOthers (text : List ℕ) (number : ℕ) (place : Place) (others : List OtherFault) : Type 0 where
  pub faults : List UnitFault
  pub spelled : (c : Config) → IsSpelled text c → AreUnitFaults c faults
  pub unspelled : SpellsNone text → faults ≡ []
  pub are : others ≡ flat_map (unless_named number place) faults
