-- The phase whose faults units have.
use Rattle.std.proofs.Common.{◌≡◌, ℕ, List, subst}
use Rattle.il_syntax.specs.declared.fault.Refusal.{Refusal}
use Rattle.il_syntax.specs.declared.fault.Refusal.TheVariants.{Fault}
use Rattle.il_syntax.specs.declared.tree.Config.{Config}
use Rattle.il_syntax.specs.declared.tree.Place.{Place}
use Rattle.il_statics.specs.Faults.{BreaksDeclarations, HasNoFault, IsFirst, IsRefusedBy}
use Rattle.load_declarations.specs.declared.per_unit.UnitFault.{UnitFault}
use Rattle.load_declarations.specs.Units as declarations
use Rattle.load_declarations.specs.UnitFaults.{AreFirst}
use Rattle.load_types.specs.Faults as types
use Rattle.load_text.specs.UnitFaults.{AreUnitFaults, of_declarations, of_types}

-- a rule of declarations is broken
pub at_declarations : (c d : Config) (e : Refusal) (n : ℕ) (p : Place) (faults : List UnitFault) → d ≡ c → e ≡ Fault n p → IsRefusedBy (BreaksDeclarations d) e → AreFirst (declarations.UnitBreaks d) d.units faults → AreUnitFaults c faults
at_declarations c d e n p faults same is refused all =
    let first : IsFirst (BreaksDeclarations d) n p = subst (IsRefusedBy (BreaksDeclarations d)) is refused in
    subst (λ k. AreUnitFaults k faults) same (of_declarations (λ none. none n p first.broken) all)

-- none is
pub at_types : (c d t : Config) (faults : List UnitFault) → d ≡ c → t ≡ d → HasNoFault (BreaksDeclarations d) → AreFirst (types.UnitBreaks t) t.units faults → AreUnitFaults c faults
at_types c d t faults same typed none all =
    subst (λ k. AreUnitFaults k faults) same (of_types none (subst (λ k. AreFirst (types.UnitBreaks k) k.units faults) typed all))
