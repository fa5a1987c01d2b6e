-- Which programs the rules accept: all that the laws of a scan ask for (own rule).
use Rattle.std.specs.Prelude.{◌≡◌, ◌≢◌, ℕ, Some}
use Rattle.il_syntax.specs.declared.tree.Config.{Config}
use Rattle.il_syntax.specs.declared.tree.Unit.{Unit as ProgramUnit}
use Rattle.il_syntax.specs.declared.tree.Place.{Place}
use Rattle.il_statics.specs.Names.{program_named}
use Rattle.il_statics.specs.Faults.{Declaring, Typing, Ordering, Broken, HasNoFault}
use Rattle.il_statics.specs.Written.{IsWritten}

-- no unit uses itself, and no chain of units is too long; the limit of slots, number 12, is not asked for (36, 46; own rule)
abbrev pub IsOrdered : Config → Type 0
IsOrdered c = (number : ℕ) (place : Place) → number ≢ 12 → ¬ Broken Ordering c number place

-- A program of a configuration that a text spells and that breaks no rule of declarations, types or order (own rule).
pub record IsAccepted (c : Config) (p : ProgramUnit) : Type 0 where
  pub written : IsWritten c
  pub declared : HasNoFault (Broken Declaring c)
  pub typed : HasNoFault (Broken Typing c)
  pub ordered : IsOrdered c
  pub program : program_named c p.name.name ≡ Some p
