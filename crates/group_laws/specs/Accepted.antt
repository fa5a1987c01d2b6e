-- Which configurations run well: those that are accepted, and whose units have annotations (own rule).
use Rattle.il_syntax.specs.declared.tree.Config.{Config}
use Rattle.il_statics.specs.Faults.{Declaring, Typing, Broken, HasNoFault}
use Rattle.il_statics.specs.Written.{IsWritten}
use Rattle.il_semantics.specs.Annotation.{Annotated}
use Rattle.il_semantics_laws.specs.Accepted.{IsOrdered}

-- A configuration that a text spells, that breaks no rule of declarations, types or order, and whose units have annotations.
-- The limit of slots, number 12, is not asked for (own rule).
pub record IsSound (c : Config) : Type 0 where
  pub written : IsWritten c
  pub declared : HasNoFault (Broken Declaring c)
  pub typed : HasNoFault (Broken Typing c)
  pub ordered : IsOrdered c
  pub annotated : Annotated c
