-- What the passes over units answer (own rules).
use Rattle.std.specs.Prelude.{◌≡◌, Contains, ℕ, ◌<◌, List, length, slice_get, Option, Some, None}
use Rattle.il_syntax.specs.declared.tree.Config.{Config}
use Rattle.il_syntax.specs.declared.tree.Unit.{Unit as ProgramUnit}
use Rattle.il_syntax.specs.declared.tree.Step.{Step}
use Rattle.ranges_interval.specs.declared.Interval.{Interval}
use Rattle.il_statics.specs.Faults.{BreaksDeclarations, Broken, Typing, HasNoFault}
use Rattle.il_semantics.specs.Annotation.{Annotation, IsAnnotated}
use Rattle.il_statics.specs.Least.{NumberedFault, IsLeast, Below}
use Rattle.ranges_laws.specs.declared.facts.Facts.{Facts}
use Rattle.ranges_laws.specs.Facts.{Names, shown}
use Rattle.ranges_pass.specs.Numbering.{AreNumbers, IsPlaceNumbered}
use Rattle.ranges_pass.specs.Lacking.{LacksRanges}
use Rattle.ranges_pass.specs.Reasons.{fault_of}

-- a unit of a configuration of which no rule of declarations and of types is broken, and the numbers of its variables
pub record Setting (n : Names) (declared : List Interval) : Type 0 where
  pub among : Contains n.config.units n.unit
  pub unbroken : HasNoFault (BreaksDeclarations n.config)
  pub typed : HasNoFault (Broken Typing n.config)
  pub count : n.count ≡ length declared
  pub are : AreNumbers (record { config = n.config; unit = n.unit }) n.numbers declared
  pub stores : (at : ℕ) (s : Step) → at < length n.unit.body.steps → slice_get n.unit.body.steps at ≡ Some s → IsPlaceNumbered (record { config = n.config; unit = n.unit }) n.numbers n.unit.body.steps at s

-- a place of a unit, by its steps
pub record IsPlaceOf (n : Names) (steps : List Step) (place : ℕ) : Type 0 where
  pub same : steps ≡ n.unit.body.steps
  pub inside : place < length steps

-- the fault of a place with these facts, should it be refused
pub record IsRefusalOf (n : Names) (place : ℕ) (f : Facts) (found : NumberedFault) : Type 0 where
  pub step : Step
  pub stands : slice_get n.unit.body.steps place ≡ Some step
  pub number_is : found.number ≡ fault_of n.config n.unit (shown n f) step.instruction
  pub place_is : found.place ≡ step.place

-- what the pass over a unit answers
abbrev pub IsJudged : Config → ProgramUnit → Option NumberedFault → Type 0
IsJudged c u None = (a : Annotation) × IsAnnotated c u a
IsJudged c u (Some found) = LacksRanges c u found.number found.place

-- the units before a number
abbrev pub AllBelow : Config → ℕ → (ProgramUnit → Type 0) → Type 0
AllBelow c bound P = (at : ℕ) (u : ProgramUnit) → at < bound → slice_get c.units at ≡ Some u → P u

-- what the passes over so many units answer: the earliest fault, and where there is none each of them has ranges
pub record AreJudged (c : Config) (bound : ℕ) (found : Option NumberedFault) : Type 0 where
  pub annotated : found ≡ None → AllBelow c bound (λ u. (a : Annotation) × IsAnnotated c u a)
  pub least : IsLeast found (Below (λ at u. LacksRanges c u) c.units bound)
