-- What is known at the place at which a unit is refused (own rules).
use Rattle.std.specs.Prelude.{◌≡◌, ℕ, ◌<◌, List, Some, None, length, slice_get}
use Rattle.ranges_interval.specs.declared.Interval.{Interval}
use Rattle.il_syntax.specs.declared.tree.Config.{Config}
use Rattle.il_syntax.specs.declared.tree.Unit.{Unit as ProgramUnit}
use Rattle.il_semantics.specs.Annotation.{Knowledge, Annotation, Leads, IsAnnotatedBelow, IsFirstWithout}
use Rattle.ranges_laws.specs.Pass.{Arrived, advance}
use Rattle.ranges_laws.specs.declared.facts.Facts.{Facts}
use Rattle.ranges_laws.specs.Facts.{Names, shown, facts_join}
use Rattle.ranges_laws.specs.Steps.{moves}
use Rattle.ranges_laws.specs.Prepared.{went_over}

-- The least that is known at a place: an annotation that holds before the place says so, and each that does says no less there.
pub record IsLeastAt (c : Config) (u : ProgramUnit) (place : ℕ) (k : Knowledge) : Type 0 where
  pub annotation : Annotation
  pub holds : IsAnnotatedBelow c u place annotation
  pub stands : slice_get annotation place ≡ Some (Some k)
  pub below : (a : Annotation) → IsAnnotatedBelow c u place a → Leads a place k

-- The pass is refused at a place: what arrived there is the least that is known, and no annotation holds up to and including it.
pub record IsRefusedWith (c : Config) (u : ProgramUnit) (names : Names) (place : ℕ) (arrived : Arrived Facts) : Type 0 where
  pub facts : Facts
  pub arrived_is : arrived place ≡ Some facts
  pub first : IsFirstWithout c u place
  pub least : IsLeastAt c u place (shown names facts)

-- wherever the pass comes to and is refused, no annotation holds up to and including that place
abbrev pub RefusesAtFirst : Config → ProgramUnit → Names → List Interval → Type 0
RefusesAtFirst c u names declared =
    (n : ℕ) (arrived : Arrived Facts) → n < length u.body.steps → went_over c u names declared n ≡ Some arrived
    → advance facts_join (moves names c u) n arrived ≡ None → IsRefusedWith c u names n arrived
