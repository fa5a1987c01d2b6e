-- What is known at the places of a unit, and what a witness writes of it (own rules).
use Rattle.std.specs.Prelude.{◌≡◌, ℕ, ◌+◌, List, [], ◌∷◌, ◌++◌, length, slice_get, Option, Some, None, option_map, refl}
use Rattle.std.specs.Coded.{Coded, code_by, coded×, coded_list, coded_option}
use Rattle.ranges_interval.specs.contracts.Interval as interval
use Rattle.il_syntax.specs.declared.tree.Config.{Config}
use Rattle.il_syntax.specs.declared.tree.Unit.{Unit as ProgramUnit}
use Rattle.il_syntax.specs.declared.tree.Step.{Step}
use Rattle.ranges_interval.specs.declared.Interval.{Interval}
use Rattle.base_maps.specs.NameMap.{NameMap, code}
use Rattle.il_semantics.specs.declared.known.Known.{Known}
use Rattle.il_semantics.specs.declared.known.KnownDeferred.{KnownDeferred}
use Rattle.il_semantics.specs.contracts.known.Known as known_row
use Rattle.il_semantics.specs.contracts.known.KnownDeferred as deferred_row
use Rattle.il_semantics.specs.Annotation.{Knowledge, knowledge, Annotation, IsAnnotatedBelow, IsAnnotated}
use Rattle.ranges_laws.specs.declared.facts.Facts.{Facts}
use Rattle.ranges_laws.specs.Facts.{Names, shown}
use Rattle.il_statics.specs.Least.{NumberedFault}
use Rattle.ranges_pass.specs.Lacking.{IsLeastAt, LacksRanges}

-- WHAT IS KNOWN

-- What is known at a place: the least, or nothing where nothing reaches it, as an annotation that holds before the place has it.
abbrev pub IsKnownAt : Config → ProgramUnit → ℕ → Option Knowledge → Type 0
IsKnownAt c u place None = (a : Annotation) × IsAnnotatedBelow c u place a × (slice_get a place ≡ Some None)
IsKnownAt c u place (Some k) = IsLeastAt c u place k

-- What is known at each of the first places of a unit.
abbrev pub AreKnown : Config → ProgramUnit → List (Option Knowledge) → Type 0
AreKnown c u known = (place : ℕ) (k : Option Knowledge) → slice_get known place ≡ Some k → IsKnownAt c u place k

-- What is known at each instruction of a unit with an annotation, and of one without at those up to and including the first that has none.
abbrev pub AreKnownTo : Config → ProgramUnit → List (Option Knowledge) → Option NumberedFault → Type 0
AreKnownTo c u known None = AreKnown c u known × (length known ≡ length u.body.steps) × ((a : Annotation) × IsAnnotated c u a)
AreKnownTo c u known (Some found) = AreKnown c u known × ((lacks : LacksRanges c u found.number found.place) × (length known ≡ lacks.at + 1))

-- WHAT IS WRITTEN

-- of instructions with what is known at each, as far as that goes
abbrev pub steps_text : (Step → Option Knowledge → List ℕ) → List Step → List (Option Knowledge) → List ℕ
steps_text shows [] known = []
steps_text shows (s ∷ steps) [] = []
steps_text shows (s ∷ steps) (k ∷ known) = shows s k ++ steps_text shows steps known

-- What a witness wrote of a unit after a text.
abbrev pub IsShown : Config → ProgramUnit → (Step → Option Knowledge → List ℕ) → List ℕ → List ℕ → Option NumberedFault → Type 0
IsShown c u shows old new found = (known : List (Option Knowledge)) × AreKnownTo c u known found × (new ≡ old ++ steps_text shows u.body.steps known)

-- PARTS

-- of an instruction, if it is there
abbrev pub step_text : (Step → Option Knowledge → List ℕ) → Option Knowledge → Option Step → List ℕ
step_text shows k None = []
step_text shows k (Some s) = shows s k

-- of a place, by the facts there
abbrev pub place_text : (Step → Option Knowledge → List ℕ) → Names → List Step → ℕ → Option Facts → List ℕ
place_text shows n steps place f = step_text shows (option_map (shown n) f) (slice_get steps place)

-- the code of what is known
abbrev pub knowledge_code : Coded Knowledge
knowledge_code =
    code_by (NameMap Interval × (Option Known × List KnownDeferred)) (coded× (code interval.the_row.coded) (coded× (coded_option known_row.the_row.coded) (coded_list deferred_row.the_row.coded)))
    (λ k. (k.variables, (k.result, k.deferred))) (λ c. knowledge c.0 c.1.0 c.1.1) (λ _. refl)
