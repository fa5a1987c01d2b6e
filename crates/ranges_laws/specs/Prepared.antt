-- What the laws of the pass ask of a unit (own rules): what earlier phases have checked.
use Rattle.std.specs.Prelude.{◌≡◌, ℕ, ◌<◌, List, [], ◌∷◌, length, Option, Some, None}
use Rattle.ranges_interval.specs.declared.Interval.{Interval}
use Rattle.il_syntax.specs.declared.tree.Named.{Named}
use Rattle.il_syntax.specs.declared.tree.Place.{Place}
use Rattle.il_syntax.specs.declared.tree.Scalar.{Scalar}
use Rattle.il_syntax.specs.declared.tree.Form.TheVariants.{Scalar as ScalarForm}
use Rattle.il_syntax.specs.declared.tree.Reference.{Reference}
use Rattle.il_syntax.specs.declared.tree.Reference.TheVariants.{Variable}
use Rattle.il_syntax.specs.declared.tree.Argument.{Argument}
use Rattle.il_syntax.specs.declared.tree.Argument.TheVariants.{Input, Output}
use Rattle.il_syntax.specs.declared.tree.Step.{Step}
use Rattle.il_syntax.specs.declared.tree.Instruction.{Instruction}
use Rattle.il_syntax.specs.declared.tree.Instruction.TheVariants.{Store, Call}
use Rattle.il_syntax.specs.declared.tree.Unit.{Unit as ProgramUnit}
use Rattle.il_syntax.specs.declared.tree.UnitKind.TheVariants.{Function}
use Rattle.il_syntax.specs.declared.tree.Config.{Config}
use Rattle.il_statics.specs.Names.{entry_of, block_variables, function_named}
use Rattle.il_statics.specs.Types.{label_place, StandsAt, JumpsAt}
use Rattle.base_maps.specs.NameMap.{Text, get}
use Rattle.il_semantics.specs.Meaning.{Denotation, Constant, Direct, Numbered, Indexed, Inside, Unknown, denotation, outputs_of}
use Rattle.il_semantics.specs.Tests.{Test, test_at}
use Rattle.il_semantics.specs.Annotation.{declared_range, declared_known, range}
use Rattle.ranges_laws.specs.Pass.{Arrived, passed}
use Rattle.ranges_laws.specs.declared.facts.Facts.{Facts}
use Rattle.ranges_laws.specs.Facts.{Names, facts, facts_join, IsRowOf, row_at, IsFineKnown}
use Rattle.ranges_laws.specs.Steps.{moves}

-- the ranges that a denotation declares have a number
abbrev pub IsFineDenotation : Denotation → Type 0
IsFineDenotation (Constant l) = Unit {0}
IsFineDenotation (Direct name s) = Unit {0}
IsFineDenotation (Numbered name bounds element z) = IsFineKnown (declared_known element)
IsFineDenotation (Indexed name bounds element variable s) = IsFineKnown (declared_known element)
IsFineDenotation (Inside instance word s) = IsFineKnown (declared_known s)
IsFineDenotation Unknown = Unit {0}

-- a ranged scalar has a number
abbrev pub HasNumber : Names → Denotation → Type 0
HasNumber names (Direct name s) = (i : Interval) → range s ≡ Some i → (n : ℕ) × (get names.numbers name ≡ Some n)
HasNumber names _ = Unit {0}

-- the same of each target of an output
abbrev pub HaveNumbers : Names → Config → ProgramUnit → List Argument → Type 0
HaveNumbers names c u [] = Unit {0}
HaveNumbers names c u (Input word o ∷ more) = HaveNumbers names c u more
HaveNumbers names c u (Output word to ∷ more) = HasNumber names (denotation c u (Variable to.name)) × HaveNumbers names c u more

-- each ranged scalar into which it stores has a number
abbrev pub IsReady : Names → Config → ProgramUnit → Instruction → Type 0
IsReady names c u (Store kind to) = HasNumber names (denotation c u to.reference)
IsReady names c u (Call condition instance arguments) = HaveNumbers names c u arguments
IsReady names c u _ = Unit {0}

-- the ranges that blocks and functions declare have a number
pub record AreFineUnits (c : Config) : Type 0 where
  pub outputs : (block word : Text) (s : Scalar) → entry_of (outputs_of (block_variables c block)) word ≡ Some (ScalarForm s) → IsFineKnown (declared_known s)
  pub results : (name : Text) (own : ProgramUnit) (s : Scalar) (place : Place) → function_named c name ≡ Some own → own.kind ≡ Function s place → IsFineKnown (declared_known s)

pub record IsPrepared (c : Config) (u : ProgramUnit) (names : Names) (declared : List Interval) : Type 0 where
  -- each number has the declared range of its name
  pub row : IsRowOf names declared
  pub each : (name : Text) → row_at names declared name ≡ declared_range c u name
  -- no declared range is empty
  pub denotes : (r : Reference) → IsFineDenotation (denotation c u r)
  pub units : AreFineUnits c
  pub ready : (at : ℕ) (s : Step) → StandsAt u.body at s → IsReady names c u s.instruction
  -- each variable that is tested has a number
  pub tested : (at : ℕ) (t : Test) → test_at c u at ≡ Some t → (n : ℕ) × (get names.numbers t.name ≡ Some n)
  -- jumps go forward
  pub forward : (at to : ℕ) (s : Step) (label : Named) → JumpsAt u.body at s label → label_place u.body label.name ≡ Some to → at < to

-- at the entry of a body
abbrev pub entry : List Interval → Facts
entry declared = facts declared None []

-- the pass went over so many places
abbrev pub went_over : Config → ProgramUnit → Names → List Interval → ℕ → Option (Arrived Facts)
went_over c u names declared = passed facts_join (moves names c u) (entry declared)

-- the pass goes over each place of a unit, and this arrives
abbrev pub IsPassed : Config → ProgramUnit → Names → List Interval → Arrived Facts → Type 0
IsPassed c u names declared arrived = went_over c u names declared (length u.body.steps) ≡ Some arrived
