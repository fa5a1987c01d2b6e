-- The rules of types by unit, place and instruction (own rules).
use Rattle.std.specs.Prelude.{◌≡◌, ◌≢◌, ℕ, ◌≤◌, nat_lt, List, [], ◌∷◌, ◌++◌, Option, Some, None, Contains, length}
use Rattle.il_syntax.specs.declared.tree.Config.{Config}
use Rattle.il_syntax.specs.declared.tree.Unit.{Unit as ProgramUnit}
use Rattle.il_syntax.specs.declared.tree.Body.{Body}
use Rattle.il_syntax.specs.declared.tree.Step.{Step}
use Rattle.il_syntax.specs.declared.tree.Named.{Named}
use Rattle.il_syntax.specs.declared.tree.Place.{Place}
use Rattle.il_syntax.specs.declared.tree.Condition.{Condition}
use Rattle.il_syntax.specs.declared.tree.Elementary.{Elementary}
use Rattle.il_syntax.specs.declared.tree.Instruction.{Instruction}
use Rattle.il_syntax.specs.declared.tree.Instruction.TheVariants.{Jump}
use Rattle.il_statics.specs.Names.{Spelling}
use Rattle.il_statics.specs.Declarations.{unless}
use Rattle.il_statics.specs.Types.{Deferred, opener, typing_numbers, label_place, IsReached, IsResultAt, IsDeferredAt, HasTwoWriters, StoresAt, TaskWrites}
use Rattle.il_statics.specs.Least.{Below, Either}
use Rattle.load_types.specs.declared.arrival.Arrival.{Arrival}
use Rattle.load_types.specs.declared.arrival.Arrival.TheVariants.{Unreached, Reached}
use Rattle.load_types.specs.Arrivals.{result_at}

-- a rule of types other than 38 is broken by the instruction at a place of a unit
pub data BreaksAt (config : Config) (unit : ProgramUnit) (at : ℕ) (step : Step) (number : ℕ) : Type 0 where
  by_types : (before : Option Elementary) (deferred : Option Deferred) → IsResultAt config unit at before → IsDeferredAt config unit (opener unit.body at) deferred → Contains (typing_numbers config unit step.instruction before deferred) number → BreaksAt config unit at step number
  by_unknown_label : (condition : Condition) (label : Named) → step.instruction ≡ Jump condition label → label_place unit.body label.name ≡ None → number ≡ 34 → BreaksAt config unit at step number
  by_backward_jump : (condition : Condition) (label : Named) (to : ℕ) → step.instruction ≡ Jump condition label → label_place unit.body label.name ≡ Some to → to ≤ at → number ≡ 35 → BreaksAt config unit at step number
  by_unreached : ¬ IsReached unit.body at → number ≡ 39 → BreaksAt config unit at step number

-- the same at its place in the text
abbrev pub Breaks : Config → ProgramUnit → ℕ → Step → ℕ → Place → Type 0
Breaks config unit at step number place = BreaksAt config unit at step number × (place ≡ step.place)

-- a unit breaks a rule other than 38
abbrev pub UnitBreaks : Config → ProgramUnit → ℕ → Place → Type 0
UnitBreaks config unit = Below (Breaks config unit) unit.body.steps (length unit.body.steps)

-- some unit does
abbrev pub AllUnitsBreak : Config → ℕ → Place → Type 0
AllUnitsBreak config = Below (λ at unit. UnitBreaks config unit) config.units (length config.units)

-- 38 is broken
abbrev pub HasWriters : Config → ℕ → Place → Type 0
HasWriters config number place = (number ≡ 38) × HasTwoWriters config place

-- two tasks write a global, at some store into it
pub record IsStoreOfTwo (config : Config) (place : Place) : Type 0 where
  pub name : Spelling
  pub first : Spelling
  pub second : Spelling
  pub unit : ProgramUnit
  pub written : Contains config.units unit
  pub stores : StoresAt unit name place
  pub one : TaskWrites config first name
  pub other : TaskWrites config second name
  pub differ : first ≢ second

-- the same as a fault
abbrev pub HasStoreOfTwo : Config → ℕ → Place → Type 0
HasStoreOfTwo config number place = (number ≡ 38) × IsStoreOfTwo config place

-- some unit breaks a rule, or 38 is broken
abbrev pub AnyBreaks : Config → ℕ → Place → Type 0
AnyBreaks config = Either (AllUnitsBreak config) (HasWriters config)

-- what a jump to this place breaks
abbrev pub label_numbers : ℕ → Option ℕ → List ℕ
label_numbers at None = 34 ∷ []
label_numbers at (Some to) = unless (nat_lt at to) 35

-- what an instruction breaks of 34 and 35
abbrev pub jump_numbers : Body → ℕ → Instruction → List ℕ
jump_numbers body at (Jump condition label) = label_numbers at (label_place body label.name)
jump_numbers body at _ = []

-- 39 where nothing leads to a place
abbrev pub reached_numbers : Arrival → List ℕ
reached_numbers Unreached = 39 ∷ []
reached_numbers (Reached result) = []

-- what the instruction at a place breaks, but for 38, with what arrives and what waits for a `)`
abbrev pub place_numbers : Config → ProgramUnit → ℕ → Instruction → Arrival → Option Deferred → List ℕ
place_numbers config unit at instruction arrival deferred =
    typing_numbers config unit instruction (result_at arrival) deferred ++ (jump_numbers unit.body at instruction ++ reached_numbers arrival)
