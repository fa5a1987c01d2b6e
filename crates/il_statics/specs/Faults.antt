-- Which rules a configuration breaks, and which fault is named.
use Rattle.std.specs.Prelude.{◌≡◌, ℕ, ◌<◌, ◌≤◌}
use Rattle.il_syntax.specs.declared.tree.Config.{Config}
use Rattle.il_syntax.specs.declared.tree.Place.{Place}
use Rattle.il_syntax.specs.declared.fault.Refusal.{Refusal}
use Rattle.il_syntax.specs.declared.fault.Refusal.TheVariants.{Fault, Memory}
use Rattle.il_statics.specs.Declarations.{IsDuplicate, IsUnknown, HasEmptyRange, IsInitialOutside, IsBadTask, HasOtherType}
use Rattle.il_statics.specs.Types.{IsTypingBroken, HasUnknownLabel, JumpsBackward, HasTwoWriters, IsUnreached}
use Rattle.il_statics.specs.Order.{IsRecursive, HasLongChain, HasTooManySlots}

-- a rule of declarations is broken, by its fault's number and at a place (own rule)
pub data BreaksDeclarations (config : Config) (number : ℕ) (place : Place) : Type 0 where
  duplicate : number ≡ 20 → IsDuplicate config place → BreaksDeclarations config number place
  unknown : number ≡ 21 → IsUnknown config place → BreaksDeclarations config number place
  empty_range : number ≡ 22 → HasEmptyRange config place → BreaksDeclarations config number place
  initial_outside : number ≡ 23 → IsInitialOutside config place → BreaksDeclarations config number place
  bad_task : number ≡ 24 → IsBadTask config place → BreaksDeclarations config number place
  other_type : number ≡ 25 → HasOtherType config place → BreaksDeclarations config number place

-- a rule of types is broken; those of one instruction are 30 to 33 and 37 (own rule)
pub data BreaksTypes (config : Config) (number : ℕ) (place : Place) : Type 0 where
  of_instruction : IsTypingBroken config number place → BreaksTypes config number place
  unknown_label : number ≡ 34 → HasUnknownLabel config place → BreaksTypes config number place
  backward_jump : number ≡ 35 → JumpsBackward config place → BreaksTypes config number place
  two_writers : number ≡ 38 → HasTwoWriters config place → BreaksTypes config number place
  unreached : number ≡ 39 → IsUnreached config place → BreaksTypes config number place

-- a rule of the order of units or of slots is broken (own rule)
pub data BreaksOrder (config : Config) (number : ℕ) (place : Place) : Type 0 where
  recursive : number ≡ 36 → IsRecursive config place → BreaksOrder config number place
  long_chain : number ≡ 46 → HasLongChain config place → BreaksOrder config number place
  too_many_slots : number ≡ 12 → HasTooManySlots config place → BreaksOrder config number place

-- the phases that check a tree, in their order
pub data Phase : Type 0 where
  Declaring Typing Ordering : Phase

-- a phase's rule of this number is broken at a place
abbrev pub Broken : Phase → Config → ℕ → Place → Type 0
Broken Declaring config number place = BreaksDeclarations config number place
Broken Typing config number place = BreaksTypes config number place
Broken Ordering config number place = BreaksOrder config number place

-- a fault comes no later than another: at an earlier place, or at one place with no greater number
pub data IsNoLater (number : ℕ) (place : Place) (other_number : ℕ) (other_place : Place) : Type 0 where
  earlier : place.offset < other_place.offset → IsNoLater number place other_number other_place
  same_place : place.offset ≡ other_place.offset → number ≤ other_number → IsNoLater number place other_number other_place

-- A rule says which fault numbers are broken at which places: `ℕ → Place → Type 0`.

-- the fault that is named: at the earliest broken place, at one place the lowest number
pub record IsFirst (rule : ℕ → Place → Type 0) (number : ℕ) (place : Place) : Type 0 where
  pub broken : rule number place
  pub first : (other_number : ℕ) (other_place : Place) → rule other_number other_place → IsNoLater number place other_number other_place

-- nothing of a rule is broken
abbrev pub HasNoFault : (ℕ → Place → Type 0) → Type 0
HasNoFault rule = (number : ℕ) (place : Place) → ¬ rule number place

-- a refusal names the first fault; out of memory says nothing of the text
abbrev pub IsRefusedBy : (ℕ → Place → Type 0) → Refusal → Type 0
IsRefusedBy rule (Fault number place) = IsFirst rule number place
IsRefusedBy rule Memory = Unit {0}

-- where a fault is named something is broken, so that a phase with memory accepts exactly where nothing is
abbrev pub IsExact : (ℕ → Place → Type 0) → Type 0
IsExact rule = (number : ℕ) (place : Place) → IsRefusedBy rule (Fault number place) → ¬ HasNoFault rule

-- two faults that are both first have one number, and their places one offset
abbrev pub IsOnlyFirst : (ℕ → Place → Type 0) → Type 0
IsOnlyFirst rule = (number other_number : ℕ) (place other_place : Place) → IsFirst rule number place → IsFirst rule other_number other_place → (number ≡ other_number) × (place.offset ≡ other_place.offset)
