-- What is reported of chains of uses (own rules).
use Rattle.std.specs.Prelude.{◌≡◌, ℕ, ◌<◌, Bool, false, not, if◌then◌else◌, bytes_eq, nat_eq, List, [], ◌∷◌, ◌++◌, length, slice_get, Option, Some, None, Contains, codes, decimal}
use Rattle.il_syntax.specs.declared.tree.Config.{Config}
use Rattle.il_syntax.specs.declared.tree.Declaration.{Declaration}
use Rattle.il_syntax.specs.declared.tree.Form.{Form}
use Rattle.il_syntax.specs.declared.tree.Form.TheVariants.{Scalar as OfScalar, Array as OfArray, Block as OfBlock}
use Rattle.il_syntax.specs.declared.tree.Instruction.{Instruction}
use Rattle.il_syntax.specs.declared.tree.Instruction.TheVariants.{Invoke}
use Rattle.il_syntax.specs.declared.tree.Named.{Named}
use Rattle.il_syntax.specs.declared.tree.Operand.{Operand}
use Rattle.il_syntax.specs.declared.tree.Place.{Place}
use Rattle.il_syntax.specs.declared.tree.Step.{Step}
use Rattle.il_syntax.specs.declared.tree.Unit.{Unit as ProgramUnit}
use Rattle.il_statics.specs.Names.{Spelling, or_else, function_named, function_block_named}
use Rattle.il_statics.specs.Order.{NamesNoneTwice}
use Rattle.load_scope.specs.declared.entry.BlockType.{BlockType}
use Rattle.load_scope.specs.declared.entry.BlockType.TheVariants.{Standard, Own}
use Rattle.load_scope.specs.Views.{function_number, block_type}

-- A unit uses an own unit in a line: it calls that function there, or declares an instance of that block (2.5.1, 2.5.2).
pub data UsesIn (c : Config) (user used : ProgramUnit) (line : ℕ) : Type 0 where
  calls : (step : Step) (function : Named) (operands : List Operand) → Contains user.body.steps step → step.instruction ≡ Invoke function operands → function_named c function.name ≡ Some used → line ≡ step.place.line → UsesIn c user used line
  declares : (d : Declaration) (name : Spelling) → Contains user.variables d → d.declared.form ≡ OfBlock name → function_block_named c name ≡ Some used → line ≡ d.declared.place.line → UsesIn c user used line

-- `A uses B in line 12`
abbrev pub use_text : ProgramUnit → ProgramUnit → ℕ → List ℕ
use_text user used line = user.name.name ++ (codes " uses " ++ (used.name.name ++ (codes " in line " ++ decimal line)))

-- These are the uses by which a unit uses another through those between them, one after another, as they are reported.
abbrev pub AreUsesTold : Config → ProgramUnit → List ProgramUnit → ProgramUnit → List ℕ → Type 0
AreUsesTold c unit [] other text = (line : ℕ) × UsesIn c unit other line × (text ≡ use_text unit other line ++ codes "\n")
AreUsesTold c unit (next ∷ between) other text =
    (line : ℕ) × (rest : List ℕ) × UsesIn c unit next line × AreUsesTold c next between other rest × (text ≡ use_text unit next line ++ (codes ", " ++ rest))

-- What is reported of a unit that uses itself through others: nothing, or uses that lead from it back to it.
pub data IsRecursionTold (c : Config) (unit : ProgramUnit) (lines : List ℕ) : Type 0 where
  not_around : lines ≡ [] → IsRecursionTold c unit lines
  around : (between : List ProgramUnit) → AreUsesTold c unit between unit lines → IsRecursionTold c unit lines

-- What is reported of a unit from which a chain of too many units leads: nothing, or the uses of a chain of at least 17 units, itself counted, that
-- names none twice.
pub data IsLongChainTold (c : Config) (unit : ProgramUnit) (lines : List ℕ) : Type 0 where
  not_along : lines ≡ [] → IsLongChainTold c unit lines
  along : (between : List ProgramUnit) (last : ProgramUnit) → 14 < length between → NamesNoneTwice (unit ∷ between ++ last ∷ []) → AreUsesTold c unit between last lines → IsLongChainTold c unit lines

-- a unit of a configuration, at its heading
pub record IsUnitAt (c : Config) (place : Place) (unit : ProgramUnit) : Type 0 where
  pub among : Contains c.units unit
  pub stands : unit.place.offset ≡ place.offset

-- What is reported of a chain of uses that was refused at a place: of 36 that the unit of the place uses itself, of 46 that its chain is too long.
pub data AreToldOfChains (c : Config) (number : ℕ) (place : Place) (lines : List ℕ) : Type 0 where
  nothing : lines ≡ [] → AreToldOfChains c number place lines
  recursion : number ≡ 36 → (unit : ProgramUnit) → IsUnitAt c place unit → IsRecursionTold c unit lines → AreToldOfChains c number place lines
  long : number ≡ 46 → (unit : ProgramUnit) → IsUnitAt c place unit → IsLongChainTold c unit lines → AreToldOfChains c number place lines

-- AS THE CODE FINDS THEM

-- whether a number is there and is this one
abbrev pub is_number : ℕ → Option ℕ → Bool
is_number to None = false
is_number to (Some k) = nat_eq k to

-- whether a block is the own one of a number
abbrev pub is_own : ℕ → Option BlockType → Bool
is_own to None = false
is_own to (Some (Standard block)) = false
is_own to (Some (Own k)) = nat_eq k to

-- whether an instruction calls the function of a number
abbrev pub is_call_of : Config → ℕ → Instruction → Bool
is_call_of c to (Invoke function operands) = is_number to (function_number c function.name)
is_call_of c to _ = false

-- whether a type is the own block of a number
abbrev pub is_type_of : Config → ℕ → Form → Bool
is_type_of c to (OfBlock name) = is_own to (block_type c name)
is_type_of c to (OfScalar scalar) = false
is_type_of c to (OfArray bounds element) = false

-- the line of the first of some instructions that calls the function of a number
abbrev pub call_line : Config → ℕ → List Step → Option ℕ
call_line c to [] = None
call_line c to (s ∷ steps) = if is_call_of c to s.instruction then Some s.place.line else call_line c to steps

-- the line of the first of some declarations that declares an instance of the block of a number
abbrev pub instance_line : Config → ℕ → List Declaration → Option ℕ
instance_line c to [] = None
instance_line c to (d ∷ declarations) = if is_type_of c to d.declared.form then Some d.declared.place.line else instance_line c to declarations

-- the line in which a unit uses the unit of a number first
abbrev pub use_line : Config → ProgramUnit → ℕ → Option ℕ
use_line c unit to = or_else (call_line c to unit.body.steps) (instance_line c to unit.variables)

-- whether a unit that is there has a name
abbrev pub has_name : Spelling → Option ProgramUnit → Bool
has_name name None = false
has_name name (Some unit) = bytes_eq unit.name.name name

-- whether the unit of a number has a name
abbrev pub is_named : Config → Spelling → ℕ → Bool
is_named c name number = has_name name (slice_get c.units number)

-- whether none of the units of some numbers, and of one more, has a name
abbrev pub is_apart : Config → Spelling → List ℕ → ℕ → Bool
is_apart c name [] other = not (is_named c name other)
is_apart c name (n ∷ between) other = if is_named c name n then false else is_apart c name between other

-- the units of numbers
abbrev pub AreUnitsOf : Config → List ℕ → List ProgramUnit → Type 0
AreUnitsOf c [] [] = Unit {0}
AreUnitsOf c (n ∷ numbers) (unit ∷ units) = (slice_get c.units n ≡ Some unit) × AreUnitsOf c numbers units
AreUnitsOf c _ _ = ⊥

-- the uses by which a unit uses the unit of a number, through others
pub record AreToldBetween (c : Config) (unit : ProgramUnit) (between : List ℕ) (other : ℕ) (text : List ℕ) : Type 0 where
  pub units : List ProgramUnit
  pub last : ProgramUnit
  pub many : length units ≡ length between
  pub are_units : AreUnitsOf c between units
  pub is_last : slice_get c.units other ≡ Some last
  pub apart : NamesNoneTwice (units ++ last ∷ [])
  pub are : AreUsesTold c unit units last text

-- the same after another text
abbrev pub AreAdded : Config → ProgramUnit → List ℕ → ℕ → List ℕ → List ℕ → Type 0
AreAdded c unit between other old new = (told : List ℕ) × (new ≡ old ++ told) × AreToldBetween c unit between other told
