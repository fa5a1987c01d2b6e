-- Which units use which, and what breaks the rules of their order and of slots.
use Rattle.std.specs.Prelude.{◌≡◌, ◌≢◌, ℕ, zero, suc, ◌+◌, ◌<◌, ◌-ℤ◌, nat_abs, IsTrue, List, [], ◌∷◌, length, Option, Some, None, Contains, All, AllPairs, sum_by}
use Rattle.il_syntax.specs.declared.tree.Config.{Config}
use Rattle.il_syntax.specs.declared.tree.Unit.{Unit as ProgramUnit}
use Rattle.il_syntax.specs.declared.tree.Step.{Step}
use Rattle.il_syntax.specs.declared.tree.ProgramLine.{ProgramLine}
use Rattle.il_syntax.specs.declared.tree.Declaration.{Declaration}
use Rattle.il_syntax.specs.declared.tree.Named.{Named}
use Rattle.il_syntax.specs.declared.tree.Place.{Place}
use Rattle.il_syntax.specs.declared.tree.Operand.{Operand}
use Rattle.il_syntax.specs.declared.tree.Form.{Form}
use Rattle.il_syntax.specs.declared.tree.Form.TheVariants.{Scalar as OfScalar, Array as OfArray, Block as OfBlock}
use Rattle.il_syntax.specs.declared.tree.Instruction.TheVariants.{Invoke}
use Rattle.il_statics.specs.Names.{Spelling, BlockVariables, block_variables, own_block_variables, named_forms, is_function, function_named, function_block_named, program_named}
use Rattle.il_statics.specs.declared.limits.TheConstants.{MOST_TASK_SLOTS, LONGEST_CHAIN}

-- USES

-- a unit uses an own unit: it calls that function, or declares an instance of that block (2.5.1, 2.5.2)
pub data Uses (config : Config) (user used : ProgramUnit) : Type 0 where
  calls : (step : Step) (function : Named) (operands : List Operand) → Contains user.body.steps step → step.instruction ≡ Invoke function operands → function_named config function.name ≡ Some used → Uses config user used
  declares : (d : Declaration) (name : Spelling) → Contains user.variables d → d.declared.form ≡ OfBlock name → function_block_named config name ≡ Some used → Uses config user used

-- a chain of uses: from a unit on, each uses the next (2.5)
abbrev pub IsChain : Config → ProgramUnit → List ProgramUnit → Type 0
IsChain config unit [] = Unit {0}
IsChain config unit (next ∷ chain) = Uses config unit next × IsChain config next chain

-- a unit uses another through those between them, one after another
abbrev pub UsesThrough : Config → ProgramUnit → List ProgramUnit → ProgramUnit → Type 0
UsesThrough config unit [] other = Uses config unit other
UsesThrough config unit (next ∷ between) other = Uses config unit next × UsesThrough config next between other

-- a unit uses another, directly or through others (2.5)
abbrev pub Reaches : Config → ProgramUnit → ProgramUnit → Type 0
Reaches config unit other = (between : List ProgramUnit) × UsesThrough config unit between other

-- no unit is named twice
abbrev pub NamesNoneTwice : List ProgramUnit → Type 0
NamesNoneTwice units = AllPairs (λ a b. a.name.name ≢ b.name.name) units

-- 36: a unit that reaches itself, at its heading (2.5)
pub data IsRecursive (config : Config) (place : Place) : Type 0 where
  recursive : (unit : ProgramUnit) → Contains config.units unit → Reaches config unit unit → place ≡ unit.place → IsRecursive config place

-- 46: a unit with a chain of uses that, itself counted, has more than 16 units and names none twice, at its heading (own rule)
pub data HasLongChain (config : Config) (place : Place) : Type 0 where
  long_chain : (unit : ProgramUnit) (chain : List ProgramUnit) → Contains config.units unit → IsChain config unit chain → NamesNoneTwice (unit ∷ chain) → LONGEST_CHAIN < length (unit ∷ chain) → place ≡ unit.place → HasLongChain config place

-- SLOTS

-- the slots of a type, with those of each block: a scalar takes one, an array one for each element (own rule)
abbrev pub form_slots : (Spelling → ℕ) → Form → ℕ
form_slots block (OfScalar scalar) = 1
form_slots block (OfArray bounds element) = nat_abs (bounds.upper -ℤ bounds.lower) + 1
form_slots block (OfBlock name) = block name

-- the slots of variables, with those of each block
abbrev pub variable_slots : (Spelling → ℕ) → List (Spelling × Form) → ℕ
variable_slots block variables = sum_by (λ v. form_slots block v.1) variables

-- the slots of a block's variables; a name of no block takes none
abbrev pub known_block_slots : (Spelling → ℕ) → Option BlockVariables → ℕ
known_block_slots block None = 0
known_block_slots block (Some b) = variable_slots block b.inputs + variable_slots block b.outputs + variable_slots block b.inner

-- the slots of an instance, those of its variables, down to a depth of instances in instances (own rule)
unfoldable pub block_slots : Config → ℕ → Spelling → ℕ
block_slots config zero name = 0
block_slots config (suc depth) name = known_block_slots (λ n. block_slots config depth n) (block_variables config name)

-- the slots of an instance: no chain of instances is longer than the units, and a standard block
abbrev pub instance_slots : Config → Spelling → ℕ
instance_slots config name = block_slots config (length config.units + 1) name

-- the slots of a unit: its inputs, outputs and variables; externals take none (own rule)
abbrev pub unit_slots : Config → ProgramUnit → ℕ
unit_slots config unit = known_block_slots (λ n. instance_slots config n) (Some (own_block_variables unit))

-- the slots of a function: its result takes one (own rule)
abbrev pub function_slots : Config → ProgramUnit → ℕ
function_slots config unit = unit_slots config unit + 1

-- the slots of the globals; the sizes take none (own rule)
abbrev pub global_slots : Config → ℕ
global_slots config = variable_slots (λ n. instance_slots config n) (named_forms config.globals)

-- functions that a program reaches, each once
pub record AreFunctionsOf (config : Config) (program : ProgramUnit) (functions : List ProgramUnit) : Type 0 where
  pub each : All (λ f. IsTrue (is_function f) × Reaches config program f) functions
  pub once : NamesNoneTwice functions

-- 12: more than 4096 slots of a task, at its PROGRAM line, or of the globals, at their VAR_GLOBAL (own rule)
pub data HasTooManySlots (config : Config) (place : Place) : Type 0 where
  -- the program's, and once each those of functions that it reaches
  of_task : (line : ProgramLine) (program : ProgramUnit) (functions : List ProgramUnit) → Contains config.programs line → program_named config line.program.name ≡ Some program → AreFunctionsOf config program functions → MOST_TASK_SLOTS < unit_slots config program + sum_by (function_slots config) functions → place ≡ line.place → HasTooManySlots config place
  of_globals : MOST_TASK_SLOTS < global_slots config → config.globals_place ≡ Some place → HasTooManySlots config place
