-- The numbers of the units that a unit uses.
use Rattle.std.specs.Prelude.{ℕ, Bool, true, false, ◌&&◌, ◌||◌, if◌then◌else◌, nat_eq, List, [], ◌∷◌, ◌++◌, length, map, flat_map, Option, Some, None}
use Rattle.il_syntax.specs.declared.tree.Config.{Config}
use Rattle.il_syntax.specs.declared.tree.Unit.{Unit as ProgramUnit}
use Rattle.il_syntax.specs.declared.tree.Step.{Step}
use Rattle.il_syntax.specs.declared.tree.Declaration.{Declaration}
use Rattle.il_syntax.specs.declared.tree.Named.{Named}
use Rattle.il_syntax.specs.declared.tree.Form.{Form}
use Rattle.il_syntax.specs.declared.tree.Form.TheVariants.{Scalar as OfScalar, Array as OfArray, Block as OfBlock}
use Rattle.il_syntax.specs.declared.tree.Instruction.{Instruction}
use Rattle.il_syntax.specs.declared.tree.Instruction.TheVariants.{Load, Store, Not, Operate, Defer, Evaluate, Jump, Return, Call, Invoke}
use Rattle.load_scope.specs.declared.entry.BlockType.{BlockType}
use Rattle.load_scope.specs.declared.entry.BlockType.TheVariants.{Standard, Own}
use Rattle.load_scope.specs.Views.{function_number, block_type}
use Rattle.load_order.specs.Related.{tabulate}

-- a number, if there is one
abbrev pub numbers : Option ℕ → List ℕ
numbers None = []
numbers (Some number) = number ∷ []

-- the number of an own block
abbrev pub own_number : Option BlockType → Option ℕ
own_number None = None
own_number (Some (Standard block)) = None
own_number (Some (Own number)) = Some number

-- the function that an instruction calls (2.5.1)
abbrev pub called : Config → Instruction → List ℕ
called config (Load negated operand) = []
called config (Store store target) = []
called config Not = []
called config (Operate operator operand) = []
called config (Defer operator first) = []
called config Evaluate = []
called config (Jump condition label) = []
called config (Return condition) = []
called config (Call condition instance arguments) = []
called config (Invoke function operands) = numbers (function_number config function.name)

-- the own block of a declared instance (2.5.2)
abbrev pub declared_in : Config → Form → List ℕ
declared_in config (OfScalar scalar) = []
declared_in config (OfArray bounds element) = []
declared_in config (OfBlock name) = numbers (own_number (block_type config name))

-- the units that instructions call
abbrev pub called_by : Config → List Step → List ℕ
called_by config steps = flat_map (λ s. called config s.instruction) steps

-- whether names are there; a text spells no declaration without a name
abbrev pub has_name : List Named → Bool
has_name [] = false
has_name (name ∷ names) = true

-- whether each declaration of units' variables has a name
abbrev pub all_named : List Declaration → Bool
all_named [] = true
all_named (d ∷ ds) = has_name d.names && all_named ds

abbrev pub are_named : List ProgramUnit → Bool
are_named [] = true
are_named (u ∷ us) = all_named u.variables && are_named us

-- the own block of a declaration, one without a name too where these count
abbrev pub counted_in : Config → Bool → Declaration → List ℕ
counted_in config nameless d = if nameless || has_name d.names then declared_in config d.declared.form else []

-- the units of which instances are declared
abbrev pub declared_by : Config → Bool → List Declaration → List ℕ
declared_by config nameless declarations = flat_map (λ d. counted_in config nameless d) declarations

-- all that a unit uses
abbrev pub used_by : Config → Bool → ProgramUnit → List ℕ
used_by config nameless unit = called_by config unit.body.steps ++ declared_by config nameless unit.variables

-- whether a number is one of a list
abbrev pub is_among : List ℕ → ℕ → Bool
is_among [] number = false
is_among (n ∷ ns) number = nat_eq n number || is_among ns number

-- which units a unit uses
abbrev pub uses_row : Config → Bool → ProgramUnit → List Bool
uses_row config nameless unit = tabulate (length config.units) (λ to. is_among (used_by config nameless unit) to)

-- which units use which
abbrev pub uses : Config → Bool → List (List Bool)
uses config nameless = map (λ unit. uses_row config nameless unit) config.units
