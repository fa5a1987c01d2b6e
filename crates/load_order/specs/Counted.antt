-- Slots, counted up to the limit of a task.
use Rattle.std.specs.Prelude.{ℕ, zero, suc, ◌+◌, ◌*◌, ◌-ℤ◌, nat_abs, min, nat_lt, Bool, false, ◌&&◌, if◌then◌else◌, List, [], ◌∷◌, ◌++◌, length, map, Option, Some, None, slice_get}
use Rattle.il_syntax.specs.declared.tree.Config.{Config}
use Rattle.il_syntax.specs.declared.tree.Unit.{Unit as ProgramUnit}
use Rattle.il_syntax.specs.declared.tree.Declaration.{Declaration}
use Rattle.il_syntax.specs.declared.tree.ProgramLine.{ProgramLine}
use Rattle.il_syntax.specs.declared.tree.Form.{Form}
use Rattle.il_statics.specs.Names.{is_function, standard_words}
use Rattle.load_scope.specs.declared.entry.BlockType.{BlockType}
use Rattle.load_scope.specs.declared.entry.BlockType.TheVariants.{Standard, Own}
use Rattle.il_statics.specs.declared.names.StandardBlock.{StandardBlock}
use Rattle.load_scope.specs.declared.entry.VariableType.{VariableType}
use Rattle.load_scope.specs.declared.entry.VariableType.TheVariants.{Scalar, Array, Instance}
use Rattle.load_scope.specs.Views.{passes, type_of, program_number}
use Rattle.load_order.specs.declared.variables.Variables.{Variables}
use Rattle.load_order.specs.Related.{holds}
use Rattle.il_statics.specs.declared.limits.TheConstants.{MOST_TASK_SLOTS}

-- a number of slots, at most one more than a task may have
abbrev pub capped : ℕ → ℕ
capped slots = min slots 4097

-- the slots of a standard block (2.5.2.3)
abbrev pub standard_slots : StandardBlock → ℕ
standard_slots block = capped (length (standard_words block).inputs + length (standard_words block).outputs + length (standard_words block).inner)

-- a number of a list; one that is not there is 0
abbrev pub number_in : Option ℕ → ℕ
number_in None = 0
number_in (Some number) = number

abbrev pub number_at : List ℕ → ℕ → ℕ
number_at counted at = number_in (slice_get counted at)

-- the slots of an instance, down to a depth, with those of the own blocks down to the depth before
abbrev pub block_count : List ℕ → Option BlockType → ℕ
block_count counted None = 0
block_count counted (Some (Standard block)) = standard_slots block
block_count counted (Some (Own number)) = number_at counted number

abbrev pub instance_count : ℕ → List ℕ → Option BlockType → ℕ
instance_count zero counted block = 0
instance_count (suc depth) counted block = block_count counted block

-- those of a type
abbrev pub type_count : ℕ → List ℕ → VariableType → ℕ
type_count depth counted (Scalar scalar) = 1
type_count depth counted (Array bounds element) = capped (nat_abs (bounds.upper -ℤ bounds.lower) + 1)
type_count depth counted (Instance block) = instance_count depth counted block

abbrev pub form_count : Config → ℕ → List ℕ → Form → ℕ
form_count config depth counted form = type_count depth counted (type_of config form)

-- the variables of a declaration
abbrev pub listed : Config → Declaration → Variables
listed config d = record { count = length d.names; declared = type_of config d.declared.form }

abbrev pub all_listed : Config → List Declaration → List Variables
all_listed config declarations = map (λ d. listed config d) declarations

-- those of a unit: its inputs, outputs and variables
abbrev pub unit_listed : Config → ProgramUnit → List Variables
unit_listed config unit = all_listed config unit.inputs ++ all_listed config unit.outputs ++ all_listed config unit.variables

-- those of each unit
abbrev pub units_listed : Config → List (List Variables)
units_listed config = map (λ unit. unit_listed config unit) config.units

-- the slots of variables, added to a number
abbrev pub with_variables : ℕ → List ℕ → ℕ → List Variables → ℕ
with_variables depth counted total [] = total
with_variables depth counted total (v ∷ vs) = with_variables depth counted (capped (total + capped (v.count * type_count depth counted v.declared))) vs

-- the slots of declared variables, added to a number
abbrev pub with_declared : Config → ℕ → List ℕ → ℕ → List Declaration → ℕ
with_declared config depth counted total declarations = with_variables depth counted total (all_listed config declarations)

-- those of all units, with instances in instances down to a depth
abbrev pub unit_counts : ℕ → List ℕ → List (List Variables) → List ℕ
unit_counts depth counted units = map (λ variables. with_variables depth counted 0 variables) units

abbrev pub counts_of : List (List Variables) → ℕ → List ℕ
counts_of units zero = []
counts_of units (suc depth) = unit_counts depth (counts_of units depth) units

abbrev pub counts : Config → ℕ → List ℕ
counts config depth = counts_of (units_listed config) depth

-- the slots of a unit that is a function which a program reaches; its result takes one
abbrev pub function_count : Config → List (List Bool) → List ℕ → ℕ → ℕ → ℕ
function_count config reached counted program at = if holds reached program at && passes is_function (slice_get config.units at) then capped (number_at counted at + 1) else 0

-- the slots of a program, and of the functions with a number below a bound that it reaches
abbrev pub task_count : Config → List (List Bool) → List ℕ → ℕ → ℕ → ℕ
task_count config reached counted program zero = number_at counted program
task_count config reached counted program (suc at) = capped (task_count config reached counted program at + function_count config reached counted program at)

-- whether a PROGRAM line's program needs too many slots
abbrev pub is_over_of : Config → List (List Bool) → List ℕ → Option ℕ → Bool
is_over_of config reached counted None = false
is_over_of config reached counted (Some program) = nat_lt MOST_TASK_SLOTS (task_count config reached counted program (length config.units))

abbrev pub is_over : Config → List (List Bool) → List ℕ → ProgramLine → Bool
is_over config reached counted line = is_over_of config reached counted (program_number config line.program.name)
