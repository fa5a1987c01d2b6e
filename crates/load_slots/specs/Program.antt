-- The slots of the task of a program, where its names lead, and its code (own rules).
use Rattle.std.specs.Prelude.{ℕ, zero, ◌+◌, Bool, ◌&&◌, if◌then◌else◌, bytes_eq, List, [], ◌∷◌, ◌++◌, map, filter, codes}
use Rattle.il_syntax.specs.declared.tree.Unit.{Unit as ProgramUnit}
use Rattle.il_syntax.specs.declared.tree.Config.{Config}
use Rattle.il_statics.specs.Names.{is_function, is_one_of}
use Rattle.base_maps.specs.NameMap.{Text}
use Rattle.il_semantics.specs.declared.value.Value.{Value}
use Rattle.il_semantics.specs.Meaning.{entities, own_entities, depth, entity_values, instance_values}
use Rattle.il_semantics.specs.Scan.{used_units, function_values}
use Rattle.load_slots.specs.declared.flat.Cell.{Cell}
use Rattle.load_slots.specs.Cells.{entity_cells, instance_cells, offset_in}
use Rattle.load_slots.specs.Coded.{Code}
use Rattle.load_slots.specs.Flattened.{Names, function_entities}
use Rattle.load_slots.specs.Places.{form_width, entities_width, block_width, seen_image, unit_entities, declared_in, deepest, names_by}
use Rattle.load_slots.specs.Whole.{number_in, unit_code}

-- FRAMES

-- whether the program of a task uses a unit, directly or through others (2.5)
abbrev pub is_used : Config → ProgramUnit → ProgramUnit → Bool
is_used c p v = is_one_of (map (λ w. w.name.name) (used_units depth c p)) v.name.name

-- the functions that the program of a task uses, in the order of the text (2.5.1)
abbrev pub task_functions : Config → ProgramUnit → List ProgramUnit
task_functions c p = filter (λ v. is_function v && is_used c p v) c.units

-- the slots of a function's frame
abbrev pub function_cells : Config → ProgramUnit → List Cell
function_cells c v = entity_cells (instance_cells deepest c) v.name.name (function_entities v)

-- and of those of several, one after another
abbrev pub functions_cells : Config → List ProgramUnit → List Cell
functions_cells c [] = []
functions_cells c (v ∷ vs) = function_cells c v ++ functions_cells c vs

-- where the frame of a function of this name begins; of no function's name where all of them end
abbrev pub base_in : Config → List ProgramUnit → Text → ℕ
base_in c [] name = 0
base_in c (v ∷ vs) name = if bytes_eq v.name.name name then 0 else entities_width (block_width deepest c) (function_entities v) + base_in c vs name

-- the base of the frame of a function, or of the program, in the program's task
abbrev pub base_of : Config → ProgramUnit → Text → ℕ
base_of c p name = base_in c (task_functions c p) name

-- SLOTS

-- the slots of a program's own variables, those of its instances among them
abbrev pub variable_cells : Config → ProgramUnit → List Cell
variable_cells c p = entity_cells (instance_cells deepest c) [] (own_entities p)

-- the slots that its task keeps from one scan to the next: the frames of its functions, and the program's own variables
abbrev pub own_cells : Config → ProgramUnit → List Cell
own_cells c p = functions_cells c (task_functions c p) ++ variable_cells c p

-- after them those of what it sees beside, and a scan is given: its externals, and the image
abbrev pub seen_cells : Config → ProgramUnit → List Cell
seen_cells c p = entity_cells (instance_cells deepest c) [] (entities p.externals ++ seen_image c p)

-- the slots of its task
abbrev pub program_cells : Config → ProgramUnit → List Cell
program_cells c p = own_cells c p ++ seen_cells c p

-- the values with which its own slots begin, one for each (2.4.3.2)
abbrev pub own_values : Config → ProgramUnit → List (Text × Value)
own_values c p = function_values c (task_functions c p) ++ entity_values (instance_values depth c) [] (own_entities p)

-- GLOBALS

-- the slots of the globals, which are scalars and arrays (2.7.1)
abbrev pub global_cells : Config → List Cell
global_cells c = entity_cells (instance_cells zero c) [] (entities c.globals)

-- the values with which they begin, one for each (2.7.1)
abbrev pub global_values : Config → List (Text × Value)
global_values c = entity_values (instance_values zero c) [] (entities c.globals)

-- CODE

-- where the names of each unit lead
abbrev pub program_names : Config → Text → Names
program_names c = names_by c (block_width deepest c) (declared_in c) (number_in c.units)

-- the slot of NOW in the task of a program
abbrev pub now_slot : Config → ProgramUnit → ℕ
now_slot c p = base_of c p p.name.name + offset_in (form_width (block_width deepest c)) (unit_entities c p) (codes "NOW")

-- the code of a configuration, with the slots of the task of a program
abbrev pub program_code : Config → ProgramUnit → Code
program_code c p = record {
  config = c;
  units = map (unit_code (program_names c) c) c.units;
  cells = program_cells c p;
  bases = map (λ u. base_of c p u.name.name) c.units;
  now = now_slot c p;
}
