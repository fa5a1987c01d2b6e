-- All names that `watch` has in a group, and which of them are parts of another (own rules).
use Rattle.std.specs.Prelude.{ℕ, zero, suc, Bool, ◌||◌, ◌==◌, if◌then◌else◌, nat_eq, List, [], ◌∷◌, ◌++◌, map, filter, Option, Some, None, codes, decimal}
use Rattle.std.specs.List.{starts_with}
use Rattle.il_syntax.specs.declared.tree.Config.{Config}
use Rattle.il_syntax.specs.declared.tree.Unit.{Unit as ProgramUnit}
use Rattle.load_slots.specs.declared.flat.Cell.{Cell}
use Rattle.load_slots.specs.Program.{own_cells, global_cells}
use Rattle.group_spec.specs.Image.{sizes_of}
use Rattle.group_spec.specs.Snapshot.{program_of, task_name}
use Rattle.show_values.specs.declared.names.CarName.{CarName}
use Rattle.show_values.specs.declared.names.CarName.TheVariants.{Pos, Level, Top, Bottom, Locked, Opened, Motor, Open, Serve}
use Rattle.show_values.specs.declared.names.SlotName.{SlotName}
use Rattle.show_values.specs.declared.names.SlotName.TheVariants as of_slot
use Rattle.show_values.specs.declared.names.Shared.TheVariants.{Now, RunLimit, Fire}
use Rattle.show_values.specs.Names.{word_of_shared, word_of_car_name, word_of_slot_name}

-- the names of so many numbers, from one on
abbrev pub each_from : (ℕ → List (List ℕ)) → ℕ → ℕ → List (List ℕ)
each_from names n zero = []
each_from names n (suc count) = names n ++ each_from names (suc n) count

-- THE IMAGE

-- those that all tasks share
abbrev pub shared_names : List (List ℕ)
shared_names = map word_of_shared (Now ∷ RunLimit ∷ Fire ∷ [])

-- one of a call slot
abbrev pub slot_name : SlotName → ℕ → List ℕ
slot_name it slot = word_of_slot_name it ++ (codes "[" ++ (decimal slot ++ codes "]"))

-- those of an array of the call slots, of so many
abbrev pub slot_names : SlotName → ℕ → List (List ℕ)
slot_names it slots = each_from (λ slot. slot_name it slot ∷ []) 1 slots

-- those of the call slots
abbrev pub slots_names : ℕ → List (List ℕ)
slots_names slots = slot_names of_slot.Waits slots ++ (slot_names of_slot.From slots ++ (slot_names of_slot.To slots ++ slot_names of_slot.Car slots))

-- the words of a car's image
abbrev pub car_words : List (List ℕ)
car_words = map word_of_car_name (Pos ∷ Level ∷ Top ∷ Bottom ∷ Locked ∷ Opened ∷ Motor ∷ Open ∷ Serve ∷ [])

-- TASKS

-- a name after that of a task and a period
abbrev pub in_task : ℕ → List ℕ → List ℕ
in_task t name = task_name t ++ (codes "." ++ name)

-- those of the image after the name of a task: of GROUP what it tells, of a car its fields and outputs
abbrev pub image_names : ℕ → ℕ → List (List ℕ)
image_names slots t = if t == 0 then slot_names of_slot.Assign slots else map (in_task t) car_words

-- those of a task: of the image, and its variables in the order of the text; none where there is no such task
abbrev pub names_of_program : Config → ℕ → Option ProgramUnit → List (List ℕ)
names_of_program c t None = []
names_of_program c t (Some u) = image_names (sizes_of c).slots t ++ map (λ (cell : Cell). in_task t cell.path) (own_cells c u)

abbrev pub task_names : Config → ℕ → List (List ℕ)
task_names c t = names_of_program c t (program_of c t)

-- THE GROUP

-- those of the globals, in the order of the text
abbrev pub global_names : Config → List (List ℕ)
global_names c = map (λ (cell : Cell). cell.path) (global_cells c)

-- all names: of the image, of GROUP, of CAR1 and so on, and the globals
abbrev pub known_names : Config → List (List ℕ)
known_names c = shared_names ++ (slots_names (sizes_of c).slots ++ (each_from (task_names c) 0 (suc (sizes_of c).cars) ++ global_names c))

-- PARTS

-- whether a name is that of a part of another: it begins with the other, and after that a period or a bracket
abbrev pub is_part : List ℕ → List ℕ → Bool
is_part whole name = starts_with nat_eq name (whole ++ codes ".") || starts_with nat_eq name (whole ++ codes "[")

-- the names of the parts of a name
abbrev pub parts_in : List (List ℕ) → List ℕ → List (List ℕ)
parts_in names whole = filter (is_part whole) names

-- of a group
abbrev pub parts_of : Config → List ℕ → List (List ℕ)
parts_of c whole = parts_in (known_names c) whole
