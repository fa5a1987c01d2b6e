-- The text of a state: its lines (own rules).
use Rattle.std.specs.Prelude.{ℕ, zero, suc, ◌+◌, ◌/◌, ◌%◌, Bool, true, false, List, [], ◌∷◌, ◌++◌, flat_map, codes, nat_lt, if◌then◌else◌, Option, Some, None}
use Rattle.std.specs.Fmt.{signed_decimal}
use Rattle.std.specs.Ordering.{int_eq}
use Rattle.il_syntax.specs.declared.tree.Config.{Config}
use Rattle.il_syntax.specs.declared.tree.Unit.{Unit as ProgramUnit}
use Rattle.base_maps.specs.NameMap.{Text, get}
use Rattle.il_semantics.specs.declared.value.Value.{Value}
use Rattle.il_semantics.specs.declared.value.Value.TheVariants.{Boolean, Integer}
use Rattle.il_semantics.specs.Scan.{opening_variables, opening_globals}
use Rattle.il_semantics.specs.State.{Values}
use Rattle.load_slots.specs.declared.flat.Cell.{Cell}
use Rattle.load_slots.specs.Program.{own_cells, global_cells}
use Rattle.group_spec.specs.declared.calls.Slot.{Slot}
use Rattle.group_spec.specs.declared.calls.Slot.TheVariants.{Free, Waiting, Told}
use Rattle.group_spec.specs.declared.image.CarFields.{CarFields}
use Rattle.group_spec.specs.declared.image.CarOutputs.{CarOutputs}
use Rattle.group_spec.specs.declared.image.Fields.{Fields}
use Rattle.group_spec.specs.declared.image.Image.{Image}
use Rattle.group_spec.specs.declared.image.Motor.{Motor}
use Rattle.group_spec.specs.declared.image.Motor.TheVariants.{Up, Down, Still}
use Rattle.group_spec.specs.Calls.{Calls}
use Rattle.group_spec.specs.Image.{sizes_of}
use Rattle.group_spec.specs.Snapshot.{task_name, program_of}
use Rattle.group_spec.specs.World.{World, Group, TaskState, task_at}
use Rattle.trace_text.specs.Text.{part, flag, car_part, text_of_lines}

-- THE CONFIGURATION

-- a lower-case hexadecimal digit (own rule)
abbrev pub hex_digit : ℕ → ℕ
hex_digit n = if nat_lt n 10 then 48 + n else 87 + n

-- a byte by its two hexadecimal digits (own rule)
abbrev pub hex_byte : ℕ → List ℕ
hex_byte byte = hex_digit (byte / 16) ∷ hex_digit (byte % 16) ∷ []

-- bytes by their hexadecimal digits (own rule)
abbrev pub hex_text : List ℕ → List ℕ
hex_text bytes = flat_map hex_byte bytes

-- `CONFIGURATION digits` (own rule)
unfoldable pub configuration_line : List ℕ → List ℕ
configuration_line digits = codes "CONFIGURATION " ++ digits

-- THE IMAGE, as `replay` prints it

-- TRUE and FALSE (own rule)
abbrev pub truth_text : Bool → List ℕ
truth_text true = codes "TRUE"
truth_text false = codes "FALSE"

-- a word, a space and a decimal (own rule)
abbrev pub number_line : List ℕ → ℕ → List ℕ
number_line word n = word ++ part n

-- `FIRE TRUE` or `FIRE FALSE` (own rule)
abbrev pub fire_line : Bool → List ℕ
fire_line fire = codes "FIRE " ++ truth_text fire

-- NOW in milliseconds, RUNLIMIT and FIRE, each on its line (own rule)
abbrev pub fields_lines : Fields → List (List ℕ)
fields_lines fields = number_line (codes "NOW") fields.time ∷ number_line (codes "RUNLIMIT") fields.run_limit ∷ fire_line fields.fire ∷ []

-- a motor as a number: 1 is up, -1 is down (own rule)
abbrev pub motor_text : Motor → List ℕ
motor_text Up = codes "1"
motor_text Still = codes "0"
motor_text Down = codes "-1"

-- ` MOTOR OPEN`; OPEN is 0 or 1 (own rule)
unfoldable pub outputs_part : CarOutputs → List ℕ
outputs_part outputs = codes " " ++ (motor_text outputs.motor ++ (codes " " ++ flag outputs.opens ∷ []))

-- `CAR k POS FLAGS MOTOR OPEN`; the flags are those of a trace (own rule)
unfoldable pub car_line : ℕ → CarFields → CarOutputs → List ℕ
car_line number fields outputs = codes "CAR" ++ (part number ++ (car_part fields ++ outputs_part outputs))

-- each car, of which the first has this number (own rule)
abbrev pub cars_lines : ℕ → List CarFields → List CarOutputs → List (List ℕ)
cars_lines number [] outputs = []
cars_lines number (f ∷ fields) [] = []
cars_lines number (f ∷ fields) (o ∷ outputs) = car_line number f o ∷ cars_lines (number + 1) fields outputs

-- THE CALL SLOTS, as `replay` prints them

-- what a slot holds: ` FREE`, ` WAITING ticket from to` or ` TOLD ticket from to car` (own rule)
unfoldable pub slot_part : Slot → List ℕ
slot_part Free = codes " FREE"
slot_part (Waiting ticket call) = codes " WAITING" ++ (part ticket ++ (part call.from ++ part call.to))
slot_part (Told ticket call car) = codes " TOLD" ++ (part ticket ++ (part call.from ++ (part call.to ++ part car)))

-- `SLOT s` and what it holds (own rule)
unfoldable pub slot_line : ℕ → Slot → List ℕ
slot_line number slot = codes "SLOT" ++ (part number ++ slot_part slot)

-- each slot, of which the first has this number (own rule)
abbrev pub slots_lines : ℕ → List Slot → List (List ℕ)
slots_lines number [] = []
slots_lines number (slot ∷ slots) = slot_line number slot ∷ slots_lines (number + 1) slots

-- the last ticket that was given, 0 before the first, and the slots (own rule)
abbrev pub calls_lines : Calls → List (List ℕ)
calls_lines calls = number_line (codes "TICKETS") calls.last_ticket ∷ slots_lines 1 calls.slots

-- THE VARIABLES

-- a value: TRUE or FALSE, or a decimal; of a TIME its milliseconds (own rule)
abbrev pub value_text : Value → List ℕ
value_text (Boolean b) = truth_text b
value_text (Integer z) = signed_decimal z

-- `VAR path word` (own rule)
unfoldable pub variable_line : Text → List ℕ → List ℕ
variable_line path word = codes "VAR " ++ (path ++ (codes " " ++ word))

-- whether two Booleans are the same (own rule)
abbrev pub same_truth : Bool → Bool → Bool
same_truth true true = true
same_truth true false = false
same_truth false true = false
same_truth false false = true

-- whether two values are the same (own rule)
abbrev pub same_value : Value → Value → Bool
same_value (Boolean a) (Boolean b) = same_truth a b
same_value (Boolean a) (Integer z) = false
same_value (Integer y) (Boolean b) = false
same_value (Integer y) (Integer z) = int_eq y z

-- whether a variable has this value (own rule)
abbrev pub has_value : Option Value → Value → Bool
has_value None value = false
has_value (Some own) value = same_value own value

-- the line of a variable that hasn't its initial value (own rule)
abbrev pub changed_line : Text → Option Value → Option Value → List (List ℕ)
changed_line path initial None = []
changed_line path initial (Some value) = if has_value initial value then [] else variable_line path (value_text value) ∷ []

-- the lines of variables, in the order of their cells (own rule)
abbrev pub variables_lines : (Text → Text) → Values → Values → List Cell → List (List ℕ)
variables_lines path initial values cells = flat_map (λ (cell : Cell). changed_line (path cell.path) (get initial cell.path) (get values cell.path)) cells

-- a global goes by its path (own rule)
abbrev pub global_path : Text → Text
global_path path = path

-- the lines of the globals (own rule)
abbrev pub globals_lines : Config → Values → List (List ℕ)
globals_lines c globals = variables_lines global_path (opening_globals c) globals (global_cells c)

-- a variable of a task goes by `TASK.path` (own rule)
abbrev pub task_path : ℕ → Text → Text
task_path t path = task_name t ++ (codes "." ++ path)

-- the lines of a task's variables; none where there is no such task (own rule)
abbrev pub task_lines : Config → ℕ → Option ProgramUnit → Option TaskState → List (List ℕ)
task_lines c t None task = []
task_lines c t (Some u) None = []
task_lines c t (Some u) (Some task) = variables_lines (task_path t) (opening_variables c u) task.variables (own_cells c u)

-- the lines of the variables of so many tasks, from this one on (own rule)
abbrev pub tasks_lines : Config → Group → ℕ → ℕ → List (List ℕ)
tasks_lines c g t zero = []
tasks_lines c g t (suc count) = task_lines c t (program_of c t) (task_at g t) ++ tasks_lines c g (t + 1) count

-- THE WHOLE

-- what is written of an image (own rule)
abbrev pub image_lines : Image → List (List ℕ)
image_lines image = fields_lines image.fields ++ cars_lines 1 image.fields.cars image.outputs

-- the last line of a state, after which the events are (own rule)
abbrev pub end_line : List ℕ
end_line = codes "EVENTS"

-- what is written of the variables of a group, and the last line: globals, GROUP, then CAR1 and so on (own rule)
abbrev pub last_lines : Config → Group → List (List ℕ)
last_lines c g = globals_lines c g.globals ++ (tasks_lines c g 0 (suc (sizes_of c).cars) ++ end_line ∷ [])

-- The lines after the first, of a configuration whose text has this digest. Of the world there is nothing but the group (own rule).
abbrev pub state_lines : Config → List ℕ → World → List (List ℕ)
state_lines c digest w =
    (configuration_line (hex_text digest) ∷ []) ++ (image_lines w.group.image ++ (calls_lines w.group.calls ++ last_lines c w.group))

-- the first line, which names the format (own rule)
abbrev pub first_line : List ℕ
first_line = codes "LIFTTRACE 3"

-- the text of a state, with its first line (own rule)
abbrev pub state_text : Config → List ℕ → World → List ℕ
state_text c digest w = text_of_lines (first_line ∷ state_lines c digest w)
