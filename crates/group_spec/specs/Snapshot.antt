-- What a scan begins with, and what of its values a commit takes (own rules).
use Rattle.std.specs.Prelude.{ℕ, zero, suc, ◌+◌, Bool, true, false, List, [], ◌∷◌, ◌++◌, map, length, replicate, ℤ, pos, negsuc, nat_abs, Option, Some, None, is_some, codes, decimal}
use Rattle.il_syntax.specs.declared.tree.Config.{Config}
use Rattle.il_syntax.specs.declared.tree.Unit.{Unit as Organized}
use Rattle.il_semantics.specs.declared.value.Value.{Value}
use Rattle.il_semantics.specs.declared.value.Value.TheVariants.{Boolean, Integer}
use Rattle.base_maps.specs.NameMap.{Text, get, empty, with_entries}
use Rattle.il_semantics.specs.State.{Values, State}
use Rattle.il_semantics.specs.Meaning.{element_path}
use Rattle.il_semantics.specs.Scan.{begins, entries_at, external_paths, written_paths, task_program}
use Rattle.group_spec.specs.declared.image.Sizes.{Sizes}
use Rattle.group_spec.specs.declared.image.Motor.{Motor}
use Rattle.group_spec.specs.declared.image.Motor.TheVariants.{Up, Down, Still}
use Rattle.group_spec.specs.declared.image.CarFields.{CarFields}
use Rattle.group_spec.specs.declared.image.CarOutputs.{CarOutputs}
use Rattle.group_spec.specs.declared.image.Image.{Image}
use Rattle.group_spec.specs.declared.image.Wishes.{Wishes}
use Rattle.group_spec.specs.declared.calls.Slot.{Slot}
use Rattle.group_spec.specs.declared.calls.Slot.TheVariants.{Free, Waiting, Told}
use Rattle.group_spec.specs.Image.{sizes_of}
use Rattle.group_spec.specs.Settle.{fields_of, outputs_of}

-- TASKS

-- the name of a task: 0 is GROUP, k is CARk (own rule)
abbrev pub task_name : ℕ → Text
task_name zero = codes "GROUP"
task_name (suc k) = codes "CAR" ++ decimal (suc k)

-- the program of a task (2.7.2)
abbrev pub program_of : Config → ℕ → Option Organized
program_of p t = task_program p (task_name t)

-- whether the configuration has the task (2.7.2)
abbrev pub has_task : Config → ℕ → Bool
has_task p t = is_some (program_of p t)

-- THE SNAPSHOT

-- what a scan's start copies of what the tasks share: fields and all cars' committed outputs, slots with tickets, globals (own rule)
pub record Snapshot : Type 0 where
  pub image : Image
  pub slots : List Slot
  pub globals : Values

-- what a scan begins with: the task's variables, and the snapshot (own rule)
pub record Beginning : Type 0 where
  pub variables : Values
  pub snapshot : Snapshot

-- a whole number as a value (own rule)
abbrev pub number : ℕ → Value
number n = Integer (pos n)

-- the elements of an array of the image, from an index on (own rule)
abbrev pub elements_of : Text → ℕ → List Value → List (Text × Value)
elements_of name index [] = []
elements_of name index (v ∷ values) = (element_path name (pos index), v) ∷ elements_of name (index + 1) values

-- a motor as a number: 1 up, -1 down, 0 still (own rule)
abbrev pub motor_number : Motor → ℤ
motor_number Up = pos 1
motor_number Down = negsuc 0
motor_number Still = pos 0

-- CALLWAITS of a slot (own rule)
abbrev pub waits : Slot → Bool
waits Free = false
waits (Waiting ticket call) = true
waits (Told ticket call car) = false

-- CALLFROM of a slot (own rule)
abbrev pub from_of : Slot → ℕ
from_of Free = 0
from_of (Waiting ticket call) = call.from
from_of (Told ticket call car) = call.from

-- CALLTO of a slot (own rule)
abbrev pub to_of : Slot → ℕ
to_of Free = 0
to_of (Waiting ticket call) = call.to
to_of (Told ticket call car) = call.to

-- CALLCAR of a slot (own rule)
abbrev pub car_of : Slot → ℕ
car_of Free = 0
car_of (Waiting ticket call) = 0
car_of (Told ticket call car) = car

-- what programs of both roles see (own rule)
abbrev pub common_entries : Sizes → Image → List Slot → List (Text × Value)
common_entries sizes image slots =
    (codes "CARS", number sizes.cars) ∷ (codes "FLOORS", number sizes.floors) ∷ (codes "SLOTS", number sizes.slots)
    ∷ (codes "NOW", number image.fields.time) ∷ (codes "RUNLIMIT", number image.fields.run_limit) ∷ (codes "FIRE", Boolean image.fields.fire)
    ∷ (elements_of (codes "CALLWAITS") 1 (map (λ s. Boolean (waits s)) slots) ++ elements_of (codes "CALLFROM") 1 (map (λ s. number (from_of s)) slots)
    ++ elements_of (codes "CALLTO") 1 (map (λ s. number (to_of s)) slots) ++ elements_of (codes "CALLCAR") 1 (map (λ s. number (car_of s)) slots))

-- what a car's program sees beside: its outputs are as committed, and SERVE is 0 (own rule)
abbrev pub car_entries : ℕ → CarFields → CarOutputs → List (Text × Value)
car_entries car fields outputs =
    (codes "CARNO", number car) ∷ (codes "POS", number fields.pos) ∷ (codes "LEVEL", Boolean fields.level) ∷ (codes "TOP", Boolean fields.top)
    ∷ (codes "BOTTOM", Boolean fields.bottom) ∷ (codes "LOCKED", Boolean fields.locked) ∷ (codes "OPENED", Boolean fields.opened)
    ∷ (codes "MOTOR", Integer (motor_number outputs.motor)) ∷ (codes "OPEN", Boolean outputs.opens) ∷ (codes "SERVE", number 0) ∷ []

-- what the group's program sees beside: ASSIGN is 0 (own rule)
abbrev pub group_entries : Image → ℕ → List (Text × Value)
group_entries image slots =
    elements_of (codes "CPOS") 1 (map (λ (f : CarFields). number f.pos) image.fields.cars)
    ++ elements_of (codes "CMOTOR") 1 (map (λ (o : CarOutputs). Integer (motor_number o.motor)) image.outputs)
    ++ elements_of (codes "ASSIGN") 1 (replicate slots (number 0))

-- what programs of one role see (own rule)
abbrev pub role_entries : ℕ → Image → ℕ → List (Text × Value)
role_entries zero image slots = group_entries image slots
role_entries (suc k) image slots = car_entries (suc k) (fields_of image (suc k)) (outputs_of image (suc k))

-- the image as a task sees it under its names (own rule)
abbrev pub image_entries : Sizes → ℕ → Image → List Slot → List (Text × Value)
image_entries sizes t image slots = common_entries sizes image slots ++ role_entries t image (length slots)

-- what a scan is given of its snapshot: the globals that its program lists, and the image (own rule)
abbrev pub given_entries : Config → ℕ → Organized → Snapshot → List (Text × Value)
given_entries p t u s = entries_at s.globals (external_paths u) ++ image_entries (sizes_of p) t s.image s.slots

-- where a task's scan begins, by its program (2.7.2)
abbrev pub begins_by : Config → ℕ → Beginning → Option Organized → State
begins_by p t b None = record { values = empty; frames = []; result = None }
begins_by p t b (Some u) = begins u b.variables (given_entries p t u b.snapshot)

-- where a task's scan begins (2.7.2)
unfoldable pub scan_begins : Config → ℕ → Beginning → State
scan_begins p t b = begins_by p t b (program_of p t)

-- WISHES

-- a whole number, and 0 for what is none (own rule)
abbrev pub whole_of : Option Value → ℤ
whole_of None = pos 0
whole_of (Some (Boolean b)) = pos 0
whole_of (Some (Integer z)) = z

-- a Boolean, and FALSE for what is none (own rule)
abbrev pub truth_of : Option Value → Bool
truth_of None = false
truth_of (Some (Boolean b)) = b
truth_of (Some (Integer z)) = false

-- the motor of a number (own rule)
abbrev pub motor_of : ℤ → Motor
motor_of (pos zero) = Still
motor_of (pos (suc n)) = Up
motor_of (negsuc n) = Down

-- MOTOR, OPEN and SERVE, as a scan's values hold them at its end: the wishes of a car's scan (own rule)
unfoldable pub wishes_of : Values → Wishes
wishes_of values =
    record {
      motor = motor_of (whole_of (get values (codes "MOTOR")));
      opens = truth_of (get values (codes "OPEN"));
      serve = nat_abs (whole_of (get values (codes "SERVE")));
    }

-- ASSIGN[s] for each slot, from a slot on (own rule)
abbrev pub assigned_from : ℕ → ℕ → Values → List ℕ
assigned_from zero slot values = []
assigned_from (suc count) slot values = nat_abs (whole_of (get values (element_path (codes "ASSIGN") (pos slot)))) ∷ assigned_from count (slot + 1) values

-- the wishes of the group's scan (own rule)
unfoldable pub assigned : ℕ → Values → List ℕ
assigned slots values = assigned_from slots 1 values

-- the globals after a scan: what it left at the paths of those that its program writes (2.7.1)
abbrev pub written_globals : Option Organized → Values → Values → Values
written_globals None globals values = globals
written_globals (Some u) globals values = with_entries globals (entries_at values (written_paths u))
