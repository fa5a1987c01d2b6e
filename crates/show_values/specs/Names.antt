-- What the names of `watch` mean (own rules).
use Rattle.std.specs.Prelude.{◌≡◌, ℕ, ◌≤◌, List, [], ◌∷◌, ◌++◌, codes, map}
use Rattle.std.specs.Char.{to_ascii_uppercase}
use Rattle.il_semantics.specs.declared.value.Value.{Value}
use Rattle.il_semantics.specs.declared.value.Value.TheVariants.{Boolean, Integer}
use Rattle.cli_host.specs.Requests.{IsNumberTo}
use Rattle.group_spec.specs.declared.image.CarFields.{CarFields}
use Rattle.group_spec.specs.declared.image.CarOutputs.{CarOutputs}
use Rattle.group_spec.specs.Limits.{most_cars}
use Rattle.group_spec.specs.Snapshot.{motor_number, number, task_name}
use Rattle.show_values.specs.declared.names.CarName.{CarName}
use Rattle.show_values.specs.declared.names.CarName.TheVariants.{Pos, Level, Top, Bottom, Locked, Opened, Motor, Open, Serve}
use Rattle.show_values.specs.declared.names.Shared.{Shared as SharedName}
use Rattle.show_values.specs.declared.names.Shared.TheVariants.{Now, RunLimit, Fire}
use Rattle.show_values.specs.declared.names.SlotName.{SlotName}
use Rattle.show_values.specs.declared.names.SlotName.TheVariants as of_slot
use Rattle.show_values.specs.declared.names.Watched.{Watched}
use Rattle.show_values.specs.declared.names.Watched.TheVariants.{Shared, Slot, Car, Variable, Global}

-- a name in upper case, as the language reads it (2.1.1)
abbrev pub upper_case : List ℕ → List ℕ
upper_case name = map to_ascii_uppercase name

-- the words of the image that all tasks share
abbrev pub word_of_shared : SharedName → List ℕ
word_of_shared Now = codes "NOW"
word_of_shared RunLimit = codes "RUNLIMIT"
word_of_shared Fire = codes "FIRE"

-- those of a car
abbrev pub word_of_car_name : CarName → List ℕ
word_of_car_name Pos = codes "POS"
word_of_car_name Level = codes "LEVEL"
word_of_car_name Top = codes "TOP"
word_of_car_name Bottom = codes "BOTTOM"
word_of_car_name Locked = codes "LOCKED"
word_of_car_name Opened = codes "OPENED"
word_of_car_name Motor = codes "MOTOR"
word_of_car_name Open = codes "OPEN"
word_of_car_name Serve = codes "SERVE"

-- what the plant reports of a car, its outputs, and the slot that it asked to serve
abbrev pub value_in_car : CarName → ℕ → CarFields → CarOutputs → Value
value_in_car Pos serve fields outputs = number fields.pos
value_in_car Level serve fields outputs = Boolean fields.level
value_in_car Top serve fields outputs = Boolean fields.top
value_in_car Bottom serve fields outputs = Boolean fields.bottom
value_in_car Locked serve fields outputs = Boolean fields.locked
value_in_car Opened serve fields outputs = Boolean fields.opened
value_in_car Motor serve fields outputs = Integer (motor_number outputs.motor)
value_in_car Open serve fields outputs = Boolean outputs.opens
value_in_car Serve serve fields outputs = number serve

-- the arrays of the call slots; ASSIGN is GROUP's own
abbrev pub word_of_slot_name : SlotName → List ℕ
word_of_slot_name of_slot.Waits = codes "CALLWAITS"
word_of_slot_name of_slot.From = codes "CALLFROM"
word_of_slot_name of_slot.To = codes "CALLTO"
word_of_slot_name of_slot.Car = codes "CALLCAR"
word_of_slot_name of_slot.Assign = codes "GROUP.ASSIGN"

-- after an opening bracket are the number of a slot, from 1 on, and the closing bracket
pub record IsIndex (rest : List ℕ) (slot : ℕ) : Type 0 where
  pub digits : List ℕ
  pub is : rest ≡ digits ++ 93 ∷ []
  pub numbered : IsNumberTo 64 digits slot

-- a name is that of an array of the call slots, with the number of a slot in brackets
pub record IsOfSlot (name : List ℕ) (it : SlotName) (slot : ℕ) : Type 0 where
  pub rest : List ℕ
  pub is : name ≡ word_of_slot_name it ++ 91 ∷ rest
  pub index : IsIndex rest slot

-- a name is that of a task, a period, and a rest
pub record IsInTask (name : List ℕ) (task : ℕ) (rest : List ℕ) : Type 0 where
  pub few : task ≤ most_cars
  pub is : name ≡ task_name task ++ 46 ∷ rest

-- After the name of a car stands a name of its image; otherwise, after the name of a task, the path of a variable.
abbrev pub IsReadIn : ℕ → List ℕ → Watched → Type 0
IsReadIn task rest (Shared name) = ⊥
IsReadIn task rest (Slot name slot) = ⊥
IsReadIn task rest (Car car name) = (car ≡ task) × (1 ≤ task) × (rest ≡ word_of_car_name name)
IsReadIn task rest (Variable other path) = (other ≡ task) × (path.now ≡ rest) × (1 ≤ task → (name : CarName) → rest ≡ word_of_car_name name → ⊥)
IsReadIn task rest (Global path) = ⊥

-- a global of this path
abbrev pub IsGlobal : List ℕ → Watched → Type 0
IsGlobal name (Shared it) = ⊥
IsGlobal name (Slot it slot) = ⊥
IsGlobal name (Car car it) = ⊥
IsGlobal name (Variable task path) = ⊥
IsGlobal name (Global path) = path.now ≡ name

-- a name is none of the image that all tasks share
abbrev pub IsNotShared : List ℕ → Type 0
IsNotShared name = (it : SharedName) → name ≡ word_of_shared it → ⊥

-- nor one of a call slot
abbrev pub IsNoSlot : List ℕ → Type 0
IsNoSlot name = (it : SlotName) (slot : ℕ) → IsOfSlot name it slot → ⊥

-- A name is one of the image, or one of its call slots, or it follows that of a task, or it is the path of a global.
pub data IsReadAs (name : List ℕ) (watched : Watched) : Type 0 where
  shared : (it : SharedName) → name ≡ word_of_shared it → watched ≡ Shared it → IsReadAs name watched
  slot : IsNotShared name → (it : SlotName) (slot : ℕ) → IsOfSlot name it slot → watched ≡ Slot it slot → IsReadAs name watched
  of_task : IsNotShared name → IsNoSlot name → (task : ℕ) (rest : List ℕ) → IsInTask name task rest → IsReadIn task rest watched → IsReadAs name watched
  global : IsNotShared name → IsNoSlot name → ((task : ℕ) (rest : List ℕ) → IsInTask name task rest → ⊥) → IsGlobal name watched → IsReadAs name watched
