-- The image in the rows of a task (own rules).
use Rattle.std.specs.Prelude.{ℕ, zero, suc, ◌+◌, List, replicate, [], ◌∷◌, ◌++◌, map, set, take, drop, length}
use Rattle.il_semantics.specs.declared.value.Value.{Value}
use Rattle.il_semantics.specs.declared.value.Value.TheVariants.{Boolean, Integer}
use Rattle.load_slots.specs.Layout.{Rows, rows, number_part, flag_part}
use Rattle.group_spec.specs.declared.image.Sizes.{Sizes}
use Rattle.group_spec.specs.declared.image.CarFields.{CarFields}
use Rattle.group_spec.specs.declared.image.CarOutputs.{CarOutputs}
use Rattle.group_spec.specs.declared.image.Fields.{Fields}
use Rattle.group_spec.specs.declared.image.Image.{Image}
use Rattle.group_spec.specs.declared.calls.Slot.{Slot}
use Rattle.group_spec.specs.Settle.{fields_of, outputs_of}
use Rattle.group_spec.specs.Snapshot.{number, motor_number, waits, from_of, to_of, car_of, image_entries}
use Rattle.group_calls.specs.Columns.{four}

-- rows with a value at a slot
abbrev pub with_slot : Rows → ℕ → Value → Rows
with_slot r at v = rows (set r.numbers at (number_part v)) (set r.flags at (flag_part v))

-- with values from a slot on
abbrev pub filled : Rows → ℕ → List Value → Rows
filled r at [] = r
filled r at (v ∷ vs) = filled (with_slot r at v) (at + 1) vs

-- a list with others in it from a place on
abbrev pub spliced : {A : Type 0} → List A → ℕ → List A → List A
spliced xs at ys = take at xs ++ (ys ++ drop (length ys) (drop at xs))

-- what the columns show of a call slot
abbrev pub waits_value : Slot → Value
waits_value s = Boolean (waits s)

abbrev pub from_value : Slot → Value
from_value s = number (from_of s)

abbrev pub to_value : Slot → Value
to_value s = number (to_of s)

abbrev pub car_value : Slot → Value
car_value s = number (car_of s)

-- all columns
abbrev pub call_values : List Slot → List Value
call_values slots = four waits_value from_value to_value car_value slots

-- what each program sees of the group
abbrev pub group_values : Sizes → Fields → List Value
group_values sizes fields = number sizes.cars ∷ number sizes.floors ∷ number sizes.slots ∷ number fields.time ∷ number fields.run_limit ∷ Boolean fields.fire ∷ []

-- what a car's program sees of its car
abbrev pub car_values : ℕ → CarFields → CarOutputs → List Value
car_values car fields outputs =
    number car ∷ number fields.pos ∷ Boolean fields.level ∷ Boolean fields.top ∷ Boolean fields.bottom ∷ Boolean fields.locked ∷ Boolean fields.opened ∷ Integer (motor_number outputs.motor) ∷ Boolean outputs.opens ∷ number 0 ∷ []

-- what the group's program sees of the cars, and ASSIGN
abbrev pub position_value : CarFields → Value
position_value f = number f.pos

abbrev pub motor_value : CarOutputs → Value
motor_value o = Integer (motor_number o.motor)

abbrev pub cars_values : Image → ℕ → List Value
cars_values image slots = map position_value image.fields.cars ++ (map motor_value image.outputs ++ replicate slots (number 0))

-- what programs of one role see
abbrev pub role_values : ℕ → Image → ℕ → List Value
role_values zero image slots = cars_values image slots
role_values (suc k) image slots = car_values (suc k) (fields_of image (suc k)) (outputs_of image (suc k))

-- the values of the image as a task sees it
abbrev pub image_values : Sizes → ℕ → Image → List Slot → List Value
image_values sizes task image slots = map (λ e. e.1) (image_entries sizes task image slots)
