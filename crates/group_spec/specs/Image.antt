-- The process image: its ranges, how it opens, and what the interlock asks of it.
use Rattle.std.specs.Prelude.{◌≡◌, ℕ, ◌+◌, ◌≤◌, Bool, true, false, ◌&&◌, List, [], ◌∷◌, length, replicate, All, slice_get, Some, nat_le, ◌==◌, if◌then◌else◌, nat_abs}
use Rattle.il_syntax.specs.declared.tree.Config.{Config}
use Rattle.group_spec.specs.declared.image.Sizes.{Sizes}
use Rattle.group_spec.specs.declared.image.Motor.{Motor}
use Rattle.group_spec.specs.declared.image.Motor.TheVariants.{Up, Down, Still}
use Rattle.group_spec.specs.declared.image.CarFields.{CarFields}
use Rattle.group_spec.specs.declared.image.CarOutputs.{CarOutputs}
use Rattle.group_spec.specs.declared.image.Fields.{Fields}
use Rattle.group_spec.specs.declared.image.Image.{Image}

-- the group's size, as its configuration gives it (own rule)
abbrev pub sizes_of : Config → Sizes
sizes_of p = record { cars = nat_abs p.cars.value; floors = nat_abs p.floors.value; slots = nat_abs p.slots.value }

-- a number of a floor of the group
abbrev pub IsFloor : Sizes → ℕ → Type 0
IsFloor sizes floor = (1 ≤ floor) × (floor ≤ sizes.floors)

-- whether a number is that of a floor of the group (own rule)
abbrev pub is_floor : Sizes → ℕ → Bool
is_floor sizes floor = nat_le 1 floor && nat_le floor sizes.floors

-- the fields lie in their ranges: POS is a floor, NOW a TIME, RUNLIMIT at most the number of cars, and each car has its fields (own rule)
pub record FieldsInRange (sizes : Sizes) (fields : Fields) : Type 0 where
  pub cars : length fields.cars ≡ sizes.cars
  pub positions : All (λ car. IsFloor sizes car.pos) fields.cars
  pub time : fields.time ≤ 2147483647
  pub run_limit : fields.run_limit ≤ sizes.cars

-- whether they do
abbrev pub positions_in_range : Sizes → List CarFields → Bool
positions_in_range sizes [] = true
positions_in_range sizes (car ∷ cars) = is_floor sizes car.pos && positions_in_range sizes cars

-- whether all fields lie in their ranges (own rule)
abbrev pub fields_in_range : Sizes → Fields → Bool
fields_in_range sizes fields =
    (length fields.cars == sizes.cars) && (positions_in_range sizes fields.cars && (nat_le fields.time 2147483647 && nat_le fields.run_limit sizes.cars))

-- how the image opens: each car at floor 1, locked and still (own rule)
abbrev pub opening_car : CarFields
opening_car = record { pos = 1; level = true; top = false; bottom = true; locked = true; opened = false }

-- how the outputs of a car open: still, with no open command (own rule)
abbrev pub opening_outputs : CarOutputs
opening_outputs = record { motor = Still; opens = false }

-- how the fields open: NOW is 0, RUNLIMIT the number of cars (own rule)
abbrev pub opening_fields : Sizes → Fields
opening_fields sizes = record { time = 0; run_limit = sizes.cars; fire = false; cars = replicate sizes.cars opening_car }

-- how the image opens (own rule)
abbrev pub opening_image : Sizes → Image
opening_image sizes = record { fields = opening_fields sizes; outputs = replicate sizes.cars opening_outputs }

-- whether a car whose motor is this runs
abbrev pub runs : Motor → Bool
runs Up = true
runs Down = true
runs Still = false

-- the set of the cars that run, as its members in rising order; the first car given has this number
abbrev pub running_from : ℕ → List CarOutputs → List ℕ
running_from car [] = []
running_from car (o ∷ outputs) = if runs o.motor then car ∷ running_from (car + 1) outputs else running_from (car + 1) outputs

-- the set of the cars that run (own rule)
abbrev pub running_cars : List CarOutputs → List ℕ
running_cars outputs = running_from 1 outputs

-- what the interlock asks of one car (own rules)
pub record CarObeys (fields : CarFields) (outputs : CarOutputs) : Type 0 where
  -- a motor that runs is locked, with no open command
  pub running : runs outputs.motor ≡ true → (fields.locked ≡ true) × (outputs.opens ≡ false)
  pub up : outputs.motor ≡ Up → fields.top ≡ false
  pub down : outputs.motor ≡ Down → fields.bottom ≡ false
  -- an open command is at a level, with the motor still
  pub opening : outputs.opens ≡ true → (fields.level ≡ true) × (outputs.motor ≡ Still)

-- the image obeys the interlock: each car does, and the set of running cars has at most RUNLIMIT members (own rules)
pub record Obeys (image : Image) : Type 0 where
  pub cars : length image.outputs ≡ length image.fields.cars
  pub each : (car : ℕ) (f : CarFields) (o : CarOutputs) → slice_get image.fields.cars car ≡ Some f → slice_get image.outputs car ≡ Some o → CarObeys f o
  pub limit : length (running_cars image.outputs) ≤ image.fields.run_limit
  -- while FIRE holds, no car runs up
  pub fire : image.fields.fire ≡ true → (car : ℕ) (o : CarOutputs) → slice_get image.outputs car ≡ Some o → o.motor ≡ Up → ⊥
