-- The plant: where the cars and their doors are, and one step of them (own rules).
use Rattle.std.specs.Prelude.{◌≡◌, ℕ, ◌+◌, ◌-◌, ◌*◌, ◌≤◌, min, Bool, false, List, [], ◌∷◌, length, replicate, slice_get, Some, ℤ, pos, negsuc, ◌+ℤ◌, ◌≤ℤ◌, int_lt, int_le, int_div, int_rem, nat_abs, ◌==◌, if◌then◌else◌}
use Rattle.group_spec.specs.declared.image.Sizes.{Sizes}
use Rattle.group_spec.specs.declared.image.CarFields.{CarFields}
use Rattle.group_spec.specs.declared.image.CarOutputs.{CarOutputs}
use Rattle.group_spec.specs.declared.image.Fields.{Fields}
use Rattle.group_spec.specs.Image.{FieldsInRange, Obeys}
use Rattle.group_spec.specs.Snapshot.{motor_number}

-- a car's place, ten to a floor, and how far its door is open, up to 5
pub record PlacedCar : Type 0 where
  pub place : ℤ
  pub door : ℕ

-- the plant: its floors, the time in milliseconds, RUNLIMIT, FIRE and its cars (own rule)
pub record PlantState : Type 0 where
  pub floors : ℕ
  pub time : ℕ
  pub run_limit : ℕ
  pub fire : Bool
  pub cars : List PlacedCar

-- how the plant opens: each car at floor 1, its door shut (own rule)
abbrev pub opening_plant : ℕ → ℕ → PlantState
opening_plant cars floors = record { floors = floors; time = 0; run_limit = cars; fire = false; cars = replicate cars (record { place = pos 0; door = 0 }) }

-- the nearest number from low to high
abbrev pub kept_within : ℤ → ℤ → ℤ → ℤ
kept_within low high z = if int_lt z low then low else (if int_lt high z then high else z)

-- the place goes one on with the motor, the door one open with an open command and one shut without
abbrev pub moved : ℕ → PlacedCar → CarOutputs → PlacedCar
moved floors car outputs =
    record {
      place = kept_within (negsuc 9) (pos (10 * floors)) (car.place +ℤ motor_number outputs.motor);
      door = if outputs.opens then min 5 (car.door + 1) else car.door - 1;
    }

-- one step of each car (own rule)
abbrev pub moved_all : ℕ → List PlacedCar → List CarOutputs → List PlacedCar
moved_all floors [] outputs = []
moved_all floors (car ∷ cars) [] = car ∷ cars
moved_all floors (car ∷ cars) (o ∷ outputs) = moved floors car o ∷ moved_all floors cars outputs

-- what the plant reports of a car
abbrev pub fields_of_car : ℕ → PlacedCar → CarFields
fields_of_car floors car =
    record {
      pos = nat_abs (kept_within (pos 1) (pos floors) (int_div (car.place +ℤ pos 5) (pos 10) +ℤ pos 1));
      level = nat_abs (int_rem car.place (pos 10)) == 0;
      top = int_le (pos (10 * (floors - 1))) car.place;
      bottom = int_le car.place (pos 0);
      locked = car.door == 0;
      opened = car.door == 5;
    }

-- what the plant reports of its cars (own rule)
abbrev pub fields_of_cars : ℕ → List PlacedCar → List CarFields
fields_of_cars floors [] = []
fields_of_cars floors (car ∷ cars) = fields_of_car floors car ∷ fields_of_cars floors cars

-- what the plant reports (own rule)
abbrev pub fields_of_plant : PlantState → Fields
fields_of_plant plant = record { time = plant.time; run_limit = plant.run_limit; fire = plant.fire; cars = fields_of_cars plant.floors plant.cars }

-- one step; what it reports is `fields_of_plant` of the state after it
unfoldable pub plant_after : PlantState → List CarOutputs → PlantState
plant_after plant outputs =
    record { floors = plant.floors; time = min 2147483647 (plant.time + 100); run_limit = plant.run_limit; fire = plant.fire; cars = moved_all plant.floors plant.cars outputs }

-- a plant of a group: what every plant of its size keeps
pub record IsPlantOf (sizes : Sizes) (plant : PlantState) : Type 0 where
  pub cars : length plant.cars ≡ sizes.cars
  pub floors : plant.floors ≡ sizes.floors
  pub time : plant.time ≤ 2147483647
  pub run_limit : plant.run_limit ≤ sizes.cars
  pub doors : (k : ℕ) (car : PlacedCar) → slice_get plant.cars k ≡ Some car → car.door ≤ 5
  pub places : (k : ℕ) (car : PlacedCar) → slice_get plant.cars k ≡ Some car → (negsuc 9 ≤ℤ car.place) × (car.place ≤ℤ pos (10 * plant.floors))

-- a car stands between the lowest and the highest floor (own rule)
abbrev pub IsInShaft : ℕ → PlacedCar → Type 0
IsInShaft floors car = (pos 0 ≤ℤ car.place) × (car.place ≤ℤ pos (10 * (floors - 1)))

-- What a step keeps where the outputs obey the interlock with this plant's own fields: no car whose door isn't at 0 changes its place, a car in its shaft stays in it, and the fields are in range.
pub record StaysSafe (sizes : Sizes) (before after : PlantState) : Type 0 where
  pub doors : (k : ℕ) (a b : PlacedCar) → slice_get before.cars k ≡ Some a → slice_get after.cars k ≡ Some b → (a.door == 0) ≡ false → b.place ≡ a.place
  pub shaft : (k : ℕ) (a b : PlacedCar) → slice_get before.cars k ≡ Some a → slice_get after.cars k ≡ Some b → IsInShaft before.floors a → IsInShaft before.floors b
  pub fields : FieldsInRange sizes (fields_of_plant after)

-- outputs obey the interlock, but for FIRE, with what this plant reports (own rule)
abbrev pub ObeysWithOwnFields : PlantState → List CarOutputs → Type 0
ObeysWithOwnFields plant outputs = Obeys (record { fields = record (fields_of_plant plant) { fire = false }; outputs = outputs })
