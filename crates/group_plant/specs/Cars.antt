-- A car of the plant as the definitions see it.
use Rattle.std.specs.Prelude.{ℕ, ◌*◌, ◌≤◌, pos, negsuc, ◌≤ℤ◌}
use Rattle.group_spec.specs.Plant.{PlacedCar}
use Rattle.group_plant.specs.declared.car.Car.{Car}

-- the car in the words of the plant's definitions
abbrev pub placed : Car → PlacedCar
placed car = record { place = car.place; door = car.door }

-- its place lies from ten below floor 1 to one floor above the highest, and its door is at most wholly open
abbrev pub IsPlaced : ℕ → Car → Type 0
IsPlaced floors car = (negsuc 9 ≤ℤ car.place) × (car.place ≤ℤ pos (10 * floors)) × (car.door ≤ 5)
