-- A plant as the definitions see it.
use Rattle.std.specs.Prelude.{◌≤◌, All, map, length}
use Rattle.group_spec.specs.Limits.{most_cars}
use Rattle.group_spec.specs.Plant.{PlantState}
use Rattle.group_plant.specs.Cars.{placed, IsPlaced}
use Rattle.group_plant.specs.declared.plant.Plant.TheInside.{Inside}

-- the plant in the words of the definitions
abbrev pub plant_of : Inside → PlantState
plant_of p = record { floors = p.floors; time = p.time; run_limit = p.run_limit; fire = p.fire; cars = map placed p.cars }

-- what every plant keeps
pub record IsPlant (p : Inside) : Type 0 where
  pub some_cars : 1 ≤ length p.cars
  pub cars : length p.cars ≤ most_cars
  pub two_floors : 2 ≤ p.floors
  pub floors : p.floors ≤ 16
  pub time : p.time ≤ 2147483647
  pub each : All (IsPlaced p.floors) p.cars
