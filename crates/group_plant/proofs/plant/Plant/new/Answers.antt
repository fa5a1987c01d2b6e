use Rattle.std.proofs.Common.{arith, ◌≡◌, ℕ, zero, suc, map, List, pos, replicate, false, refl, sym, ap, ◌∙◌, subst}
use Rattle.group_plant.specs.declared.car.Car.{Car}
use Rattle.group_spec.specs.Plant.{PlantState, IsPlantOf, opening_plant, fields_of_plant}
use Rattle.group_plant.specs.Cars.{placed}
use Rattle.group_plant.proofs.Safe.{opening_sized, opening_reports}
use Rattle.group_plant.proofs.plant.Plant.new.Goals as goal

placed_alike : (n : ℕ) (car : Car) → map placed (replicate n car) ≡ replicate n (placed car)
placed_alike zero car = refl
placed_alike (suc n) car = cc (placed_alike n car)

-- as many cars at floor 1, with shut doors, are a plant as it opens
opens : (cars floors n : ℕ) (made : List Car) → made ≡ replicate n (record { place = pos 0; door = 0 }) → n ≡ cars
    → ◌≡◌ {A = PlantState} (record { floors = floors; time = 0; run_limit = cars; fire = false; cars = map placed made }) (opening_plant cars floors)
opens cars floors n made e f = cc (placed_alike n (record { place = pos 0; door = 0 }))

pub returns-clause-plant : goal.returns-clause-plant
returns-clause-plant c = opens _ _ _ _ c.loop.invariant (omega arith)

pub returns-clause-sized : goal.returns-clause-sized
returns-clause-sized c = λ slots.
    let is = opens c.args.cars c.args.floors _ _ c.loop.invariant (omega arith) in
    subst (IsPlantOf (record { cars = c.args.cars; floors = c.args.floors; slots = slots })) (sym is) (opening_sized c.args.cars c.args.floors slots)

pub returns-clause-opens : goal.returns-clause-opens
returns-clause-opens c = λ slots. ap fields_of_plant (returns-clause-plant c) ∙ opening_reports c.args.cars c.args.floors slots c.requires.floors.0
