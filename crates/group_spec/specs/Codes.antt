-- Codes of what contracts see, for the models whose values they are.
use Rattle.std.specs.Prelude.{ℕ, Bool, List, ℤ, refl}
use Rattle.std.specs.Coded.{Coded, code_by, coded×, coded_ℕ, coded_ℤ, coded_bool, coded_list}
use Rattle.group_spec.specs.declared.calls.Slot.{Slot}
use Rattle.group_spec.specs.contracts.calls.Slot as slot
use Rattle.group_spec.specs.Calls.{Calls}
use Rattle.group_spec.specs.Plant.{PlacedCar, PlantState}

-- the code of the calls
abbrev pub calls_code : Coded Calls
calls_code = code_by (List Slot × ℕ) (coded× (coded_list slot.the_row.coded) coded_ℕ) (λ s. (s.slots, s.last_ticket)) (λ c. record { slots = c.0; last_ticket = c.1 }) (λ _. refl)

-- the code of a placed car
abbrev pub placed_code : Coded PlacedCar
placed_code = code_by (ℤ × ℕ) (coded× coded_ℤ coded_ℕ) (λ c. (c.place, c.door)) (λ c. record { place = c.0; door = c.1 }) (λ _. refl)

-- the code of a plant
abbrev pub plant_code : Coded PlantState
plant_code =
    code_by ((ℕ × ℕ) × (ℕ × (Bool × List PlacedCar))) (coded× (coded× coded_ℕ coded_ℕ) (coded× coded_ℕ (coded× coded_bool (coded_list placed_code))))
    (λ p. ((p.floors, p.time), (p.run_limit, (p.fire, p.cars)))) (λ c. record { floors = c.0.0; time = c.0.1; run_limit = c.1.0; fire = c.1.1.0; cars = c.1.1.1 }) (λ _. refl)
