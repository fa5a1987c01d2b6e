use Rattle.std.proofs.Common.{rules, ◌≡◌, ℕ, ◌+◌, List, sym, subst}
use Rattle.std.specs.Prelude.{min, Bool}
use Rattle.group_spec.specs.declared.image.CarOutputs.{CarOutputs}
use Rattle.group_spec.specs.Image.{FieldsInRange}
use Rattle.group_spec.specs.Plant.{PlantState, PlacedCar, IsPlantOf, StaysSafe, plant_after, moved_all}
use Rattle.group_plant.proofs.Safe.{sized_after, stays_safe, fields_fit}
use Rattle.group_plant.proofs.plant.Plant.step.Goals as goal

step_is : (floors time run_limit t : ℕ) (fire : Bool) (cars made : List PlacedCar) (outputs : List CarOutputs) → t ≡ min 2147483647 (time + 100) → made ≡ moved_all floors cars outputs
    → ◌≡◌ {A = PlantState} (record { floors = floors; time = t; run_limit = run_limit; fire = fire; cars = made }) (plant_after (record { floors = floors; time = time; run_limit = run_limit; fire = fire; cars = cars }) outputs)
unfolding plant_after
step_is floors time run_limit t fire cars made outputs e f = cc

pub returns-clause-plant : goal.returns-clause-plant
returns-clause-plant c = rw (← c.self.view_is) (step_is _ _ _ _ _ _ _ _ c.min-time.ensures (rw (← c.as_slice.ensures) c.move_cars.ensures.value))

pub returns-clause-sized : goal.returns-clause-sized
returns-clause-sized c = λ sizes of_group. subst (IsPlantOf sizes) (sym (returns-clause-plant c)) (sized_after sizes c.args.self.now c.args.outputs.now of_group c.requires)

pub returns-clause-safe : goal.returns-clause-safe
returns-clause-safe c = λ sizes of_group some obeys.
    subst (StaysSafe sizes c.args.self.now) (sym (returns-clause-plant c)) (stays_safe sizes c.args.self.now c.args.outputs.now some of_group c.requires obeys)

pub returns-clause-fields : goal.returns-clause-fields
returns-clause-fields c = search rules

pub returns-clause-inside : goal.returns-clause-inside
returns-clause-inside c = λ sizes of_group some. subst (FieldsInRange sizes) (sym (returns-clause-fields c)) (fields_fit sizes _ some (returns-clause-sized c sizes of_group))
