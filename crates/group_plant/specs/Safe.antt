-- What the plant owes to the interlock (own rules).
use Rattle.std.specs.Prelude.{◌≡◌, ◌≤◌, List, length}
use Rattle.group_spec.specs.declared.image.Sizes.{Sizes}
use Rattle.group_spec.specs.declared.image.CarOutputs.{CarOutputs}
use Rattle.group_spec.specs.Plant.{PlantState, IsPlantOf, ObeysWithOwnFields, StaysSafe, plant_after}

-- A step of a plant of a group with a floor, under outputs of all its cars that obey the interlock with the plant's own fields, is safe.
-- It leads to a plant of the same group, so that steps can follow one another.
abbrev pub IsSafeStep : Sizes → PlantState → List CarOutputs → Type 0
IsSafeStep sizes plant outputs =
    1 ≤ sizes.floors → IsPlantOf sizes plant → length outputs ≡ length plant.cars → ObeysWithOwnFields plant outputs → StaysSafe sizes plant (plant_after plant outputs) × IsPlantOf sizes (plant_after plant outputs)
