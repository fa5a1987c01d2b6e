use Rattle.std.proofs.Common.{◌≤◌, sym, subst}
use Rattle.group_spec.specs.declared.image.Sizes.{Sizes}
use Rattle.group_spec.specs.Plant.{IsPlantOf}
use Rattle.group_spec.specs.Limits.{most_cars}
use Rattle.scan_task.proofs.Sizes.{sizes_fit}
use Rattle.threads_station.proofs.station.plant_of.Goals as goal

pub new-requires-clause-cars : goal.new-requires-clause-cars
new-requires-clause-cars c = subst (λ (s : Sizes). (1 ≤ s.cars) × (s.cars ≤ most_cars)) (sym c.sizes-sizes.ensures) (sizes_fit c.args.verified.now.config c.config-config.ensures.runnable).0

pub new-requires-clause-floors : goal.new-requires-clause-floors
new-requires-clause-floors c = subst (λ (s : Sizes). (2 ≤ s.floors) × (s.floors ≤ 16)) (sym c.sizes-sizes.ensures) (sizes_fit c.args.verified.now.config c.config-config.ensures.runnable).1

pub returns-clause-sized : goal.returns-clause-sized
returns-clause-sized c = subst (λ (s : Sizes). IsPlantOf s c.new.result) c.sizes-sizes.ensures (c.new.ensures.sized c.sizes-sizes.result.slots)
