use Rattle.std.proofs.Common.{◌≤◌, sym, subst}
use Rattle.group_spec.specs.declared.image.Sizes.{Sizes}
use Rattle.scan_task.proofs.Sizes.{sizes_fit}
use Rattle.group_world.proofs.shared.Shared.new.Goals as goal

pub opening_memories-requires-clause-few : goal.opening_memories-requires-clause-few
opening_memories-requires-clause-few c = subst (λ (s : Sizes). s.cars ≤ 8) (sym c.sizes-sizes.ensures) (sizes_fit _ c.config-config.ensures.runnable).0.1

pub opening_image-requires : goal.opening_image-requires
opening_image-requires c = subst (λ (s : Sizes). s.cars ≤ 8) (sym c.sizes-sizes.ensures) (sizes_fit _ c.config-config.ensures.runnable).0.1

pub new-requires-clause-cars : goal.new-requires-clause-cars
new-requires-clause-cars c = rw c.sizes-sizes.ensures (sizes_fit _ c.config-config.ensures.runnable).0

pub new-requires-clause-floors : goal.new-requires-clause-floors
new-requires-clause-floors c = rw c.sizes-sizes.ensures (sizes_fit _ c.config-config.ensures.runnable).1

pub new-requires-clause-slots : goal.new-requires-clause-slots
new-requires-clause-slots c = rw c.sizes-sizes.ensures (sizes_fit _ c.config-config.ensures.runnable).2
