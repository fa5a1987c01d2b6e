use Rattle.std.proofs.Common.{◌≤◌, sym, subst}
use Rattle.group_spec.specs.declared.image.Sizes.{Sizes}
use Rattle.scan_task.proofs.Sizes.{sizes_fit}
use Rattle.test_library.proofs.stations.play_on.Goals as goal

pub desk_of-requires-clause-floors : goal.desk_of-requires-clause-floors
desk_of-requires-clause-floors g c = subst (λ (s : Sizes). (2 ≤ s.floors) × (s.floors ≤ 16)) (sym c.sizes-sizes.ensures) (sizes_fit c.args.verified.config c.config-config.ensures.runnable).1
