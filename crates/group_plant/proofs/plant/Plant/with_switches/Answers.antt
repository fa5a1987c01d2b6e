use Rattle.std.proofs.Common.{sym, subst}
use Rattle.group_spec.specs.Plant.{IsPlantOf}
use Rattle.group_plant.proofs.Safe.{sized_under}
use Rattle.group_plant.proofs.plant.Plant.with_switches.Goals as goal

pub returns-clause-sized : goal.returns-clause-sized
returns-clause-sized c = λ sizes is low. sized_under sizes c.args.switches _ (subst (IsPlantOf sizes) (sym c.self.view_is) is) low
