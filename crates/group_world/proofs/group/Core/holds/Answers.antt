use Rattle.std.proofs.Common.{subst}
use Rattle.group_spec.specs.Image.{Obeys}
use Rattle.group_spec.specs.World.{InRanges}
use Rattle.group_world.specs.Groups.{GroupOf}
use Rattle.group_world.proofs.group.Core.holds.Goals as goal

pub returns-clause-ranges : goal.returns-clause-ranges
returns-clause-ranges c = subst (λ (k : GroupOf). InRanges k.config k.group) c.self.view_is c.self.invariant.ranges

pub returns-clause-obeys : goal.returns-clause-obeys
returns-clause-obeys c = subst (λ (k : GroupOf). Obeys k.group.image) c.self.view_is c.self.invariant.obeys
