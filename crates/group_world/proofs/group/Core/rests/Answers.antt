use Rattle.std.proofs.Common.{sym, subst}
use Rattle.group_laws.specs.Holding.{RestsWell}
use Rattle.group_world.specs.Groups.{GroupOf}
use Rattle.group_world.specs.Setting.{IsSeated, resting}
use Rattle.group_world.proofs.Resuming.{rests_well}
use Rattle.group_world.proofs.group.Core.rests.Goals as goal

pub returns : goal.returns
returns c =
    subst (λ (k : GroupOf). RestsWell k.config (resting k.config k.group)) c.self.view_is
    (rests_well c.self.inside.program.value.config c.self.inside.shared c.self.invariant (subst (λ (k : GroupOf). IsSeated k.config k.group) (sym c.self.view_is) c.requires))
