use Rattle.std.proofs.Common.{sym, subst}
use Rattle.scan_task.specs.Scanning.{Program}
use Rattle.group_world.specs.Running.{group_in, HoldsShared}
use Rattle.group_world.specs.Setting.{IsSeated}
use Rattle.group_world.proofs.Grouped.{opening_holds}
use Rattle.group_world.proofs.Resuming.{opening_seated}
use Rattle.group_world.proofs.group.Core.new.Goals as goal

pub invariant_of-result : goal.invariant_of-result
invariant_of-result c =
    subst (λ (p : Program). HoldsShared p.config c.in_ok-shared.shared) (sym c.of.ensures)
    (opening_holds c.args.verified.now.config c.config-config.ensures.runnable c.in_ok-shared.shared c.in_ok-shared.ensures.group c.in_ok-shared.ensures.fits)

pub returns-clause-seated : goal.returns-clause-seated
returns-clause-seated c =
    subst (λ (p : Program). IsSeated p.config (group_in p.config c.in_ok-shared.shared)) (sym c.of.ensures)
    (opening_seated c.args.verified.now.config (group_in c.args.verified.now.config c.in_ok-shared.shared) c.in_ok-shared.ensures.group)
