use Rattle.std.proofs.Common.{◌<◌, ◌-◌, rules, subst}
use Rattle.scan_task.specs.Standing.{Standing}
use Rattle.scan_task.specs.Looking.{AreStacked}
use Rattle.show_scan.proofs.Stacks.{one_up}
use Rattle.show_scan.proofs.view.View.path.Goals as goal

pub callers-preserved : goal.callers-preserved
callers-preserved c =
    let stacks = subst (λ (s : Standing). AreStacked s.config s.state.frames) c.self.view_is c.stacks.ensures in
    let above : c.args.level < c.callers.left - 1 = search rules in
    one_up c.args.self.now.config c.args.self.now.state.frames stacks c.callers.left c.args.level _ _ above c.callers.invariant.1 c.callers.invariant.0 c.in_ok-path.ensures
