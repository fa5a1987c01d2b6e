use Rattle.std.proofs.Common.{length, sym, ap, ◌∙◌, subst}
use Rattle.scan_task.specs.Standing.{Standing}
use Rattle.scan_task.proofs.Looked.{depth_is}
use Rattle.scan_task.specs.Scanning.{IsScanOf}
use Rattle.scan_task.specs.Ran.{standing}
use Rattle.scan_task.proofs.store.Store.depth.Goals as goal

pub returns : goal.returns
returns c =
    c.depth.ensures
    ∙ sym (depth_is c.self.inside.program.value.config c.self.inside.task c.deref.result.now (subst (IsScanOf c.self.inside.program.value.config c.self.inside.task) (sym c.deref.ensures) c.self.invariant.1))
    ∙ ap (λ (s : Standing). length s.state.frames) (ap (standing c.self.inside.program.value.config c.self.inside.task) c.deref.ensures ∙ c.self.view_is)
