use Rattle.std.proofs.Common.{◌≡◌, subst, ap, sym, ◌∙◌}
use Rattle.base_maps.specs.NameMap.{get}
use Rattle.scan_task.specs.Standing.{Standing}
use Rattle.scan_task.proofs.Standing.{now_is, own_task, scan_here}
use Rattle.scan_task.specs.Scanning.{IsScanOf}
use Rattle.scan_task.specs.Ran.{standing}
use Rattle.scan_task.proofs.store.Store.value.Goals as goal

pub value_of-requires : goal.value_of-requires
value_of-requires c = scan_here c.self.inside.program.value.config c.self.inside.task c.deref.result.now c.args.self.now (ap (standing c.self.inside.program.value.config c.self.inside.task) c.deref.ensures ∙ c.self.view_is) c.args.verified.now.config c.self.inside.task (own_task c.self.inside.program.value.config c.self.inside.task c.deref.result.now c.args.self.now (ap (standing c.self.inside.program.value.config c.self.inside.task) c.deref.ensures ∙ c.self.view_is) c.args.verified.now.config c.requires) c.deref.result.now (subst (IsScanOf c.self.inside.program.value.config c.self.inside.task) (sym c.deref.ensures) c.self.invariant.1)

pub returns : goal.returns
returns c =
    subst (λ (s : Standing). c.value_of.result ≡ get s.state.values c.args.path.now)
    (now_is c.self.inside.program.value.config c.self.inside.task c.deref.result.now c.args.self.now (ap (standing c.self.inside.program.value.config c.self.inside.task) c.deref.ensures ∙ c.self.view_is) c.args.verified.now.config c.self.inside.task (own_task c.self.inside.program.value.config c.self.inside.task c.deref.result.now c.args.self.now (ap (standing c.self.inside.program.value.config c.self.inside.task) c.deref.ensures ∙ c.self.view_is) c.args.verified.now.config c.requires)) c.value_of.ensures
