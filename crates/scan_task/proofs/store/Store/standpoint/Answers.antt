use Rattle.std.proofs.Common.{◌≡◌, slice_get, subst, ap, sym, ◌∙◌}
use Rattle.std.specs.Prelude.{option_map}
use Rattle.scan_task.specs.Standing.{Standing}
use Rattle.scan_task.specs.Looking.{stand_of, shown_stand}
use Rattle.scan_task.proofs.Standing.{now_is, own_task, scan_here}
use Rattle.scan_task.specs.Scanning.{IsScanOf}
use Rattle.scan_task.specs.Ran.{standing}
use Rattle.scan_task.proofs.store.Store.standpoint.Goals as goal

pub stands_at-requires : goal.stands_at-requires
stands_at-requires c = scan_here c.self.inside.program.value.config c.self.inside.task c.deref.result.now c.args.self.now (ap (standing c.self.inside.program.value.config c.self.inside.task) c.deref.ensures ∙ c.self.view_is) c.args.verified.now.config c.self.inside.task (own_task c.self.inside.program.value.config c.self.inside.task c.deref.result.now c.args.self.now (ap (standing c.self.inside.program.value.config c.self.inside.task) c.deref.ensures ∙ c.self.view_is) c.args.verified.now.config c.requires) c.deref.result.now (subst (IsScanOf c.self.inside.program.value.config c.self.inside.task) (sym c.deref.ensures) c.self.invariant.1)

pub returns : goal.returns
returns c =
    subst (λ (s : Standing). option_map shown_stand c.stands_at.result ≡ option_map stand_of (slice_get s.state.frames c.args.level))
    (now_is c.self.inside.program.value.config c.self.inside.task c.deref.result.now c.args.self.now (ap (standing c.self.inside.program.value.config c.self.inside.task) c.deref.ensures ∙ c.self.view_is) c.args.verified.now.config c.self.inside.task (own_task c.self.inside.program.value.config c.self.inside.task c.deref.result.now c.args.self.now (ap (standing c.self.inside.program.value.config c.self.inside.task) c.deref.ensures ∙ c.self.view_is) c.args.verified.now.config c.requires)) c.stands_at.ensures
