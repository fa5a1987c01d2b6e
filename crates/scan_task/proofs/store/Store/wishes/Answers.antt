use Rattle.std.proofs.Common.{◌≡◌, sym, subst, ◌≤◌, ap, ◌∙◌}
use Rattle.scan_task.specs.Standing.{Standing}
use Rattle.scan_task.proofs.Standing.{now_is, own_task, scan_here}
use Rattle.group_spec.specs.Snapshot.{wishes_of}
use Rattle.scan_task.specs.Scanning.{IsScanOf}
use Rattle.scan_task.specs.Ran.{standing}
use Rattle.scan_task.proofs.store.Store.wishes.Goals as goal

pub wishes-requires-clause-car : goal.wishes-requires-clause-car
wishes-requires-clause-car c = subst (λ (s : Standing). 1 ≤ s.task) (sym c.self.view_is) c.requires.car

pub wishes-requires-clause-scan : goal.wishes-requires-clause-scan
wishes-requires-clause-scan c = scan_here c.self.inside.program.value.config c.self.inside.task c.deref.result.now c.args.self.now (ap (standing c.self.inside.program.value.config c.self.inside.task) c.deref.ensures ∙ c.self.view_is) c.args.verified.now.config c.self.inside.task (own_task c.self.inside.program.value.config c.self.inside.task c.deref.result.now c.args.self.now (ap (standing c.self.inside.program.value.config c.self.inside.task) c.deref.ensures ∙ c.self.view_is) c.args.verified.now.config c.requires.program) c.deref.result.now (subst (IsScanOf c.self.inside.program.value.config c.self.inside.task) (sym c.deref.ensures) c.self.invariant.1)

pub returns : goal.returns
returns c = subst (λ (s : Standing). c.wishes.result ≡ wishes_of s.state.values) (now_is c.self.inside.program.value.config c.self.inside.task c.deref.result.now c.args.self.now (ap (standing c.self.inside.program.value.config c.self.inside.task) c.deref.ensures ∙ c.self.view_is) c.args.verified.now.config c.self.inside.task (own_task c.self.inside.program.value.config c.self.inside.task c.deref.result.now c.args.self.now (ap (standing c.self.inside.program.value.config c.self.inside.task) c.deref.ensures ∙ c.self.view_is) c.args.verified.now.config c.requires.program)) c.wishes.ensures
