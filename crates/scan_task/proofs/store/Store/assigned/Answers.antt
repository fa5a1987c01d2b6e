use Rattle.std.proofs.Common.{◌≡◌, ◌∙◌, ap, sym, subst}
use Rattle.scan_task.specs.Standing.{Standing}
use Rattle.scan_task.proofs.Standing.{now_is, own_task, scan_here}
use Rattle.std.proofs.Common.{ℕ}
use Rattle.group_spec.specs.Image.{sizes_of}
use Rattle.group_spec.specs.Snapshot.{assigned}
use Rattle.scan_task.specs.Scanning.{IsScanOf}
use Rattle.scan_task.specs.Ran.{standing}
use Rattle.scan_task.proofs.store.Store.assigned.Goals as goal

pub assigned-requires : goal.assigned-requires
assigned-requires c = record {
  scan =
      subst (λ (n : ℕ). IsScanOf c.args.verified.now.config n c.deref.result.now) (ap (λ (s : Standing). s.task) (ap (standing c.self.inside.program.value.config c.self.inside.task) c.deref.ensures ∙ c.self.view_is) ∙ c.requires.group)
      (scan_here c.self.inside.program.value.config c.self.inside.task c.deref.result.now c.args.self.now (ap (standing c.self.inside.program.value.config c.self.inside.task) c.deref.ensures ∙ c.self.view_is) c.args.verified.now.config c.self.inside.task (own_task c.self.inside.program.value.config c.self.inside.task c.deref.result.now c.args.self.now (ap (standing c.self.inside.program.value.config c.self.inside.task) c.deref.ensures ∙ c.self.view_is) c.args.verified.now.config c.requires.program) c.deref.result.now (subst (IsScanOf c.self.inside.program.value.config c.self.inside.task) (sym c.deref.ensures) c.self.invariant.1));
}

pub returns : goal.returns
returns c =
    subst (λ (s : Standing). c.assigned.result ≡ assigned (sizes_of s.config).slots s.state.values)
    (ap (λ (n : ℕ). standing c.args.verified.now.config n c.deref.result.now) (sym (ap (λ (s : Standing). s.task) (ap (standing c.self.inside.program.value.config c.self.inside.task) c.deref.ensures ∙ c.self.view_is) ∙ c.requires.group)) ∙ now_is c.self.inside.program.value.config c.self.inside.task c.deref.result.now c.args.self.now (ap (standing c.self.inside.program.value.config c.self.inside.task) c.deref.ensures ∙ c.self.view_is) c.args.verified.now.config c.self.inside.task (own_task c.self.inside.program.value.config c.self.inside.task c.deref.result.now c.args.self.now (ap (standing c.self.inside.program.value.config c.self.inside.task) c.deref.ensures ∙ c.self.view_is) c.args.verified.now.config c.requires.program)) c.assigned.ensures
