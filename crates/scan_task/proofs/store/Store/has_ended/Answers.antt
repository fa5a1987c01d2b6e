use Rattle.std.proofs.Common.{◌≡◌, ◌∙◌, ap, sym, subst, is_some, true, ◌↔◌, []}
use Rattle.scan_loop.specs.Going.{Stored}
use Rattle.scan_task.specs.Standing.{Standing}
use Rattle.scan_task.proofs.Ending.{ended_by}
use Rattle.scan_task.proofs.store.Store.has_ended.Goals as goal

pub returns : goal.returns
returns c =
    subst (λ (s : Standing). (c.is_none.result ≡ true) ↔ (s.state.frames ≡ [])) c.self.view_is
    (ended_by c.self.inside.program.value.config c.self.invariant.0 c.self.inside.task c.self.inside.scan.value c.self.invariant.1 c.is_none.result (sym (ap (λ (s : Stored). is_some s.running) (c.behind-self.view_is ∙ c.deref.ensures)) ∙ c.is_none.ensures))
