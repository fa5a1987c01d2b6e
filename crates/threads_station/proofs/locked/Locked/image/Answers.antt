use Rattle.std.proofs.Common.{ap, ◌∙◌}
use Rattle.group_journal.specs.Pages.{Page}
use Rattle.threads_station.proofs.Showing.{shown_so}
use Rattle.threads_station.proofs.locked.Locked.image.Goals as goal

pub returns-clause-shown : goal.returns-clause-shown
returns-clause-shown g c =
    let a = c.audit_refreshes.ensures in
    shown_so g.G.Naming.program.config c.args.self.now a.program a.kept c.args.pass.now.refreshes a.refreshes c.copied_image.result (c.copied_image.ensures ∙ ap (λ (l : Page). l.world.group.image) (c.self.view_is ∙ a.same.0))
