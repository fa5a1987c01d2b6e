use Rattle.std.proofs.Common.{◌≡◌, subst, sym, ◌∙◌}
use Rattle.threads_desk.specs.Passes.{AreAllPanels}
use Rattle.threads_desk.proofs.Closing.{all-last}
use Rattle.example_library.proofs.Panels.{put_back}
use Rattle.example_library.proofs.memory.desk.press_last.Goals as goal

pub press_each-panel-requires-clause-table : goal.press_each-panel-requires-clause-table
press_each-panel-requires-clause-table c =
    let d = c.args.desk.now in
    let all = subst (AreAllPanels d) c.in-Some.ensures.items c.requires.panels in
    all-last (λ p. p.table ≡ d.table) c.pop.new.self.items c.in-Some.panel all.1

pub returns-in-Some : goal.returns-in-Some
returns-in-Some c =
    let d = c.args.desk.now in
    let all = subst (AreAllPanels d) c.in-Some.ensures.items c.requires.panels in
    subst (AreAllPanels d) (sym c.push_reserved.ensures.items) (put_back d c.pop.new.self.items c.in-Some.panel c.press_each-panel.result.0 all c.press_each-panel.ensures)
