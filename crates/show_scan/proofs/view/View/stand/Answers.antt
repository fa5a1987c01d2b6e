use Rattle.std.proofs.Common.{subst, ap, ◌∙◌, slice_get}
use Rattle.std.specs.Prelude.{option_map}
use Rattle.scan_task.specs.Standing.{Standing}
use Rattle.scan_task.specs.Looking.{AreStacked, stand_of}
use Rattle.show_scan.proofs.Stacks.{stand_is}
use Rattle.show_scan.proofs.view.View.stand.Goals as goal

pub returns : goal.returns
returns c =
    let stacks = subst (λ (s : Standing). AreStacked s.config s.state.frames) c.self.view_is c.stacks.ensures in
    let seen = c.in-Some.ensures ∙ ap (λ (s : Standing). option_map stand_of (slice_get s.state.frames c.args.level)) c.self.view_is in
    stand_is c.args.self.now.config c.args.self.now.state.frames stacks c.args.level _ _ _ c.in-Some.standpoint.place seen c.in_ok-from_str.ensures.ok c.in_ok-path.ensures
