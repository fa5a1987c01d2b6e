use Rattle.std.proofs.Common.{◌≡◌, [], take}
use Rattle.threads_workers.specs.Panels.{calls_at}
use Rattle.threads_workers.proofs.panel.is_pressed.Given as goal

abbrev pub invariant-presses : goal.invariant-presses
invariant-presses l = calls_at l.pass.floor l.pass.panel (take l.press-index l.presses) ≡ []
