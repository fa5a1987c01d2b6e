use Rattle.std.proofs.Common.{take}
use Rattle.threads_workers.specs.Panels.{HasPressed}
use Rattle.threads_workers.proofs.panel.work.Given as goal

abbrev pub invariant-presses : goal.invariant-presses
invariant-presses l = HasPressed l.fn.pass l.pass (take l.press-index l.presses)
