use Rattle.std.proofs.Common.{refl, sym, ◌∙◌}
use Rattle.threads_workers.proofs.Presses.{pressed_one}
use Rattle.threads_workers.proofs.panel.press_if.Goals as goal

pub returns : goal.returns
returns c = pressed_one c.args.pass c.args.press.now c.args.press.now.to refl c.requires.press.2 (sym c.is_for.ensures ∙ c.if-not-is_for.false) c.press-pass.result.0 c.press-pass.result.1 c.press-pass.ensures
