use Rattle.std.proofs.Common.{length, ◌∙◌, sym, ap, arith}
use Rattle.scan_task.proofs.Changed.{globals_set, globals_fit_after, globals_after}
use Rattle.scan_task.proofs.setting.set_global.Goals as goal

pub set_first-requires-clause-numbers : goal.set_first-requires-clause-numbers
set_first-requires-clause-numbers c = c.requires.fits.numbers ∙ sym (ap length (c.cells.ensures ∙ c.global_code-layout.ensures.cells))

pub set_first-requires-clause-flags : goal.set_first-requires-clause-flags
set_first-requires-clause-flags c = c.requires.fits.flags ∙ sym (ap length (c.cells.ensures ∙ c.global_code-layout.ensures.cells))

pub set_first-requires-clause-cells : goal.set_first-requires-clause-cells
set_first-requires-clause-cells c = let same = ap length c.cells.ensures in omega (arith, same)

pub returns-clause-set : goal.returns-clause-set
returns-clause-set c =
    globals_set c.args.verified.now.config c.global_code-layout.ensures.runnable c.args.globals.now c.requires.fits c.requires.shared _ _ c.global_code-layout.ensures.cells (ap length (c.cells.ensures ∙ c.global_code-layout.ensures.cells)) c.args.path.now c.args.value c.set_first.result c.set_first.new.all c.set_first.ensures

pub returns-clause-fits : goal.returns-clause-fits
returns-clause-fits c =
    globals_fit_after c.args.verified.now.config c.global_code-layout.ensures.runnable c.args.globals.now c.requires.fits c.requires.shared _ _ c.global_code-layout.ensures.cells (ap length (c.cells.ensures ∙ c.global_code-layout.ensures.cells)) c.args.path.now c.args.value c.set_first.result c.set_first.new.all c.set_first.ensures

pub returns-clause-shared : goal.returns-clause-shared
returns-clause-shared c =
    globals_after c.args.verified.now.config c.global_code-layout.ensures.runnable c.args.globals.now c.requires.fits c.requires.shared _ _ c.global_code-layout.ensures.cells (ap length (c.cells.ensures ∙ c.global_code-layout.ensures.cells)) c.args.path.now c.args.value c.set_first.result c.set_first.new.all c.set_first.ensures
