use Rattle.std.proofs.Common.{length, ◌∙◌, sym, ap, arith}
use Rattle.std.proofs.lemmas.List.{length-append}
use Rattle.load_slots.specs.Program.{own_cells, seen_cells}
use Rattle.scan_task.proofs.Changed.{own_set, own_fits_after, own_after}
use Rattle.scan_task.proofs.setting.set_variable.Goals as goal

pub set_first-requires-clause-numbers : goal.set_first-requires-clause-numbers
set_first-requires-clause-numbers c =
    let t = c.task_code-code.ensures.code c.requires.fits.0 c.requires.fits.1.program in
    c.requires.fits.2.numbers ∙ sym (c.own.ensures ∙ t.own)

pub set_first-requires-clause-flags : goal.set_first-requires-clause-flags
set_first-requires-clause-flags c =
    let t = c.task_code-code.ensures.code c.requires.fits.0 c.requires.fits.1.program in
    c.requires.fits.2.flags ∙ sym (c.own.ensures ∙ t.own)

pub set_first-requires-clause-cells : goal.set_first-requires-clause-cells
set_first-requires-clause-cells c =
    let config = c.args.verified.now.config in
    let u = c.requires.fits.0 in
    let t = c.task_code-code.ensures.code u c.requires.fits.1.program in
    let n = length-append (own_cells config u) (seen_cells config u) in
    let cells = ap length t.cells in
    let own = c.own.ensures ∙ t.own in
    omega (arith, n, cells, own)

pub returns-clause-set : goal.returns-clause-set
returns-clause-set c =
    let t = c.task_code-code.ensures.code c.requires.fits.0 c.requires.fits.1.program in
    own_set c.args.verified.now.config c.task_code-code.ensures.runnable c.args.task c.args.variables.now c.requires.fits c.requires.own _ _ t.cells (c.own.ensures ∙ t.own) c.args.path.now c.args.value c.set_first.result c.set_first.new.all c.set_first.ensures

pub returns-clause-fits : goal.returns-clause-fits
returns-clause-fits c =
    let t = c.task_code-code.ensures.code c.requires.fits.0 c.requires.fits.1.program in
    own_fits_after c.args.verified.now.config c.task_code-code.ensures.runnable c.args.task c.args.variables.now c.requires.fits c.requires.own _ _ t.cells (c.own.ensures ∙ t.own) c.args.path.now c.args.value c.set_first.result c.set_first.new.all c.set_first.ensures

pub returns-clause-own : goal.returns-clause-own
returns-clause-own c =
    let t = c.task_code-code.ensures.code c.requires.fits.0 c.requires.fits.1.program in
    own_after c.args.verified.now.config c.task_code-code.ensures.runnable c.args.task c.args.variables.now c.requires.fits c.requires.own _ _ t.cells (c.own.ensures ∙ t.own) c.args.path.now c.args.value c.set_first.result c.set_first.new.all c.set_first.ensures
