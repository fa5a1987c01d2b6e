use Rattle.std.proofs.Common.{◌<◌, ◌∙◌, ap, ap₂, sym, subst, All, ℕ, List, length}
use Rattle.scan_loop.specs.Going.{Stored}
use Rattle.load_slots.specs.declared.flat.Cell.{Cell}
use Rattle.load_slots.specs.Layout.{Rows}
use Rattle.scan_task.specs.declared.sharing.Transfer.{Transfer}
use Rattle.load_slots.specs.Program.{program_cells, global_cells}
use Rattle.scan_task.specs.Sharing.{taken, transfers, external_cells}
use Rattle.scan_task.proofs.Shared.{takes, takes_fits, takes_within}
use Rattle.scan_task.proofs.scanning.copy_globals.Goals as goal

pub take_written-requires-clause-numbers : goal.take_written-requires-clause-numbers
take_written-requires-clause-numbers c =
    let u = c.requires.scan.0 in
    let is = c.requires.scan.1 in
    let within = takes_within c.args.verified.now.config c.task_code.ensures.runnable c.args.task u is c.args.scan.now c.requires.scan in
    subst (λ (ts : List Transfer). All (λ (t : Transfer). t.to < length c.args.globals.now.numbers) ts) (sym (c.written.ensures u is.program))
    (subst (λ (n : ℕ). All (λ (t : Transfer). t.to < n) (transfers u.body.steps (program_cells c.args.verified.now.config u) (global_cells c.args.verified.now.config) (external_cells c.args.verified.now.config u))) (sym c.requires.fits.numbers) within)

pub take_written-requires-clause-flags : goal.take_written-requires-clause-flags
take_written-requires-clause-flags c =
    let u = c.requires.scan.0 in
    let is = c.requires.scan.1 in
    let within = takes_within c.args.verified.now.config c.task_code.ensures.runnable c.args.task u is c.args.scan.now c.requires.scan in
    subst (λ (ts : List Transfer). All (λ (t : Transfer). t.to < length c.args.globals.now.flags) ts) (sym (c.written.ensures u is.program))
    (subst (λ (n : ℕ). All (λ (t : Transfer). t.to < n) (transfers u.body.steps (program_cells c.args.verified.now.config u) (global_cells c.args.verified.now.config) (external_cells c.args.verified.now.config u))) (sym c.requires.fits.flags) within)

pub returns-clause-globals : goal.returns-clause-globals
returns-clause-globals c =
    let u = c.requires.scan.0 in
    let is = c.requires.scan.1 in
    takes c.args.verified.now.config c.task_code.ensures.runnable c.args.task u is c.args.scan.now c.requires.scan c.args.globals.now c.take_written.new.globals c.requires.fits
    (c.take_written.ensures ∙ ap₂ (λ (r : Rows) (xs : List Cell). taken c.args.globals.now r xs c.written.result.now) (ap (λ (s : Stored). s.rows) c.scan.view_is) (c.cells-cells.ensures ∙ (c.task_code.ensures.code u is.program).cells)
    ∙ ap (taken c.args.globals.now c.args.scan.now.rows (program_cells c.args.verified.now.config u)) (c.written.ensures u is.program))

pub returns-clause-fits : goal.returns-clause-fits
returns-clause-fits c =
    let u = c.requires.scan.0 in
    let is = c.requires.scan.1 in
    takes_fits c.args.verified.now.config c.task_code.ensures.runnable c.args.task u is c.args.scan.now c.requires.scan c.args.globals.now c.take_written.new.globals c.requires.fits
    (c.take_written.ensures ∙ ap₂ (λ (r : Rows) (xs : List Cell). taken c.args.globals.now r xs c.written.result.now) (ap (λ (s : Stored). s.rows) c.scan.view_is) (c.cells-cells.ensures ∙ (c.task_code.ensures.code u is.program).cells)
    ∙ ap (taken c.args.globals.now c.args.scan.now.rows (program_cells c.args.verified.now.config u)) (c.written.ensures u is.program))
