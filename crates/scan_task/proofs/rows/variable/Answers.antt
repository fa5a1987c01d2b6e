use Rattle.std.proofs.Common.{sym, ap, ◌∙◌}
use Rattle.std.specs.Prelude.{option_and_then}
use Rattle.load_slots.specs.Paths.{slot_at}
use Rattle.load_slots.specs.Program.{program_cells}
use Rattle.scan_task.specs.Scanning.{value_at}
use Rattle.scan_task.proofs.Reading.{reads_variable}
use Rattle.scan_task.proofs.rows.variable.Goals as goal

pub returns-in_err-slot : goal.returns-in_err-slot
returns-in_err-slot c =
    let config = c.args.verified.now.config in
    let u = c.requires.fits.0 in
    let t = c.task_code-code.ensures.code u c.requires.fits.1.program in
    let slot = c.slot_of.ensures.slot ∙ ap (λ xs. slot_at xs c.args.path.now) t.cells in
    c.from_residual.ensures ∙ ap (option_and_then (value_at (program_cells config u) c.args.variables.now)) (sym c.in_err-slot.was ∙ slot) ∙ reads_variable config c.args.task c.args.variables.now c.requires.fits c.args.path.now

pub returns : goal.returns
returns c =
    let config = c.args.verified.now.config in
    let u = c.requires.fits.0 in
    let t = c.task_code-code.ensures.code u c.requires.fits.1.program in
    let slot = c.slot_of.ensures.slot ∙ ap (λ xs. slot_at xs c.args.path.now) t.cells in
    c.value.ensures ∙ ap (λ l. value_at l c.args.variables.now c.in_ok-slot.slot) (c.cells.ensures ∙ t.cells)
    ∙ ap (option_and_then (value_at (program_cells config u) c.args.variables.now)) (sym c.in_ok-slot.was ∙ slot) ∙ reads_variable config c.args.task c.args.variables.now c.requires.fits c.args.path.now
