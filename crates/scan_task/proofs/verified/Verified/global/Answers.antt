use Rattle.std.proofs.Common.{sym, ap, ◌∙◌}
use Rattle.std.specs.Prelude.{option_and_then}
use Rattle.load_slots.specs.Paths.{slot_at}
use Rattle.load_slots.specs.Program.{global_cells}
use Rattle.scan_task.specs.Scanning.{value_at}
use Rattle.scan_task.proofs.Copied.{reads_path}
use Rattle.scan_task.proofs.verified.Verified.global.Goals as goal

pub returns-in_err-slot : goal.returns-in_err-slot
returns-in_err-slot c =
    let config = c.args.self.now.config in
    let cells = c.globals-layout.ensures.is.cells ∙ ap global_cells c.code.ensures.same in
    let slot = c.slot_of.ensures.slot ∙ ap (λ xs. slot_at xs c.args.path.now) cells in
    c.from_residual.ensures ∙ ap (option_and_then (value_at (global_cells config) c.args.globals.now)) (sym c.in_err-slot.was ∙ slot) ∙ reads_path (global_cells config) c.args.globals.now c.requires.fits c.args.path.now

pub returns : goal.returns
returns c =
    let config = c.args.self.now.config in
    let cells = c.globals-layout.ensures.is.cells ∙ ap global_cells c.code.ensures.same in
    let slot = c.slot_of.ensures.slot ∙ ap (λ xs. slot_at xs c.args.path.now) cells in
    c.value.ensures ∙ ap (λ l. value_at l c.args.globals.now c.in_ok-slot.slot) (c.cells.ensures ∙ cells)
    ∙ ap (option_and_then (value_at (global_cells config) c.args.globals.now)) (sym c.in_ok-slot.was ∙ slot) ∙ reads_path (global_cells config) c.args.globals.now c.requires.fits c.args.path.now
