use Rattle.std.proofs.Common.{sym, ap, ◌∙◌}
use Rattle.std.specs.Prelude.{option_and_then}
use Rattle.load_slots.specs.Paths.{slot_at}
use Rattle.load_slots.specs.Program.{program_cells}
use Rattle.scan_loop.specs.Going.{Stored}
use Rattle.scan_task.specs.Scanning.{value_at}
use Rattle.scan_task.proofs.Looked.{value_is}
use Rattle.scan_task.proofs.looking.value_of.Goals as goal

pub returns-in_err-slot : goal.returns-in_err-slot
returns-in_err-slot c =
    let config = c.args.verified.now.config in
    let u = c.requires.0 in
    let t = c.task_code-code.ensures.code u c.requires.1.program in
    let slot = c.slot_of.ensures.slot ∙ ap (λ xs. slot_at xs c.args.path.now) t.cells in
    c.from_residual.ensures ∙ ap (option_and_then (value_at (program_cells config u) c.args.scan.now.rows)) (sym c.in_err-slot.was ∙ slot) ∙ value_is config c.args.task c.args.scan.now c.requires c.task_code-code.ensures.runnable c.args.path.now

pub returns : goal.returns
returns c =
    let config = c.args.verified.now.config in
    let u = c.requires.0 in
    let t = c.task_code-code.ensures.code u c.requires.1.program in
    let slot = c.slot_of.ensures.slot ∙ ap (λ xs. slot_at xs c.args.path.now) t.cells in
    c.value.ensures ∙ ap (λ (x : Stored). value_at c.cells.result.now x.rows c.in_ok-slot.slot) c.scan.view_is ∙ ap (λ l. value_at l c.args.scan.now.rows c.in_ok-slot.slot) (c.cells.ensures ∙ t.cells)
    ∙ ap (option_and_then (value_at (program_cells config u) c.args.scan.now.rows)) (sym c.in_ok-slot.was ∙ slot) ∙ value_is config c.args.task c.args.scan.now c.requires c.task_code-code.ensures.runnable c.args.path.now
