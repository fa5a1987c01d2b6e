use Rattle.std.proofs.Common.{ap, ◌∙◌}
use Rattle.load_slots.specs.Program.{global_cells}
use Rattle.scan_task.proofs.verified.Verified.globals.Goals as goal

pub returns : goal.returns
returns c = c.cells.ensures ∙ c.globals-globals.ensures.is.cells ∙ ap global_cells c.code.ensures.same
