use Rattle.std.proofs.Common.{ap, ◌∙◌}
use Rattle.load_slots.specs.Program.{global_cells}
use Rattle.scan_task.proofs.verified.Verified.global_code.Goals as goal

pub returns-clause-cells : goal.returns-clause-cells
returns-clause-cells c = c.globals.ensures.is.cells ∙ ap global_cells c.code.ensures.same
