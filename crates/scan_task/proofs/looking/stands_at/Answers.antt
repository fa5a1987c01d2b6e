use Rattle.std.proofs.Common.{sym, ap, ◌∙◌, slice_get, Some}
use Rattle.std.specs.Prelude.{option_map}
use Rattle.scan_loop.specs.Going.{Runs}
use Rattle.scan_loop.specs.Framing.{name_of_code}
use Rattle.load_slots.specs.Program.{program_code}
use Rattle.scan_task.specs.Looking.{shown_stand}
use Rattle.scan_task.proofs.Looked.{flat_stand, stand_is}
use Rattle.scan_task.proofs.looking.stands_at.Goals as goal

pub returns-in_err-frame : goal.returns-in_err-frame
returns-in_err-frame c =
    let config = c.args.verified.now.config in
    ap (option_map shown_stand) c.from_residual.ensures
    ∙ ap (option_map (flat_stand (program_code config c.requires.0).units)) (sym c.in_err-frame.was ∙ c.frame_at.ensures)
    ∙ sym (stand_is config c.args.task c.args.scan.now c.requires c.args.level)

pub returns : goal.returns
returns c =
    let config = c.args.verified.now.config in
    let units = ap (λ (r : Runs). r.units) (c.running.ensures.runs c.requires.0 c.requires.1.program) in
    ap (λ n. Some (n, c.in_ok-frame.frame.place)) (c.name_of_code.ensures ∙ ap (λ us. name_of_code (slice_get us c.in_ok-frame.frame.unit)) units)
    ∙ ap (option_map (flat_stand (program_code config c.requires.0).units)) (sym c.in_ok-frame.was ∙ c.frame_at.ensures)
    ∙ sym (stand_is config c.args.task c.args.scan.now c.requires c.args.level)
