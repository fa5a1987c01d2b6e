use Rattle.std.proofs.Common.{◌≡◌, ◌∙◌, Some, ap, refl, string_bytes}
use Rattle.scan_task.specs.declared.verified.Verified.{Verified}
use Rattle.group_spec.specs.Snapshot.{program_of}
use Rattle.group_spec.specs.World.{task_at}
use Rattle.group_state.proofs.Steps.{task_fits, variables_step}
use Rattle.group_state.proofs.put.put_task.Goals as goal

pub put_changed-requires : goal.put_changed-requires
put_changed-requires c = task_fits c.args.world.now.program.config c.verified-verified.result.now.config (ap (λ (v : Verified). v.config) c.verified-verified.ensures) c.config-config.ensures.runnable c.args.task c.requires

pub cells-preserved : goal.cells-preserved
cells-preserved c =
    let u = c.requires.0 in
    let program : program_of c.verified-verified.result.now.config c.args.task ≡ Some u = ap (λ (v : Verified). program_of v.config c.args.task) c.verified-verified.ensures ∙ c.requires.1.program in
    variables_step c.args.world.now.program.config c.verified-verified.result.now.config (ap (λ (v : Verified). v.config) c.verified-verified.ensures) c.config-config.ensures.runnable c.args.task u program
    c.own_cells-cells.result.now (c.own_cells-cells.ensures u program) c.opening_variables-first.result.now c.opening_variables-first.ensures.fits (c.opening_variables-first.ensures.variables u program) c.cells.at _ c.index-cells-at.result
    c.cells-test.true c.index-cells-at.is refl (task_at c.args.world.now.world.group c.args.task) c.first_value-initial.result c.first_value-initial.ensures c.as_str-path.result.now c.as_str-path.ensures c.variable.result
    c.variable.ensures (string_bytes c.args.text.now) (string_bytes c.cells.text) (string_bytes c.put_changed.new.text) c.cells.invariant c.in_ok-put_changed.ensures
