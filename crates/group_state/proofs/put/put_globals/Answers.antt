use Rattle.std.proofs.Common.{ap, refl, string_bytes}
use Rattle.scan_task.specs.declared.verified.Verified.{Verified}
use Rattle.group_state.proofs.Steps.{globals_step}
use Rattle.group_state.proofs.put.put_globals.Goals as goal

pub globals-preserved : goal.globals-preserved
globals-preserved c =
    globals_step c.args.world.now.program.config c.verified-verified.result.now.config (ap (λ (v : Verified). v.config) c.verified-verified.ensures) c.config-config.ensures.runnable c.globals-cells.result.now
    c.globals-cells.ensures c.opening_globals-first.result.now c.opening_globals-first.ensures.fits c.opening_globals-first.ensures.opening c.globals.at _ c.index-cells-at.result c.globals-test.true c.index-cells-at.is refl
    c.args.world.now.world.group.globals c.first_value-initial.result c.first_value-initial.ensures c.as_str-path.result.now c.as_str-path.ensures c.global.result c.global.ensures (string_bytes c.args.text.now)
    (string_bytes c.globals.text) (string_bytes c.put_changed.new.text) c.globals.invariant c.in_ok-put_changed.ensures
