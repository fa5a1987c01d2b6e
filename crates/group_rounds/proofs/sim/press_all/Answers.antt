use Rattle.std.proofs.Common.{rules, arith, ◌≡◌, ◌<◌, subst, ◌∙◌, Ok, length}
use Rattle.std.specs.Prelude.{slice_index_or}
use Rattle.scan_task.specs.Scanning.{Program, IsRunnable}
use Rattle.cli_host.specs.declared.press.Press.{Press as PressOf}
use Rattle.group_spec.specs.declared.calls.Call.{Call}
use Rattle.group_spec.specs.declared.event.Event.TheVariants.{Press}
use Rattle.group_spec.specs.Image.{sizes_of}
use Rattle.group_spec.specs.Replies.{reply_with}
use Rattle.group_spec.specs.World.{happens}
use Rattle.scan_task.proofs.Sizes.{sizes_fit}
use Rattle.group_rounds.specs.Driven.{call_of}
use Rattle.group_rounds.proofs.Driving.{is_pressed, press_next}
use Rattle.group_rounds.proofs.Fronts.{read}
use Rattle.group_rounds.proofs.sim.press_all.Goals as goal

abbrev none : PressOf
none = record { round = 0; from = 0; to = 0; panel = 0 }

pub call_of-requires-clause-from : goal.call_of-requires-clause-from
call_of-requires-clause-from c =
    let below : c.presses.press-index < length c.args.presses.now = search rules in
    let call = is_pressed (sizes_of c.args.world.now.program.config) c.args.presses.now c.presses.press-index (slice_index_or c.args.presses.now c.presses.press-index none) c.requires.calls (read c.args.presses.now c.presses.press-index none below) in
    let fit = sizes_fit c.args.world.now.program.config (subst (λ (p : Program). IsRunnable p.config) c.verified.ensures c.config-config.ensures.runnable) in
    let high = call.from.1 in
    let most = fit.1.1 in
    omega (arith, high, most)

pub call_of-requires-clause-to : goal.call_of-requires-clause-to
call_of-requires-clause-to c =
    let below : c.presses.press-index < length c.args.presses.now = search rules in
    let call = is_pressed (sizes_of c.args.world.now.program.config) c.args.presses.now c.presses.press-index (slice_index_or c.args.presses.now c.presses.press-index none) c.requires.calls (read c.args.presses.now c.presses.press-index none below) in
    let fit = sizes_fit c.args.world.now.program.config (subst (λ (p : Program). IsRunnable p.config) c.verified.ensures c.config-config.ensures.runnable) in
    let high = call.to.1 in
    let most = fit.1.1 in
    omega (arith, high, most)

pub presses-preserved : goal.presses-preserved
presses-preserved c =
    let below : c.presses.press-index < length c.args.presses.now = search rules in
    let press = slice_index_or c.args.presses.now c.presses.press-index none in
    let at = read c.args.presses.now c.presses.press-index none below in
    let reply = reply_with c.apply.result c.apply.new.report in (
      press_next c.args.world.now.program.config c.args.world.now.world c.presses.world.world c.apply.new.self.world c.args.presses.now c.presses.press-index press reply c.requires.calls at c.presses.invariant.0
          (subst (λ (p : Program). happens p.config c.presses.world.world (Press (call_of press)) ≡ Ok (c.apply.new.self.world, reply)) c.presses.invariant.1
          (subst (λ (l : Call). happens c.presses.world.program.config c.presses.world.world (Press l) ≡ Ok (c.apply.new.self.world, reply)) c.call_of.ensures c.apply.ensures.model)),
      c.apply.ensures.same ∙ c.presses.invariant.1,
    )
