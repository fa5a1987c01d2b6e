use Rattle.std.proofs.Common.{arith, length, ◌≤◌, ◌+◌, ◌*◌, subst, ap, ◌∙◌, mul-le-mul}
use Rattle.scan_task.specs.Scanning.{Program, IsRunnable}
use Rattle.group_journal.specs.Rounds.{tasks_in_order}
use Rattle.scan_task.proofs.Sizes.{sizes_fit}
use Rattle.group_rounds.proofs.Driving.{entries_fit}
use Rattle.group_rounds.proofs.sim.simulate_on.Goals as goal

pub overflow_mul-from : goal.overflow_mul-from
overflow_mul-from g c =
    let fit = sizes_fit c.args.world.now.program.config (subst (λ (p : Program). IsRunnable p.config) c.verified.ensures c.config-config.ensures.runnable) in
    let nine = entries_fit c.args.world.now.program.config c.as_slice-tasks.result.now (c.as_slice-tasks.ensures ∙ c.tasks_in-tasks.ensures ∙ ap (λ (p : Program). tasks_in_order p.config) c.verified-2.ensures) fit.0.1 in
    let few = c.ranges.rounds.fits in
    let rounds = c.from.ensures in
    let first : c.from.result ≤ 65535 = omega (arith, few, rounds) in
    let second : 1 + 2 * length c.as_slice-tasks.result.now ≤ 19 = omega (arith, nine) in
    let product = mul-le-mul first second in
    omega (arith, product)
