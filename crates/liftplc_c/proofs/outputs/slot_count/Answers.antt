use Rattle.std.proofs.Common.{arith, subst, sym, ap, ◌∙◌}
use Rattle.scan_task.specs.Scanning.{Program, IsRunnable}
use Rattle.group_spec.specs.declared.image.Sizes.{Sizes}
use Rattle.liftplc_c.proofs.Slots.{slots_many, slots_few}
use Rattle.liftplc_c.proofs.outputs.slot_count.Goals as goal

pub returns-clause-count : goal.returns-clause-count
returns-clause-count c =
    let runs = subst (λ (p : Program). IsRunnable p.config) c.verified.ensures c.config-config.ensures.runnable in
    ap (λ (s : Sizes). s.slots) c.sizes.ensures ∙ sym (slots_many c.args.world.now runs c.image-image.ensures.reached)

pub returns-clause-few : goal.returns-clause-few
returns-clause-few c =
    let runs = subst (λ (p : Program). IsRunnable p.config) c.verified.ensures c.config-config.ensures.runnable in
    let same = ap (λ (s : Sizes). s.slots) c.sizes.ensures in
    let few = slots_few c.args.world.now runs in
    omega (arith, same, few)
