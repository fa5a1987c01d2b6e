use Rattle.std.proofs.Common.{rules, arith, ◌<◌, ◌≤◌, ◌+◌, ◌∷◌, [], length, sym, ap, ◌∙◌, true, false, length-append}
use Rattle.group_spec.specs.declared.image.Sizes.{Sizes}
use Rattle.scan_task.proofs.Sizes.{sizes_fit}
use Rattle.group_rounds.proofs.Driving.{tasks_more}
use Rattle.group_rounds.proofs.steps.tasks_in.Goals as goal
use Rattle.group_rounds.proofs.steps.tasks_in.Goals.{then-has_task, else-has_task}

pub has_task-requires : goal.has_task-requires
has_task-requires c =
    let low : c.cars.below < c.sizes-cars.result.cars = search rules in
    let few = (sizes_fit c.args.verified.now.config c.config-config.ensures.runnable).0.1 in
    let same = ap (λ (s : Sizes). s.cars) c.sizes-cars.ensures in
    omega (arith, low, few, same)

pub push-requires : goal.push-requires
push-requires c =
    let low : c.cars.below < c.sizes-cars.result.cars = search rules in
    let few = (sizes_fit c.args.verified.now.config c.config-config.ensures.runnable).0.1 in
    let same = ap (λ (s : Sizes). s.cars) c.sizes-cars.ensures in
    let so = c.cars.invariant.1 in
    let room : length c.cars.tasks < 9 = omega (arith, low, few, same, so) in
    (omega arith, room)

pub cars-preserved : goal.cars-preserved
cars-preserved c =
    elim c.if-has_task.branch [
      | then-has_task w ↦ (
        rw w.tasks-is (w.push.ensures ∙ tasks_more c.args.verified.now.config c.cars.below c.cars.tasks c.cars.invariant.0 true (sym c.has_task.ensures ∙ w.if-has_task.true)),
        rw w.tasks-is (let so = c.cars.invariant.1 in let longer = ap length w.push.ensures ∙ length-append c.cars.tasks ((c.cars.below + 1) ∷ []) in omega (arith, so, longer)),
      )
      | else-has_task w ↦ (
        rw w.tasks-is (tasks_more c.args.verified.now.config c.cars.below c.cars.tasks c.cars.invariant.0 false (sym c.has_task.ensures ∙ w.if-has_task.false)),
        rw w.tasks-is (let so = c.cars.invariant.1 in omega (arith, so)),
      )
    ]

pub push-requires-then-has_task-2 : goal.push-requires-then-has_task-2
push-requires-then-has_task-2 c =
    let low : c.cars.below ≤ c.sizes-cars.result.cars = search rules in
    let few = (sizes_fit c.args.verified.now.config c.config-config.ensures.runnable).0.1 in
    let same = ap (λ (s : Sizes). s.cars) c.sizes-cars.ensures in
    let so = c.cars.invariant.1 in
    let room : length c.cars.tasks < 9 = omega (arith, low, few, same, so) in
    (omega arith, room)
