use Rattle.std.proofs.Common.{◌∙◌, ap, arith, refl, string_bytes}
use Rattle.scan_task.specs.declared.verified.Verified.{Verified}
use Rattle.scan_task.proofs.Sizes.{few_cars}
use Rattle.group_spec.specs.declared.image.Sizes.{Sizes}
use Rattle.group_spec.specs.Image.{sizes_of}
use Rattle.group_state.proofs.Steps.{tasks_step, tasks_done}
use Rattle.group_state.proofs.put.put_tasks.Goals as goal

pub tasks-preserved : goal.tasks-preserved
tasks-preserved c =
    tasks_step c.args.world.now.program.config c.args.world.now.world.group c.tasks.task _ refl (string_bytes c.args.text.now) (string_bytes c.tasks.text) (string_bytes c.put_if_there.new.text) c.tasks.invariant
    c.in_ok-put_if_there.ensures

pub overflow_add-task-end : goal.overflow_add-task-end
overflow_add-task-end c =
    let few = few_cars c.verified-verified.result.now.config c.config-config.ensures.runnable.declared in
    let same = ap (λ (s : Sizes). s.cars) c.sizes-task-end.ensures in
    omega (arith, few, same)

pub returns : goal.returns
returns c =
    let same = ap (λ (s : Sizes). s.cars) c.sizes-task-end.ensures ∙ ap (λ (v : Verified). (sizes_of v.config).cars) c.verified-verified.ensures in
    tasks_done c.args.world.now.program.config c.args.world.now.world.group c.tasks.task c.sizes-task-end.result.cars c.tasks-test.false c.tasks.auto.task-end same (string_bytes c.args.text.now) (string_bytes c.tasks.text)
    c.tasks.invariant
