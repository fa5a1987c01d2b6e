use Rattle.std.proofs.Common.{◌+◌, ◌∙◌, ap, arith, refl, map, string_bytes}
use Rattle.scan_task.proofs.Sizes.{few_cars}
use Rattle.group_spec.specs.declared.image.Sizes.{Sizes}
use Rattle.show_values.specs.Known.{task_names}
use Rattle.show_values.proofs.Knowing.{each_added}
use Rattle.show_values.proofs.known.add_tasks.Goals as goal

pub tasks-preserved : goal.tasks-preserved
tasks-preserved c =
    let task = c.tasks.task in
    each_added (task_names c.args.verified.now.config) 0 task (task + 1) task refl (omega arith) (map string_bytes c.args.names.now.items) (map string_bytes c.tasks.names.items) (map string_bytes c.add_task.new.names.items) c.tasks.invariant
    c.in_ok-add_task.ensures

pub overflow_add-task-end : goal.overflow_add-task-end
overflow_add-task-end c =
    let few = few_cars c.args.verified.now.config c.config-config.ensures.runnable.declared in
    let same = ap (λ (s : Sizes). s.cars) c.sizes-task-end.ensures in
    omega (arith, few, same)
