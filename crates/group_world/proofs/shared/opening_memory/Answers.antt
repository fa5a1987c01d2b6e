use Rattle.std.proofs.Common.{◌∙◌, sym, ap, arith}
use Rattle.scan_task.specs.Scanning.{variables_in}
use Rattle.scan_task.proofs.Sizes.{few_cars}
use Rattle.group_world.proofs.Opens.{memory_opens, task_there}
use Rattle.group_world.proofs.shared.opening_memory.Goals as goal

pub has_task-requires : goal.has_task-requires
has_task-requires c =
    let few = few_cars c.args.verified.now.config c.config-config.ensures.runnable.declared in
    omega (arith, c.requires, few)

pub opening_variables-requires : goal.opening_variables-requires
opening_variables-requires c = record { there = task_there _ _ c.requires (sym c.has_task.ensures ∙ c.if-not-has_task.false) }

pub returns-clause-task : goal.returns-clause-task
returns-clause-task c =
    rw c.none.ensures
    (memory_opens _ _ _ (sym c.has_task.ensures ∙ c.if-not-has_task.false)
    (λ u is. ap (variables_in c.args.verified.now.config c.args.task) c.in_ok-variables.ensures ∙ c.opening_variables.ensures.variables u is))
