use Rattle.std.proofs.Common.{ap, ◌∙◌}
use Rattle.group_world.proofs.Sound.{printed_is}
use Rattle.liftplc_c.specs.Budgets.{budget_in}
use Rattle.liftplc_c.proofs.Listed.{named_is}
use Rattle.liftplc_c.proofs.asking.task_budget.Goals as goal

pub returns-clause-listed : goal.returns-clause-listed
returns-clause-listed c = c.listed_budget.ensures ∙ ap budget_in (named_is c.args.verified.now c.args.task)

pub returns-clause-budget : goal.returns-clause-budget
returns-clause-budget c u is =
    let p = c.args.verified.now in
    let line = c.tasks-tasks.ensures.each c.args.task u is in
    c.listed_budget.ensures ∙ ap budget_in (named_is p c.args.task ∙ line.1) ∙ printed_is p c.config-config.ensures.runnable c.config-config.ensures.costs c.args.task line.0 u line.1 is.program
