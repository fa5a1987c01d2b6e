use Rattle.scan_task.proofs.Lines.{prints_budgets}
use Rattle.scan_task.proofs.Shown.{lists_tasks}
use Rattle.scan_task.proofs.verified.Verified.tasks.Goals as goal

pub returns-clause-budgets : goal.returns-clause-budgets
returns-clause-budgets c = prints_budgets c.args.self.now c.config-config.ensures.runnable c.config-config.ensures.costs

pub returns-clause-each : goal.returns-clause-each
returns-clause-each c = lists_tasks c.args.self.now c.config-config.ensures.runnable c.config-config.ensures.costs
