use Rattle.std.proofs.Common.{◌∙◌}
use Rattle.scan_task.proofs.Opened.{opens_fit, opens_as, opens_declared}
use Rattle.scan_task.proofs.verified.Verified.opening_variables.Goals as goal

pub returns-clause-fits : goal.returns-clause-fits
returns-clause-fits c = opens_fit c.args.self.now.config c.task_code.ensures.runnable c.args.task c.requires.there c.initial.result.now (λ u is. c.initial.ensures ∙ (c.task_code.ensures.code u is).first)

pub returns-clause-variables : goal.returns-clause-variables
returns-clause-variables c = opens_as c.args.self.now.config c.task_code.ensures.runnable c.args.task c.requires.there c.initial.result.now (λ u is. c.initial.ensures ∙ (c.task_code.ensures.code u is).first)

pub returns-clause-own : goal.returns-clause-own
returns-clause-own c = opens_declared c.args.self.now.config c.task_code.ensures.runnable c.args.task c.requires.there c.initial.result.now (λ u is. c.initial.ensures ∙ (c.task_code.ensures.code u is).first)
