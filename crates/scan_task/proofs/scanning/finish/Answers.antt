use Rattle.std.proofs.Common.{refl}
use Rattle.scan_task.proofs.Ending.{end_there, run_out}
use Rattle.scan_task.proofs.scanning.finish.Goals as goal

pub run-requires-clause-ends : goal.run-requires-clause-ends
run-requires-clause-ends c =
    end_there c.args.verified.now.config c.running.ensures.runnable c.args.task c.args.scan.now _ refl c.requires.scan c.requires.going _ c.running.ensures.runs _ c.budget-budget.ensures

pub returns-clause-scan : goal.returns-clause-scan
returns-clause-scan c =
    (run_out c.args.verified.now.config c.running.ensures.runnable c.args.task c.args.scan.now _ c.run.new.self c.run.result refl c.requires.scan c.requires.going _ c.running.ensures.runs _ c.budget-budget.ensures c.run.ensures).scan

pub returns-clause-ended : goal.returns-clause-ended
returns-clause-ended c =
    (run_out c.args.verified.now.config c.running.ensures.runnable c.args.task c.args.scan.now _ c.run.new.self c.run.result refl c.requires.scan c.requires.going _ c.running.ensures.runs _ c.budget-budget.ensures c.run.ensures).over

pub returns-clause-steps : goal.returns-clause-steps
returns-clause-steps c =
    (run_out c.args.verified.now.config c.running.ensures.runnable c.args.task c.args.scan.now _ c.run.new.self c.run.result refl c.requires.scan c.requires.going _ c.running.ensures.runs _ c.budget-budget.ensures c.run.ensures).reaches

pub returns-clause-some : goal.returns-clause-some
returns-clause-some c =
    (run_out c.args.verified.now.config c.running.ensures.runnable c.args.task c.args.scan.now _ c.run.new.self c.run.result refl c.requires.scan c.requires.going _ c.running.ensures.runs _ c.budget-budget.ensures c.run.ensures).some
