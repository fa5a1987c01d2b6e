use Rattle.std.proofs.Common.{map, sym, ap, ◌∙◌}
use Rattle.scan_task.specs.Scanning.{Program}
use Rattle.threads_station.specs.Passes.{TaskCount, task_of, is_task}
use Rattle.threads_station.proofs.Tasks.{task_is, filter_none}
use Rattle.threads_station.proofs.station.add_pass.Goals as goal

pub returns-then-not-is_task-clause-tasks : goal.returns-then-not-is_task-clause-tasks
returns-then-not-is_task-clause-tasks g c =
    let config = g.G.Naming.program.config in
    filter_none (is_task config) (task_of c.args.share) (map (λ (p : TaskCount). p.task) c.args.passes.now.items)
    (ap (is_task config) (sym c.task.ensures.0) ∙ ap (λ (p : Program). is_task p.config c.task.result) (sym c.requires.program) ∙ sym c.is_task.ensures ∙ c.if-not-is_task.true)

pub pass_of-requires-clause-there : goal.pass_of-requires-clause-there
pass_of-requires-clause-there g c =
    let config = g.G.Naming.program.config in
    task_is config (task_of c.args.share) (ap (is_task config) (sym c.task.ensures.0) ∙ ap (λ (p : Program). is_task p.config c.task.result) (sym c.requires.program) ∙ sym c.is_task.ensures ∙ c.if-not-is_task.false)
