use Rattle.std.proofs.Common.{arith}
use Rattle.load_code.proofs.Lined.{tasks_none, tasks_next, tasks_all}
use Rattle.load_code.proofs.placing.line_tasks.Goals as goal

pub lines-init : goal.lines-init
lines-init c = tasks_none c.args.blocks.now.names.now c.args.lines.now c.new-tasks.result c.new-tasks.ensures

pub lines-preserved : goal.lines-preserved
lines-preserved c =
    tasks_next c.args.blocks.now.names.now c.args.lines.now c.lines.tasks c.push.new.self c.lines.line-index c.line-item.result c.in_ok-line_task.field-0 (omega arith) c.line-item.is c.lines.invariant c.in_ok-push.ensures.ok c.in_ok-line_task.ensures

pub returns : goal.returns
returns c = tasks_all c.args.blocks.now.names.now c.args.lines.now c.lines.line-index c.lines.tasks (omega arith) c.lines.invariant
