use Rattle.load_code.proofs.Lined.{line_there, line_none}
use Rattle.load_code.proofs.placing.line_task.Goals as goal

pub returns-in_ok-task-in-Some : goal.returns-in_ok-task-in-Some
returns-in_ok-task-in-Some c = λ p named accepted. c.in_ok-task-in-Some.ensures p (line_there c.args.blocks.now.names.now c.args.line.now.program.name c.as_str.result.now c.in-Some.at p c.in-Some.ensures c.as_str.ensures named) accepted

pub returns-in_ok-none-in-None : goal.returns-in_ok-none-in-None
returns-in_ok-none-in-None c = λ p named accepted. absurd (line_none c.args.blocks.now.names.now c.args.line.now.program.name c.as_str.result.now p c.in-None.ensures c.as_str.ensures named)
