use Rattle.std.proofs.Common.{take}
use Rattle.load_code.specs.Tasks.{AreTasksOf}
use Rattle.load_code.proofs.placing.line_tasks.Given as goal

-- those of the lines so far
abbrev pub invariant-lines : goal.invariant-lines
invariant-lines l = AreTasksOf l.blocks.names.now (take l.line-index l.lines) l.tasks
