use Rattle.std.proofs.Common.{◌≡◌, map, drop}
use Rattle.il_syntax.specs.declared.tree.ProgramLine.{ProgramLine}
use Rattle.il_statics.specs.Names.{is_one_of}
use Rattle.reasons_faults.proofs.tasks.has_line.Given as goal

abbrev pub invariant-lines : goal.invariant-lines
invariant-lines l = is_one_of (map (λ (p : ProgramLine). p.task.name) (drop l.line-index l.lines)) l.task ≡ is_one_of (map (λ (p : ProgramLine). p.task.name) l.lines) l.task
