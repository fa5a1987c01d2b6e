use Rattle.std.proofs.Common.{take}
use Rattle.il_syntax.specs.declared.tree.ProgramLine.{ProgramLine as Item}
use Rattle.base_maps.specs.NameMap.{empty}
use Rattle.load_declarations.proofs.Againness.{IsSoFar}
use Rattle.load_declarations.proofs.again.second_line_of_task.Given as goal

abbrev pub invariant-loop-line : goal.invariant-loop-line
invariant-loop-line l = IsSoFar (λ (x : Item). x.task.name) (λ x. x.place) 24 empty l.found l.seen (take l.line-index l.lines)
