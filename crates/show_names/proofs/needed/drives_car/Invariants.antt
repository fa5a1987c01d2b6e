use Rattle.std.proofs.Common.{◌≡◌, ◌&&◌, false, take, bytes_eq}
use Rattle.std.specs.List.{list_any}
use Rattle.il_syntax.specs.declared.tree.ProgramLine.{ProgramLine}
use Rattle.show_names.specs.Warnings.{is_car_task}
use Rattle.show_names.proofs.needed.drives_car.Given as goal

abbrev pub invariant-lines : goal.invariant-lines
invariant-lines l = list_any (λ (p : ProgramLine). bytes_eq p.program.name l.name && is_car_task p.task.name) (take l.line-index l.lines) ≡ false
