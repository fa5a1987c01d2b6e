use Rattle.std.proofs.Common.{subst}
use Rattle.il_syntax.specs.declared.tree.Unit.{Unit as ProgramUnit}
use Rattle.il_syntax.specs.declared.tree.Task.{Task}
use Rattle.il_syntax.specs.declared.tree.ProgramLine.{ProgramLine}
use Rattle.il_statics.specs.Least.{IsLeast}
use Rattle.il_statics.proofs.Least.{least_both}
use Rattle.base_maps.specs.NameMap.{empty}
use Rattle.load_declarations.specs.Again.{AgainFrom}
use Rattle.load_declarations.proofs.whole.second_names_fault.Goals as goal

pub returns : goal.returns
returns c =
    least_both _ _ c.in_ok-unit.unit c.earlier.result c.earlier-2.result c.earlier-2.ensures (subst (λ l. IsLeast c.in_ok-unit.unit (AgainFrom (λ (x : ProgramUnit). x.name.name) (λ x. x.place) 20 empty l)) c.as_slice.ensures c.in_ok-unit.ensures)
    (least_both _ _ c.in_ok-task.task c.in_ok-line.line c.earlier.result c.earlier.ensures (subst (λ l. IsLeast c.in_ok-task.task (AgainFrom (λ (x : Task). x.name.name) (λ x. x.place) 20 empty l)) c.as_slice-2.ensures c.in_ok-task.ensures)
    (subst (λ l. IsLeast c.in_ok-line.line (AgainFrom (λ (x : ProgramLine). x.name.name) (λ x. x.place) 20 empty l)) c.as_slice-3.ensures c.in_ok-line.ensures))
