use Rattle.std.proofs.Common.{◌∙◌, ap, subst}
use Rattle.il_statics.specs.Least.{IsLeast}
use Rattle.il_statics.proofs.Least.{least_both}
use Rattle.il_syntax.specs.declared.tree.ProgramLine.{ProgramLine}
use Rattle.base_maps.specs.NameMap.{empty}
use Rattle.load_declarations.specs.Again.{AgainFrom}
use Rattle.load_declarations.proofs.whole.tasks_fault.Goals as goal

pub returns : goal.returns
returns c =
    least_both _ _ c.in_ok-tasks.tasks c.earlier-3.result c.earlier-4.result c.earlier-4.ensures c.in_ok-tasks.ensures
    (least_both _ _ c.in_ok-lines.lines c.earlier-2.result c.earlier-3.result c.earlier-3.ensures c.in_ok-lines.ensures
    (least_both _ _ c.in_ok-unused.unused c.earlier.result c.earlier-2.result c.earlier-2.ensures c.in_ok-unused.ensures
    (least_both _ _ c.in_ok-missing.missing c.in_ok-second.second c.earlier.result c.earlier.ensures c.in_ok-missing.ensures
    (subst (λ l. IsLeast c.in_ok-second.second (AgainFrom (λ (x : ProgramLine). x.task.name) (λ x. x.place) 24 empty l)) (c.as_slice.ensures ∙ ap (λ k. k.programs) c.config.ensures) c.in_ok-second.ensures))))
