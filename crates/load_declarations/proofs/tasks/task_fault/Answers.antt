use Rattle.std.proofs.Common.{ap, ◌∙◌, sym, map, not}
use Rattle.il_statics.specs.Names.{task_role}
use Rattle.il_statics.specs.Least.{fault_of}
use Rattle.il_statics.proofs.Least.{least_both, least_if}
use Rattle.load_declarations.proofs.TaskLaws.{none_is, is_none_of, set_not_in, set_in_none}
use Rattle.load_declarations.proofs.tasks.task_fault.Goals as goal

pub returns : goal.returns
returns c =
    let name = c.args.task.now.name.name in
    let lines = map (λ l. l.task.name) c.args.names.now.programs in
    least_both _ _ c.fault_if.result c.fault_if-2.result c.earlier.result c.earlier.ensures
    (least_if c.is_foreign.result 24 c.args.task.now.place c.fault_if.result _ c.fault_if.ensures (λ e. none_is (task_role c.args.names.now.cars.value name) (sym c.is_foreign.ensures ∙ e)) (λ e. c.is_foreign.ensures ∙ is_none_of (task_role c.args.names.now.cars.value name) e))
    (least_if (not c.has_name-idle.result) 24 c.args.names.now.end_resource c.fault_if-2.result _ (c.fault_if-2.ensures ∙ ap (λ k. fault_of (not c.has_name-idle.result) 24 k.end_resource) c.config.ensures)
    (λ e. set_not_in lines c.args.lines.now name c.as_str.result.now c.has_name-idle.result c.has_name-idle.ensures c.as_str.ensures c.requires e) (λ e. set_in_none lines c.args.lines.now name c.as_str.result.now c.has_name-idle.result c.has_name-idle.ensures c.as_str.ensures c.requires e))
