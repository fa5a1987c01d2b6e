use Rattle.std.proofs.Common.{ap, sym, ◌∙◌}
use Rattle.il_statics.specs.Names.{is_predeclared}
use Rattle.il_statics.proofs.Least.{least_both, least_if}
use Rattle.load_declarations.proofs.taken.taken_in_unit.Goals as goal

pub returns : goal.returns
returns c =
    let same = c.is_predeclared-predeclared.ensures ∙ ap (is_predeclared c.args.names.now) c.as_str.ensures in
    least_both _ _ c.fault_if-heading.result c.taken_variables.result c.earlier.result c.earlier.ensures
    (least_if c.is_predeclared-predeclared.result 20 c.args.unit.now.place c.fault_if-heading.result _ c.fault_if-heading.ensures (λ e. sym same ∙ e) (λ e. same ∙ e)) c.taken_variables.ensures
