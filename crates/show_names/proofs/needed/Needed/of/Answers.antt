use Rattle.std.proofs.Common.{ap, ◌∙◌}
use Rattle.std.specs.List.{list_any}
use Rattle.il_syntax.specs.declared.tree.Unit.{Unit as ProgramUnit}
use Rattle.show_names.specs.Uses.{is_used}
use Rattle.show_names.specs.declared.uses.Manner.TheVariants.{Called}
use Rattle.show_names.specs.Warnings.{have_instance}
use Rattle.show_names.proofs.needed.Needed.of.Goals as goal

pub invariant_of-result : goal.invariant_of-result
invariant_of-result c = record {
  calls = λ name. c.in_ok-called.ensures name ∙ ap (list_any (λ (u : ProgramUnit). is_used Called name u.body.steps)) c.as_slice.ensures;
  instances = λ name. c.in_ok-declared.ensures name ∙ ap (list_any (λ (u : ProgramUnit). have_instance name u.variables)) c.as_slice-2.ensures;
}
