use Rattle.std.proofs.Common.{◌++◌, ◌∙◌, ap, subst}
use Rattle.std.specs.Prelude.{flat_map}
use Rattle.base_maps.specs.NameMap.{empty}
use Rattle.il_syntax.specs.declared.tree.Step.{Step}
use Rattle.il_statics.specs.Least.{IsLeast}
use Rattle.load_declarations.specs.Again.{NamedAgain}
use Rattle.load_declarations.proofs.Againness.{two_lists}
use Rattle.load_declarations.proofs.again.second_label.Goals as goal

pub returns : goal.returns
returns c =
    subst (λ l. IsLeast c.earlier.result (NamedAgain empty l)) (ap (λ l. flat_map (λ (s : Step). s.labels) l ++ c.as_slice-2.result.now) c.as_slice.ensures ∙ ap (λ l. flat_map (λ (s : Step). s.labels) c.args.body.now.steps ++ l) c.as_slice-2.ensures)
    (two_lists empty c.new-seen.result c.again_labels.new.seen (flat_map (λ (s : Step). s.labels) c.as_slice.result.now) c.as_slice-2.result.now c.in_ok-first.first c.in_ok-last.last c.earlier.result c.new-seen.ensures c.in_ok-first.ensures.found c.in_ok-first.ensures.seen c.in_ok-last.ensures.found c.earlier.ensures)
