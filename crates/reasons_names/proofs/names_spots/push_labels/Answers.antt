use Rattle.std.proofs.Common.{◌++◌, ap, ◌∙◌}
use Rattle.il_syntax.specs.declared.tree.Step.{Step}
use Rattle.reasons_names.specs.NameSpots.{shown}
use Rattle.reasons_names.proofs.TypeTexts.{read_more}
use Rattle.reasons_names.proofs.names_spots.push_labels.Goals as goal

pub steps-preserved : goal.steps-preserved
steps-preserved c =
    read_more (λ (s : Step). s.labels) c.args.steps.now c.steps.step-index c.step-item.result (shown c.args.spots.now.items) (shown c.steps.spots.items) (shown c.push_named.new.spots.items)
    c.steps-test.true c.step-item.is c.steps.invariant (c.in_ok-push_named.ensures ∙ ap (λ n. shown c.steps.spots.items ++ n) c.as_slice.ensures)
