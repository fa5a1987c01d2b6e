use Rattle.std.proofs.Common.{◌≡◌, ◌++◌, take, flat_map}
use Rattle.il_syntax.specs.declared.tree.Step.{Step}
use Rattle.reasons_names.specs.NameSpots.{shown}
use Rattle.reasons_names.proofs.names_spots.push_labels.Given as goal

abbrev pub invariant-steps : goal.invariant-steps
invariant-steps l = shown l.spots.items ≡ shown l.initial.spots.items ++ flat_map (λ (s : Step). s.labels) (take l.step-index l.steps)
