use Rattle.std.proofs.Common.{take}
use Rattle.std.specs.Prelude.{flat_map}
use Rattle.il_syntax.specs.declared.tree.Step.{Step}
use Rattle.il_syntax.specs.declared.tree.Named.{Named}
use Rattle.load_declarations.proofs.Againness.{IsSoFar}
use Rattle.load_declarations.proofs.again.again_labels.Given as goal

abbrev pub invariant-loop-step : goal.invariant-loop-step
invariant-loop-step l = IsSoFar (λ (n : Named). n.name) (λ n. n.place) 20 l.fn.seen l.found l.seen (flat_map (λ (x : Step). x.labels) (take l.step-index l.steps))
