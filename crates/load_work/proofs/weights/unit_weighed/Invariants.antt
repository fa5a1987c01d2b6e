use Rattle.std.proofs.Common.{◌≡◌, ◌++◌, map, drop}
use Rattle.load_work.specs.Weights.{weighed_of, unit_weighed}
use Rattle.load_work.proofs.weights.unit_weighed.Given as goal

abbrev pub invariant-steps : goal.invariant-steps
invariant-steps l = l.all ++ map (λ s. weighed_of l.names l.sizes l.unit s.instruction) (drop l.step-index l.unit.body.steps) ≡ unit_weighed l.names l.sizes l.unit
