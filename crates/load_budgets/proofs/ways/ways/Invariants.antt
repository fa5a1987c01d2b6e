use Rattle.std.proofs.Common.{◌≡◌, ◌++◌, map, drop}
use Rattle.load_budgets.specs.Ways.{way_of}
use Rattle.load_budgets.proofs.ways.ways.Given as goal

-- the ways of the steps so far, and those of what is left
abbrev pub invariant-steps : goal.invariant-steps
invariant-steps l = l.ways ++ map (λ s. way_of l.names l.unit s.instruction) (drop l.step-index l.unit.body.steps) ≡ map (λ s. way_of l.names l.unit s.instruction) l.unit.body.steps
