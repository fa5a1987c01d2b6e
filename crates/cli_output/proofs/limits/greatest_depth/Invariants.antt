use Rattle.std.proofs.Common.{◌≡◌, ◌≤◌, drop}
use Rattle.std.specs.Prelude.{max}
use Rattle.il_syntax.specs.Grammar.{greatest_depth}
use Rattle.cli_output.proofs.limits.greatest_depth.Given as goal

-- the instructions that are left complete the search
abbrev pub invariant-steps : goal.invariant-steps
invariant-steps l = (max l.greatest (greatest_depth l.depth (drop l.step-index l.steps)) ≡ greatest_depth 0 l.steps) × (l.depth ≤ l.step-index)
