use Rattle.std.proofs.Common.{ℕ, length, ◌≤◌, List}
use Rattle.il_syntax.specs.declared.tree.Named.{Named}
use Rattle.il_syntax.specs.declared.tree.Place.{Place}
use Rattle.il_syntax.specs.Grammar.{SpellsStep}
use Rattle.load_lines.proofs.Chain.{HasRead}
use Rattle.load_lines.proofs.Nesting.{IsOpen}
use Rattle.load_tree.proofs.Entries.{TheEnds}
use Rattle.load_tree.proofs.LateBodies.{HasCut}
use Rattle.load_tree.proofs.bodies.steps.Given as goal

abbrev pub invariant-steps : goal.invariant-steps
invariant-steps l =
    (l.depth ≤ 16) × (length l.steps ≤ 4096) × ((most : ℕ) × (most ≤ 16) × IsOpen l.steps l.depth l.load most)
    × ((b : List Named × Place) → HasRead SpellsStep (λ text. TheEnds text l.last b) l.source l.fn.tokens l.steps l.tokens)
    × ((b : List Named × Place) → HasCut SpellsStep (λ text. TheEnds text l.last b) l.source l.fn.tokens l.steps l.tokens)

abbrev pub decreases-steps : goal.decreases-steps
decreases-steps l = length l.tokens
