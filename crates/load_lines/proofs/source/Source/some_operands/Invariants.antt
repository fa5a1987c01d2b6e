use Rattle.std.proofs.Common.{length, ◌≤◌}
use Rattle.il_syntax.specs.Grammar.{tight, TheLineEnd, SpellsOperand}
use Rattle.load_lines.proofs.Chain.{Wants}
use Rattle.load_lines.proofs.source.Source.some_operands.Given as goal

abbrev pub invariant-operands : goal.invariant-operands
invariant-operands l = (length l.tokens ≤ length l.fn.tokens) × Wants tight (λ text. SpellsOperand text tight) (λ text. TheLineEnd) l.self l.fn.tokens l.operands l.tokens

abbrev pub decreases-operands : goal.decreases-operands
decreases-operands l = length l.tokens
