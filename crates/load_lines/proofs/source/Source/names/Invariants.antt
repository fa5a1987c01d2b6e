use Rattle.std.proofs.Common.{length, ◌≤◌}
use Rattle.il_syntax.specs.declared.token.Sign.TheVariants.{Colon}
use Rattle.il_syntax.specs.Grammar.{loose, TheSign, TheName}
use Rattle.load_lines.proofs.Chain.{Wants}
use Rattle.load_lines.proofs.source.Source.names.Given as goal

abbrev pub invariant-names : goal.invariant-names
invariant-names l = (length l.tokens ≤ length l.fn.tokens) × Wants loose TheName (λ text. TheSign Colon) l.self l.fn.tokens l.names l.tokens

abbrev pub decreases-names : goal.decreases-names
decreases-names l = length l.tokens
