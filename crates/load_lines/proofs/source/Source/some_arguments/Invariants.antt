use Rattle.std.proofs.Common.{length, ◌≤◌}
use Rattle.il_syntax.specs.declared.token.Sign.TheVariants.{CloseParenthesis}
use Rattle.il_syntax.specs.Grammar.{loose, TheSign, SpellsArgument}
use Rattle.load_lines.proofs.Chain.{Wants}
use Rattle.load_lines.proofs.source.Source.some_arguments.Given as goal

abbrev pub invariant-arguments : goal.invariant-arguments
invariant-arguments l = (length l.tokens ≤ length l.fn.tokens) × Wants loose SpellsArgument (λ text. TheSign CloseParenthesis) l.self l.fn.tokens l.arguments l.tokens

abbrev pub decreases-arguments : goal.decreases-arguments
decreases-arguments l = length l.tokens
