use Rattle.load_lines.proofs.Chain.{up, at_refused, as_value}
use Rattle.load_lines.proofs.source.Source.placed_word.Goals as goal

pub returns-in_err-word-clause-refused : goal.returns-in_err-word-clause-refused
returns-in_err-word-clause-refused c = up _ c.from_residual.ensures.1 (at_refused (λ p. p) (λ p. tt) (as_value c.in_err-word.ensures.refused))
