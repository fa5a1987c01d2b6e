use Rattle.load_lines.proofs.Chain.{up, at_refused}
use Rattle.load_lines.proofs.source.Source.named.Goals as goal

pub returns-in_err-name-clause-refused : goal.returns-in_err-name-clause-refused
returns-in_err-name-clause-refused c = up _ c.from_residual.ensures.1 (at_refused (λ n. n.place) (λ n. n.name) c.in_err-name.ensures.refused)
