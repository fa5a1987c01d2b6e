use Rattle.load_lines.proofs.Chain.{up, at_refused}
use Rattle.load_lines.proofs.Breaks.{at_first, placed_breaks, up_breaks}
use Rattle.load_lines.proofs.Completions.{placed_sampled}
use Rattle.load_tree.proofs.Rests.{scalar_filling}
use Rattle.il_syntax_laws.proofs.Samples.{scalar_sampled}
use Rattle.load_tree.proofs.headings.placed_scalar.Goals as goal

pub returns-in_err-scalar-clause-refused : goal.returns-in_err-scalar-clause-refused
returns-in_err-scalar-clause-refused c = up _ c.from_residual.ensures.1 (at_refused (λ x. x.0) (λ x. x.1) c.in_err-scalar.ensures.refused)

pub returns-in_default-clause-begins : goal.returns-in_default-clause-begins
returns-in_default-clause-begins c = at_first (placed_sampled scalar_filling scalar_sampled) (λ _. c.outside.ensures)

pub returns-in_err-scalar-clause-begins : goal.returns-in_err-scalar-clause-begins
returns-in_err-scalar-clause-begins c = up_breaks _ c.from_residual.ensures.1 (placed_breaks scalar_filling c.in_err-scalar.ensures.begins)
