use Rattle.load_lines.proofs.Breaks.{at_first, up_breaks}
use Rattle.load_lines.proofs.Completions.{target_breaks}
use Rattle.il_syntax_laws.proofs.Samples.{target_sampled}
use Rattle.load_lines.proofs.source.Source.target.Goals as goal

pub returns-in_default-clause-begins : goal.returns-in_default-clause-begins
returns-in_default-clause-begins c = at_first target_sampled (λ _. c.outside.ensures)

pub returns-in_default-lead-clause-begins : goal.returns-in_default-lead-clause-begins
returns-in_default-lead-clause-begins c = at_first target_sampled (λ _. c.outside-in_default-lead.ensures)

pub returns-in_err-reference-clause-begins : goal.returns-in_err-reference-clause-begins
returns-in_err-reference-clause-begins c = up_breaks _ c.from_residual.ensures.1 (target_breaks c.in_err-reference.ensures.begins)
