use Rattle.load_lines.proofs.Breaks.{at_first, map_breaks, placed_breaks, up_breaks}
use Rattle.load_lines.proofs.Completions.{form_filling}
use Rattle.il_syntax_laws.proofs.Samples.{type_sampled}
use Rattle.load_lines.proofs.source.Source.written_type.Goals as goal

pub returns-in_default-clause-begins : goal.returns-in_default-clause-begins
returns-in_default-clause-begins c = at_first type_sampled (λ _. c.outside.ensures)

pub returns-in_err-form-clause-begins : goal.returns-in_err-form-clause-begins
returns-in_err-form-clause-begins c = up_breaks _ c.from_residual.ensures.1 (map_breaks (λ x. record { place = x.0; form = x.1 }) (λ x other us r w. w) (placed_breaks form_filling c.in_err-form.ensures.begins))
