use Rattle.std.proofs.Common.{◌∙◌}
use Rattle.load_lines.proofs.Chain.{up}
use Rattle.load_lines.proofs.Alternatives.{literal_reference}
use Rattle.il_syntax_laws.proofs.GoesOn.{any_sampled}
use Rattle.load_lines.proofs.Breaks.{at_first, map_breaks, up_breaks}
use Rattle.load_lines.proofs.Through.{err_through}
use Rattle.load_lines.specs.Reads.{gap_of}
use Rattle.il_syntax_laws.proofs.Samples.{reference_sampled}
use Rattle.load_lines.proofs.source.Source.reference.Goals as goal

pub returns-in_err-literal-clause-refused : goal.returns-in_err-literal-clause-refused
returns-in_err-literal-clause-refused c =
    up _ c.from_residual.ensures.1 (literal_reference c.args.self.now _ _ (λ e. c.in_default.not-Name (c.lead.ensures ∙ e)) c.in_err-literal.ensures.refused)

pub returns-in_err-literal-clause-begins : goal.returns-in_err-literal-clause-begins
returns-in_err-literal-clause-begins c = up_breaks _ c.from_residual.ensures.1 (at_first (any_sampled (reference_sampled (gap_of c.args.gap))) c.in_err-literal.ensures.first)

pub returns-clause-begins : goal.returns-clause-begins
returns-clause-begins c = err_through c.selected.result c.selected.ensures.begins (λ e bad. map_breaks (λ x. x) (λ x other us r w. w.1) bad)
