use Rattle.il_syntax_laws.proofs.GoesOn.{any_sampled}
use Rattle.load_lines.proofs.Breaks.{at_first, up_breaks}
use Rattle.load_lines.specs.Reads.{gap_of}
use Rattle.il_syntax_laws.proofs.Samples.{operand_sampled}
use Rattle.load_lines.proofs.Completions.{reference_breaks}
use Rattle.load_lines.proofs.source.Source.operand.Goals as goal

pub returns-in_default-clause-begins : goal.returns-in_default-clause-begins
returns-in_default-clause-begins c = at_first (any_sampled (operand_sampled (gap_of c.args.gap))) (λ _. c.outside.ensures)

pub returns-in_err-reference-clause-begins : goal.returns-in_err-reference-clause-begins
returns-in_err-reference-clause-begins c = up_breaks _ c.from_residual.ensures.1 (reference_breaks c.args.gap c.in_err-reference.ensures.begins)
