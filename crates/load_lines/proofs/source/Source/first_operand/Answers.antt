use Rattle.std.proofs.Common.{◌∙◌}
use Rattle.il_syntax.specs.Grammar.{SpellsFirst}
use Rattle.il_syntax_laws.proofs.Local.{line_end_told}
use Rattle.load_lines.proofs.Chain.{up, some_refused}
use Rattle.load_lines.proofs.Leaves.{line_end_lead}
use Rattle.load_lines.proofs.Breaks.{up_breaks}
use Rattle.load_lines.proofs.source.Source.first_operand.Goals as goal

pub returns-in_err-operand_line-clause-refused : goal.returns-in_err-operand_line-clause-refused
returns-in_err-operand_line-clause-refused c =
    up _ c.from_residual.ensures.1
    (some_refused {P = SpellsFirst} line_end_told (λ r w. c.in_default.not-LineEnd (c.lead.ensures ∙ line_end_lead c.args.self.now c.args.tokens.now r w)) c.in_err-operand_line.ensures.refused)

pub returns-in_err-operand_line-clause-begins : goal.returns-in_err-operand_line-clause-begins
returns-in_err-operand_line-clause-begins c = up_breaks _ c.from_residual.ensures.1 c.in_err-operand_line.ensures.begins
