use Rattle.load_lines.proofs.Instructions.{none_refused, no_sign}
use Rattle.load_lines.proofs.Completions.{roomy_first}
use Rattle.load_lines.proofs.source.Source.signed.Goals as goal

pub returns-in_default-clause-refused : goal.returns-in_default-clause-refused
returns-in_default-clause-refused c = none_refused c.args.self.now _ _ _ _ c.requires (no_sign c.args.sign c.in_default.not-Ampersand c.in_default.not-CloseParenthesis) c.outside.ensures

pub returns-in_default-clause-begins : goal.returns-in_default-clause-begins
returns-in_default-clause-begins c = roomy_first _ (λ _. c.outside.ensures)
