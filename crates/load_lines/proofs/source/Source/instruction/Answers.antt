use Rattle.std.proofs.Common.{sym}
use Rattle.load_lines.proofs.Instructions.{none_refused, no_other}
use Rattle.load_lines.proofs.Completions.{roomy_first}
use Rattle.load_lines.proofs.source.Source.instruction.Goals as goal

pub returns-in_default-clause-refused : goal.returns-in_default-clause-refused
returns-in_default-clause-refused c = none_refused c.args.self.now _ _ _ _ (sym c.requires) (no_other _ c.in_default.not-Name c.in_default.not-Reserved c.in_default.not-Sign) c.outside.ensures

pub returns-in_default-clause-begins : goal.returns-in_default-clause-begins
returns-in_default-clause-begins c = roomy_first _ (λ _. c.outside.ensures)
