use Rattle.std.proofs.Common.{◌∙◌}
use Rattle.load_lines.proofs.Instructions.{listed_read, listed_refused}
use Rattle.load_lines.proofs.Through.{ok_through, err_through}
use Rattle.load_lines.proofs.Breaks.{map_breaks}
use Rattle.load_lines.proofs.Completions.{operands_is}
use Rattle.load_lines.proofs.source.Source.operands.Goals as goal

pub returns-clause-refused : goal.returns-clause-refused
returns-clause-refused c = err_through c.some_operands.result c.some_operands.ensures.refused (λ e bad.
    (listed_refused c.args.self.now _ _ (λ e. c.in_default.not-LineEnd (c.lead.ensures ∙ e)) bad))

pub returns-clause-reads : goal.returns-clause-reads
returns-clause-reads c = ok_through c.some_operands.result c.some_operands.ensures.reads (λ x here.
    listed_read c.args.self.now _ _ _ here)

pub returns-clause-begins : goal.returns-clause-begins
returns-clause-begins c = err_through c.some_operands.result c.some_operands.ensures.begins (λ e bad. map_breaks (λ x. x) operands_is bad)
