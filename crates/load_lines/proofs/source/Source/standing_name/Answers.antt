use Rattle.load_lines.proofs.Chain.{up}
use Rattle.load_lines.proofs.Leaves.{name_refused, name_read}
use Rattle.load_lines.proofs.source.Source.standing_name.Goals as goal

pub returns-in_err-any_word-clause-refused : goal.returns-in_err-any_word-clause-refused
returns-in_err-any_word-clause-refused c = up _ c.from_residual.ensures.1 (name_refused c.args.self.now _ _ c.in_err-any_word.ensures.refused)

pub returns-clause-reads : goal.returns-clause-reads
returns-clause-reads c = name_read c.args.self.now _ _ _ c.requires c.in_ok-any_word.ensures.reads
