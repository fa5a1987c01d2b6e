use Rattle.std.proofs.Common.{rules}
use Rattle.load_tree.proofs.configuration.text_end.Goals as goal

pub returns-in-Some-clause-refused : goal.returns-in-Some-clause-refused
returns-in-Some-clause-refused c = search rules

pub returns-in-None-clause-reads : goal.returns-in-None-clause-reads
returns-in-None-clause-reads c = search rules
